-- The eight points of consistent words say that the tables are tidy and that the state they stand for is consistent.
use Rattle.std.specs.Prelude.{ℕ, ◌*◌, ◌≤◌, min, ◌≡◌, Bool, true, ◌&&◌, List, leb, drop}
use Rattle.std.proofs.Common.{arith, sym, ap, ◌∙◌, leb-true}
use Rattle.component.specs.Laws.Tests.{and_in, both}
use Rattle.model.specs.Lists.{all, values}
use Rattle.model.specs.Cells.{cell_in_range}
use Rattle.model.specs.Update.{State, most_entities, most_cells, touch_of}
use Rattle.model.specs.Consistent.{within_number, cells_exact, masks_exact, ids_shared, records_exact, ids_below_next, coordinates_in_range, nets_in_order, kind_known}
use Rattle.table.specs.Rows.{are_zero}
use Rattle.layout.specs.Widths.{entity_width, cell_width, net_width, id_width, group_width}
use Rattle.layout.specs.Rows.{net_in}
use Rattle.layout.specs.State.{decode, spare_words, entity_words, cell_words, occupied_words, emptied_words, id_words, group_words, entity_count, cell_count, occupied_count, emptied_count, id_count, group_count}
use Rattle.layout.specs.Points.{tidy, point1, point2, point3, point4, point5, point6, point7, point8, point9, consistent_words}
use Rattle.layout.specs.Facts.{Orderly}
use Rattle.layout.proofs.Laws.Broken.{all-points}

module _ (w : List ℕ) where
  abbrev s : State
  s = decode w

  -- Points 1 to 8, each with what follows it.
  abbrev from7 : Bool
  from7 = point7 w && point8 w

  abbrev from6 : Bool
  from6 = point6 w && from7

  abbrev from5 : Bool
  from5 = point5 w && from6

  abbrev from4 : Bool
  from4 = point4 w && from5

  abbrev from3 : Bool
  from3 = point3 w && from4

  abbrev from2 : Bool
  from2 = point2 w && from3

  abbrev from1 : Bool
  from1 = point1 w && from2

  -- The points of the state, each with what follows it.
  abbrev of7 : Bool
  of7 = coordinates_in_range s && nets_in_order s

  abbrev of6 : Bool
  of6 = ids_below_next s && of7

  abbrev of5 : Bool
  of5 = records_exact s && of6

  abbrev of4 : Bool
  of4 = ids_shared (touch_of s) s && of5

  abbrev of3 : Bool
  of3 = masks_exact (touch_of s) s && of4

  abbrev of2 : Bool
  of2 = cells_exact s && of3

  abbrev of1 : Bool
  of1 = within_number s && of2

  -- The parts of the points of words.
  abbrev spare-ok : Bool
  spare-ok = are_zero (spare_words w)

  abbrev ents-ok : Bool
  ents-ok = tidy entity_width most_entities (entity_count w) (entity_words w)

  abbrev few-ok : Bool
  few-ok = leb (cell_count w) most_cells

  abbrev cells-ok : Bool
  cells-ok = tidy cell_width most_cells (cell_count w) (cell_words w)

  abbrev ids-ok : Bool
  ids-ok = tidy id_width most_cells (id_count w) (id_words w)

  abbrev groups-ok : Bool
  groups-ok = tidy group_width most_cells (group_count w) (group_words w)

  abbrev occs-ok : Bool
  occs-ok = tidy net_width most_cells (occupied_count w) (occupied_words w)

  abbrev emps-ok : Bool
  emps-ok = tidy net_width most_cells (emptied_count w) (emptied_words w)

  -- A net list that its table has space for is read whole.
  whole : (n : ℕ) (l : List ℕ) → tidy net_width most_cells n l ≡ true → net_in (min n most_cells) l ≡ net_in n l
  whole n l e =
      let h : n ≤ most_cells = leb-true n most_cells (both (leb n most_cells) (are_zero (drop (net_width * n) l)) e).0 in
      ap (λ (k : ℕ). net_in k l) (let f : min n most_cells ≡ n = omega arith in f)

  -- Then point 7 is that of the yard.
  ranged : occs-ok ≡ true → emps-ok ≡ true → point7 w ≡ coordinates_in_range s
  unfolding point7 decode
  ranged p q =
      λ i. all cell_in_range (values s.occupancy.entities)
      && (all cell_in_range (whole (occupied_count w) (occupied_words w) p i) && all cell_in_range (whole (emptied_count w) (emptied_words w) q i))

  -- Consistent words are orderly.
  pub orderly-out : consistent_words w ≡ true → Orderly w
  unfolding point1 point2 point3 point4 point5 point6 point8 point9
  orderly-out e =
      let p0 = both (point9 w) from1 (sym (all-points w) ∙ e) in
      let p1 = both (point1 w) from2 p0.1 in
      let p2 = both (point2 w) from3 p1.1 in
      let p3 = both (point3 w) from4 p2.1 in
      let p4 = both (point4 w) from5 p3.1 in
      let p5 = both (point5 w) from6 p4.1 in
      let p6 = both (point6 w) from7 p5.1 in
      let p7 = both (point7 w) (point8 w) p6.1 in
      let a1 = both spare-ok (ents-ok && (few-ok && within_number s)) p1.0 in
      let a2 = both ents-ok (few-ok && within_number s) a1.1 in
      let a3 = both few-ok (within_number s) a2.1 in
      let b1 = both cells-ok (ids-ok && cells_exact s) p2.0 in
      let b2 = both ids-ok (cells_exact s) b1.1 in
      let d1 = both groups-ok (records_exact s) p5.0 in
      let h1 = both occs-ok (emps-ok && nets_in_order s) p7.1 in
      let h2 = both emps-ok (nets_in_order s) h1.1 in
      record {
        spare-zero = a1.0;
        entity-rows = a2.0;
        cell-few = a3.0;
        cell-rows = b1.0;
        id-rows = b2.0;
        group-rows = d1.0;
        occupied-rows = h1.0;
        emptied-rows = h2.0;
        yard =
            and_in (kind_known s) of1 p0.0
            (and_in (within_number s) of2 a3.1
            (and_in (cells_exact s) of3 b2.1
            (and_in (masks_exact (touch_of s) s) of4 p3.0
            (and_in (ids_shared (touch_of s) s) of5 p4.0
            (and_in (records_exact s) of6 d1.1
            (and_in (ids_below_next s) of7 p6.0
            (and_in (coordinates_in_range s) (nets_in_order s) (sym (ranged h1.0 h2.0) ∙ p7.0) h2.1)))))));
      }

  -- Orderly words are consistent.
  pub orderly-in : Orderly w → consistent_words w ≡ true
  unfolding point1 point2 point3 point4 point5 point6 point8 point9
  orderly-in o =
      let p0 = both (kind_known s) of1 o.yard in
      let p1 = both (within_number s) of2 p0.1 in
      let p2 = both (cells_exact s) of3 p1.1 in
      let p3 = both (masks_exact (touch_of s) s) of4 p2.1 in
      let p4 = both (ids_shared (touch_of s) s) of5 p3.1 in
      let p5 = both (records_exact s) of6 p4.1 in
      let p6 = both (ids_below_next s) of7 p5.1 in
      let p7 = both (coordinates_in_range s) (nets_in_order s) p6.1 in
      all-points w ∙ and_in (point9 w) from1 p0.0
      (and_in (point1 w) from2
      (and_in spare-ok (ents-ok && (few-ok && within_number s)) o.spare-zero
      (and_in ents-ok (few-ok && within_number s) o.entity-rows (and_in few-ok (within_number s) o.cell-few p1.0)))
      (and_in (point2 w) from3
      (and_in cells-ok (ids-ok && cells_exact s) o.cell-rows (and_in ids-ok (cells_exact s) o.id-rows p2.0))
      (and_in (point3 w) from4 p3.0
      (and_in (point4 w) from5 p4.0
      (and_in (point5 w) from6 (and_in groups-ok (records_exact s) o.group-rows p5.0)
      (and_in (point6 w) from7 p6.0
      (and_in (point7 w) (point8 w) (ranged o.occupied-rows o.emptied-rows ∙ p7.0)
      (and_in occs-ok (emps-ok && nets_in_order s) o.occupied-rows (and_in emps-ok (nets_in_order s) o.emptied-rows p7.1)))))))))
