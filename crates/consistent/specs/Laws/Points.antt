-- What each point comes to, over the tables of the words.
use Rattle.std.specs.Prelude.{ℕ, ◌*◌, ◌≤◌, ◌≡◌, Bool, true, ◌&&◌, leb, ltb, length, drop}
use Rattle.std.proofs.Common.{arith, sym, ◌∙◌, subst, eqb→eq}
use Rattle.std.proofs.Math.Path.{refl, ap}
use mathlib.Core.List.{List, Memᴰ as Mem}
use borrow.Author.Tests.{leb-true, le-leb}
use Rattle.component.specs.Laws.Tests.{both}
use Rattle.model.specs.Facts.{Asc}
use Rattle.model.specs.Lists.{all, has, keys, values, is_ascending}
use Rattle.model.specs.Cells.{Cell, same, below, is_kind, touch_at}
use Rattle.model.specs.Masks.{mask_of, masked}
use Rattle.model.specs.Update.{most_entities, most_cells}
use Rattle.model.proofs.Laws.Tests.{T_true, true_of}
use Rattle.model.proofs.Laws.Orders.{cells}
use Rattle.model.proofs.Laws.Members.{all-in, all-out, has_of}
use Rattle.model.proofs.Laws.Sorted.{ascending-in}
use Rattle.model.proofs.Laws.Masks.{rows-of-keys}
use Rattle.model.specs.Shared.{shared_in}
use Rattle.table.specs.Rows.{cell, are_zero, table1, table4, is_table1, is_table4, is_table_of}
use Rattle.table.specs.Laws.Words.{keys_length}
use Rattle.table.specs.Laws.Images.{table-facts}
use Rattle.layout.specs.Widths.{entity_width, cell_width, id_width}
use Rattle.layout.specs.Rows.{entities_in, cells_in, ids_in}
use Rattle.layout.specs.State.{entities_len, decode, spare_words, entity_words, cell_words, occupied_words, emptied_words, id_words, group_words, entity_count, cell_count, occupied_count, emptied_count, id_count, group_count, next_id, kind_of}
use Rattle.layout.specs.Points.{tidy, long_enough, point1, point2, point3, point4, point5, point6, point7, point8, point9}
use Rattle.layout.proofs.Laws.Images.{entities-laws, cells-laws}
use Rattle.layout.proofs.Laws.Lengths.{entities-room, cells-room, ids-room}
use Rattle.layout.proofs.Laws.Cut.{entities-long, cells-long, ids-long}
use Rattle.neighbourhood.specs.Standing.{Cells, HasTable}
use Rattle.points_check.specs.Points.{entities_right, cells_right, records_right, coordinates_right, nets_right}
use Rattle.points_check.specs.Laws.Readings.{cells-keys, entities-keys}
use Rattle.points_check.specs.Laws.Conjunctions.{within-order}
use Rattle.points_check.specs.Laws.Cells.{Tabled, tabled, as_many, table-zeros}
use Rattle.masks_check.specs.Rows.{row_right}

-- How many occupied cells there are.
cells-counted : (n : ℕ) (s : List ℕ) → length (keys (cells_in n s)) ≡ n
cells-counted n s = ap length (cells-keys n s) ∙ keys_length cell cell_width n s

-- Point 1 over any words of entities.
within-is : (a : Bool) (n m : ℕ) (s t : List ℕ) → length s ≡ entities_len
    → (a && (leb n most_entities && (leb m most_cells && is_table1 entity_width n s)))
    ≡ (a && (tidy entity_width most_entities n s && (leb m most_cells && (is_ascending ltb (keys (entities_in n s)) && (leb (length (entities_in n s)) most_entities && leb (length (keys (cells_in m t))) most_cells)))))
unfolding is_table_of
within-is a n m s t e =
    within-order a (leb n most_entities) (leb m most_cells) (leb (entity_width * n) (length s)) (is_ascending ltb (keys (table1 entity_width n s))) (are_zero (drop (entity_width * n) s))
    (λ b. le-leb (entity_width * n) (length s) (omega (arith, entities-room n (leb-true n most_entities b))))
    ∙ (λ i. a && (tidy entity_width most_entities n s && (leb m most_cells && (is_ascending ltb (sym (entities-keys n s) i) && (leb (sym (entities-laws.counted n s) i) most_entities && leb (sym (cells-counted m t) i) most_cells)))))

module _ (w : List ℕ) where
  -- What point 1 says of the counts.
  pub few-rows : point1 w ≡ true → (entity_count w ≤ most_entities) × (cell_count w ≤ most_cells)
  unfolding point1
  few-rows e =
      let a = both (are_zero (spare_words w)) _ e in
      let b = both (tidy entity_width most_entities (entity_count w) (entity_words w)) _ a.1 in
      (leb-true (entity_count w) most_entities (both (leb (entity_count w) most_entities) _ b.0).0, leb-true (cell_count w) most_cells (both (leb (cell_count w) most_cells) _ b.1).0)

  -- What points 2, 5, 6, 7 and 8 are, by their tables.
  pub point2-is : cells_right (entity_words w) (entity_count w) (cell_words w) (cell_count w) (id_words w) (id_count w) ≡ point2 w
  unfolding cells_right point2 decode
  point2-is = refl

  pub point5-is : records_right (entity_words w) (entity_count w) (id_words w) (id_count w) (group_words w) (group_count w) ≡ point5 w
  unfolding records_right point5 decode
  point5-is = refl

  pub point6-is : all (λ g. ltb g (next_id w)) (values (ids_in (id_count w) (id_words w))) ≡ point6 w
  unfolding point6 decode
  point6-is = refl

  pub point7-is : coordinates_right (entity_words w) (entity_count w) (occupied_words w) (occupied_count w) (emptied_words w) (emptied_count w) ≡ point7 w
  unfolding coordinates_right point7 decode
  point7-is = refl

  pub point8-is : nets_right (cell_words w) (cell_count w) (occupied_words w) (occupied_count w) (emptied_words w) (emptied_count w) ≡ point8 w
  unfolding nets_right point8 decode
  point8-is = refl

  -- What point 3 is.
  pub point3-is : all (row_right (kind_of w) (keys (table4 cell_width (cell_count w) (cell_words w)))) (cells_in (cell_count w) (cell_words w)) ≡ point3 w
  unfolding point3 decode
  point3-is = ap (λ (l : List Cell). all (row_right (kind_of w) l) (cells_in (cell_count w) (cell_words w))) (sym (cells-keys (cell_count w) (cell_words w)))

  -- What point 9 is.
  pub point9-is : is_kind (kind_of w) ≡ point9 w
  unfolding point9 decode
  point9-is = refl

-- Rows whose masks are right are a table of cells with exact masks.
module _ (kind m : ℕ) (s : List ℕ) (ok : is_table4 cell_width m s ≡ true) (right : all (row_right kind (keys (table4 cell_width m s))) (cells_in m s) ≡ true) where
  masks-exact : cells_in m s ≡ masked (touch_at kind) (keys (cells_in m s))
  masks-exact =
      rows-of-keys (mask_of (touch_at kind) (keys (cells_in m s))) (cells_in m s)
      (λ p x. eqb→eq p.1 (mask_of (touch_at kind) (keys (cells_in m s)) p.0)
      (all-out (row_right kind (keys (cells_in m s))) (cells_in m s) (T_true (ap (λ (l : List Cell). all (row_right kind l) (cells_in m s)) (cells-keys m s) ∙ right)) x))

  -- The table that stands in the words.
  cells-stand : Cells kind s m (cells_in m s)
  cells-stand =
      let f = table-facts cell cell_width m s ok in
      record {
        image = sym (cells-laws.written m s f.fits (table-zeros cell_width m s ok) tt);
        number = sym (cells-laws.counted m s);
        fits = f.fits;
        asc = subst (λ (l : List Cell). Asc below l) (sym (cells-keys m s)) f.asc;
        exact = masks-exact;
      }

module _ (w : List ℕ) (long : long_enough w ≡ true) where
  -- What point 1 is.
  pub point1-is : entities_right (spare_words w) (entity_words w) (entity_count w) (cell_count w) ≡ point1 w
  unfolding entities_right point1 decode
  point1-is = within-is (are_zero (spare_words w)) (entity_count w) (cell_count w) (entity_words w) (cell_words w) (entities-long w long)

  cells-room-for : cell_width * most_cells ≤ length (cell_words w)
  cells-room-for = omega (arith, cells-room most_cells (omega arith), cells-long w long)

  ids-room-for : id_width * most_cells ≤ length (id_words w)
  ids-room-for = omega (arith, ids-room most_cells (omega arith), ids-long w long)

  -- What the test of point 2 asks, where point 1 holds.
  pub asks-cells : point1 w ≡ true → (entity_width * entity_count w ≤ length (entity_words w)) × (cell_count w ≤ most_cells) × (cell_width * most_cells ≤ length (cell_words w)) × (id_width * most_cells ≤ length (id_words w))
  asks-cells e =
      let f = few-rows w e in
      (omega (arith, entities-room (entity_count w) f.0, entities-long w long), f.1, cells-room-for, ids-room-for)

  -- What point 2 says of the tables.
  pub tables : point2 w ≡ true → Tabled (entity_words w) (entity_count w) (cell_words w) (cell_count w) (id_words w) (id_count w)
  tables e = tabled (entity_words w) (entity_count w) (cell_words w) (cell_count w) (id_words w) (id_count w) cells-room-for ids-room-for (point2-is w ∙ e)

  -- Each entity's cell has an id, where point 2 holds.
  pub all-with-id : point2 w ≡ true → all (has same (keys (table4 id_width (id_count w) (id_words w)))) (values (entities_in (entity_count w) (entity_words w))) ≡ true
  all-with-id e =
      let l : List Cell = values (entities_in (entity_count w) (entity_words w)) in
      true_of (all (has same (keys (table4 id_width (id_count w) (id_words w)))) l)
      (all-in (has same (keys (table4 id_width (id_count w) (id_words w)))) l (λ c m. has_of cells (subst (λ (k : List Cell). Mem c k) (sym (tables e).ids-are) (ascending-in cells l m))))

  -- The rows of the entities are there, where point 1 holds.
  pub entities-there : point1 w ≡ true → entity_width * entity_count w ≤ length (entity_words w)
  entities-there e = omega (arith, entities-room (entity_count w) (few-rows w e).0, entities-long w long)

  counts-agree : point2 w ≡ true → cell_count w ≡ id_count w
  counts-agree e = as_many (entity_words w) (entity_count w) (cell_words w) (cell_count w) (id_words w) (id_count w) cells-room-for ids-room-for (point2-is w ∙ e)

  module _ (two : point2 w ≡ true) where
    -- The occupied cells stand in their words, where points 2 and 3 hold.
    pub cells-at-kind : point3 w ≡ true → Cells (kind_of w) (cell_words w) (cell_count w) (cells_in (cell_count w) (cell_words w))
    cells-at-kind three = cells-stand (kind_of w) (cell_count w) (cell_words w) (tables two).cells-table (point3-is w ∙ three)

    -- What the test of point 4 asks, where points 2 and 3 hold.
    pub asks-parts : point3 w ≡ true
        → HasTable (cell_words w) (cell_count w) × (keys (table4 id_width (cell_count w) (id_words w)) ≡ keys (table4 cell_width (cell_count w) (cell_words w))) × (id_width * cell_count w ≤ length (id_words w)) × (cell_count w ≤ most_cells)
    asks-parts three =
        let t = tables two in (
          record { kind = kind_of w; table = cells_in (cell_count w) (cell_words w); cells = cells-at-kind three },
          ap (λ n. keys (table4 id_width n (id_words w))) (counts-agree two) ∙ t.ids-are ∙ sym t.cells_are,
          omega (arith, ids-room (cell_count w) t.few-cells, ids-long w long),
          t.few-cells,
        )

    -- What point 4 is.
    pub point4-is : shared_in (touch_at (kind_of w)) (ids_in (cell_count w) (id_words w)) ≡ point4 w
    unfolding point4 decode
    point4-is = ap (λ n. shared_in (touch_at (kind_of w)) (ids_in n (id_words w))) (counts-agree two)
