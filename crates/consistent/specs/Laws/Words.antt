-- What consistent words hold: their tables, as the functions that read them ask.
use Prim.Native.Nat.{ℕ, ◌*◌, ◌≤◌}
use Rattle.std.proofs.Common.{arith, sym, ap, ◌∙◌, subst, subst₂, take-append-drop, leb-true}
use Rattle.std.specs.Prelude.{◌≡◌, true, List, ◌++◌, leb, ltb, length, drop}
use Rattle.std.proofs.Math.Path.{refl}
use Rattle.component.specs.Laws.Tests.{both}
use Rattle.model.specs.Facts.{Asc, Ok}
use Rattle.model.specs.Lists.{keys, values}
use Rattle.model.specs.Cells.{Cell, below}
use Rattle.model.specs.Groups.{Group}
use Rattle.model.specs.Update.{most_entities, most_cells, touch_of}
use Rattle.model.specs.Consistent.{consistent_by, kind_known}
use Rattle.model.proofs.Laws.Tests.{T_true, and-snd}
use Rattle.model.proofs.Laws.Orders.{numbers}
use Rattle.model.proofs.Laws.Members.{each-each}
use Rattle.model.proofs.Laws.Sorted.{ascending-asc}
use Rattle.model.proofs.Laws.Records.{records-keys}
use Rattle.model.proofs.Laws.Occupied.{occupied-asc}
use Rattle.model.proofs.Laws.Kinds.{kind-touching}
use Rattle.model.proofs.Laws.Consistency.{ok_out, ids-asc}
use Rattle.table.specs.Rows.{number, cell, is_table1, is_table4, table1, table4, are_zero}
use Rattle.layout.specs.Widths.{entity_width, cell_width, net_width, id_width, group_width}
use Rattle.layout.specs.Rows.{entity_of, id_of, group_of, cells_image, entities_in, cells_in, ids_in, groups_in}
use Rattle.layout.specs.State.{state_len, decode, entity_words, cell_words, occupied_words, emptied_words, id_words, group_words, entity_count, cell_count, occupied_count, emptied_count, id_count, group_count}
use Rattle.layout.specs.Points.{tidy}
use Rattle.layout.specs.Facts.{Orderly, BeginsWith}
use Rattle.layout.proofs.Laws.Cut.{entities-long, cells-long, occupied-long, emptied-long, ids-long, groups-long}
use Rattle.layout.proofs.Laws.Lengths.{entities-room, cells-room, net-room, ids-room, groups-room}
use Rattle.layout.proofs.Laws.Tables.{table-by}
use Rattle.layout.proofs.Laws.Fitting.{consistent-fits}
use Rattle.layout.proofs.Laws.Standing.{image-stands}
use Rattle.layout.proofs.Laws.Orderly.{orderly-out}
use Rattle.layout.proofs.Theorems.Canonical.{consistent-image}
use Rattle.neighbourhood.specs.Standing.{Cells}
use Rattle.consistent.specs.Laws.Sure.{Sure}

-- Tidy rows are few.
tidy-few : (wide most n : ℕ) (s : List ℕ) → tidy wide most n s ≡ true → n ≤ most
tidy-few wide most n s t = leb-true n most (both (leb n most) (are_zero (drop (wide * n) s)) t).0

module _ (w : List ℕ) (sure : Sure w) where
  orderly : Orderly w
  orderly = orderly-out w sure.good

  -- The state that they stand for is consistent.
  pub ok : Ok (touch_of (decode w)) (decode w)
  ok = ok_out (touch_of (decode w)) (kind-touching (decode w).kind).flip (decode w) (and-snd (kind_known (decode w)) (consistent_by (touch_of (decode w)) (decode w)) (T_true orderly.yard))

  -- They begin with its image.
  stands : BeginsWith (decode w) w
  stands =
      let r = consistent-image w sure.good sure.long in
      subst (BeginsWith (decode w)) (ap (λ (l : List ℕ). l ++ drop state_len w) (sym r.1) ∙ take-append-drop state_len w)
      (image-stands (decode w) (consistent-fits (decode w) r.0) (drop state_len w))

  -- The entities are a table.
  pub entities-table : is_table1 entity_width (entity_count w) (entity_words w) ≡ true
  unfolding decode entities_in
  entities-table =
      table-by number entity_width most_entities (entity_count w) (entity_words w) (omega arith) orderly.entity-rows
      (λ h. omega (arith, entities-room (entity_count w) h, entities-long w sure.long))
      (subst (Asc ltb) (each-each (λ (p : ℕ × Cell). p.0) entity_of (table1 entity_width (entity_count w) (entity_words w))) ok.sound.asc)

  -- The cells with an id are a table.
  pub ids-table : is_table4 id_width (id_count w) (id_words w) ≡ true
  unfolding decode ids_in
  ids-table =
      table-by cell id_width most_cells (id_count w) (id_words w) (omega arith) orderly.id-rows
      (λ h. omega (arith, ids-room (id_count w) h, ids-long w sure.long))
      (subst (Asc below) (each-each (λ (p : Cell × ℕ). p.0) id_of (table4 id_width (id_count w) (id_words w))) (ids-asc (touch_of (decode w)) (decode w) ok))

  records-asc : Asc ltb (keys (decode w).records)
  records-asc =
      subst (Asc ltb) (sym (ap keys ok.records-are ∙ records-keys (decode w).occupancy.entities (decode w).groups.ids)) (ascending-asc numbers (values (decode w).groups.ids))

  -- The groups are a table.
  pub groups-table : is_table1 group_width (group_count w) (group_words w) ≡ true
  unfolding decode groups_in
  groups-table =
      table-by number group_width most_cells (group_count w) (group_words w) (omega arith) orderly.group-rows
      (λ h. omega (arith, groups-room (group_count w) h, groups-long w sure.long))
      (subst (Asc ltb) (each-each (λ (p : ℕ × Group). p.0) group_of (table1 group_width (group_count w) (group_words w))) records-asc)

  -- How many rows each table has at most, and that they fit.
  pub entities-few : (entity_width * entity_count w ≤ length (entity_words w)) × (entity_count w ≤ most_entities)
  entities-few =
      let h = tidy-few entity_width most_entities (entity_count w) (entity_words w) orderly.entity-rows in
      (omega (arith, entities-room (entity_count w) h, entities-long w sure.long), h)

  pub groups-few : (group_width * group_count w ≤ length (group_words w)) × (group_count w ≤ most_cells)
  groups-few =
      let h = tidy-few group_width most_cells (group_count w) (group_words w) orderly.group-rows in
      (omega (arith, groups-room (group_count w) h, groups-long w sure.long), h)

  pub occupied-few : (net_width * occupied_count w ≤ length (occupied_words w)) × (occupied_count w ≤ most_cells)
  occupied-few =
      let h = tidy-few net_width most_cells (occupied_count w) (occupied_words w) orderly.occupied-rows in
      (omega (arith, net-room (occupied_count w) h, occupied-long w sure.long), h)

  pub emptied-few : (net_width * emptied_count w ≤ length (emptied_words w)) × (emptied_count w ≤ most_cells)
  emptied-few =
      let h = tidy-few net_width most_cells (emptied_count w) (emptied_words w) orderly.emptied-rows in
      (omega (arith, net-room (emptied_count w) h, emptied-long w sure.long), h)

  pub cells-few : cell_count w ≤ most_cells
  cells-few = tidy-few cell_width most_cells (cell_count w) (cell_words w) orderly.cell-rows

  masks-are : (decode w).occupancy.masks ≡ cells_in (cell_count w) (cell_words w)
  unfolding decode
  masks-are = refl

  cells-of-state : Cells (decode w).kind (cell_words w) (cell_count w) (decode w).occupancy.masks
  cells-of-state =
      record {
        image = stands.cell-words ∙ ap (λ (n : ℕ). cells_image n (decode w).occupancy.masks) (sym (cells-long w sure.long));
        number = stands.cell-count;
        fits = omega (arith, cells-room (cell_count w) cells-few, cells-long w sure.long);
        asc = occupied-asc (touch_of (decode w)) (decode w).occupancy ok.sound;
        exact = ok.sound.exact;
      }

  -- The occupied cells stand in their words.
  pub cells-stand : Cells (decode w).kind (cell_words w) (cell_count w) (cells_in (cell_count w) (cell_words w))
  cells-stand = subst (Cells (decode w).kind (cell_words w) (cell_count w)) masks-are cells-of-state

-- The occupied cells stand in words that are theirs.
pub cells-here : (n : ℕ) (rows w : List ℕ) → Sure w → n ≡ cell_count w → rows ≡ cell_words w → Cells (decode w).kind rows n (cells_in n rows)
cells-here n rows w sure p q = subst₂ (λ (m : ℕ) (s : List ℕ). Cells (decode w).kind s m (cells_in m s)) (sym p) (sym q) (cells-stand w sure)
