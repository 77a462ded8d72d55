-- What a lookup reads from the words of a table.
use Prim.Native.Nat.{ℕ, ◌+◌, ◌*◌, ◌≤◌}
use native.Mathlib.Omega.{arith}
use mathlib.Core.Path.{◌≡◌, sym, ap, ◌∙◌}
use mathlib.Core.Bool.{true}
use mathlib.Core.List.{List}
use lib.Dec.{eqb, ltb}
use lib.ListN.{length, get_or}
use Rattle.component.specs.Order.{same, below}
use Rattle.component.specs.declared.Cell.{Cell}
use Rattle.model.specs.Lists.{keys, get}
use Rattle.std.specs.Prelude.{Ok, Err}
use Rattle.table.specs.Rows.{number, cell, cell_at, table1, table4, is_table1, is_table4, place_of}
use Rattle.table.specs.Laws.Kinds.{number-lawful, cell-lawful}
use Rattle.table.specs.Laws.Words.{rest_at}
use Rattle.table.specs.Laws.Answers.{found_below, found-rest, missing-none}
use Rattle.table.specs.Laws.Images.{table-facts}
use Rattle.layout.specs.Widths.{crowd_count, crowd_width, entity_cell, entity_width}
use Rattle.model.specs.Occupancy.{Occupancy}
use Rattle.map.specs.declared.Counts.{Counts}
use Rattle.map.specs.Held.{Held, counted}
use Rattle.map.proofs.Moving.{ents-shows}
use Rattle.std.specs.declared.option.Option.TheVariants.{Some, None}
use Rattle.map.specs.StandOf.{stand_of}
use Rattle.map.specs.Laws.Tally.{entity-cell}

module _ (m : ℕ) (s : List ℕ) (ok : is_table4 crowd_width m s ≡ true) (c : Cell) (i : ℕ) where
  -- The row of a cell that is found is within the words.
  pub counted_within : Ok i ≡ place_of below (keys (table4 crowd_width m s)) c → crowd_width * i + crowd_width ≤ length s
  counted_within e = omega (arith, found_below cell cell-lawful crowd_width m s c i e, (table-facts cell crowd_width m s ok).fits)

  -- The number of a cell that is found.
  pub counted-found : Ok i ≡ place_of below (keys (table4 crowd_width m s)) c → get_or s (crowd_width * i + crowd_count) 0 ≡ counted (get same (table4 crowd_width m s) c)
  counted-found e =
      sym (ap counted (found-rest cell cell-lawful crowd_width m s c i ok e) ∙ rest_at crowd_width m s i crowd_count 0 (found_below cell cell-lawful crowd_width m s c i e) (omega arith))

  -- The number of a cell that is missing.
  pub counted-missing : Err i ≡ place_of below (keys (table4 crowd_width m s)) c → 0 ≡ counted (get same (table4 crowd_width m s) c)
  counted-missing e = sym (ap counted (missing-none cell cell-lawful crowd_width m s c i ok e))

module _ (n : ℕ) (s : List ℕ) (ok : is_table1 entity_width n s ≡ true) (k i : ℕ) where
  -- The row of an entity that is found is within the words.
  pub stand_within : Ok i ≡ place_of ltb (keys (table1 entity_width n s)) k → entity_width * i + entity_width ≤ length s
  stand_within e = omega (arith, found_below number number-lawful entity_width n s k i e, (table-facts number entity_width n s ok).fits)

  -- The cell of an entity that is found.
  pub stand-found : Ok i ≡ place_of ltb (keys (table1 entity_width n s)) k → (d : Cell) → d ≡ cell_at s (entity_width * i + entity_cell) → Some d ≡ stand_of (get eqb (table1 entity_width n s) k)
  stand-found e d q =
      ap Some (q ∙ entity-cell n s i (found_below number number-lawful entity_width n s k i e))
      ∙ ap stand_of (sym (found-rest number number-lawful entity_width n s k i ok e))

  -- An entity that is missing stands nowhere.
  pub stand-missing : Err i ≡ place_of ltb (keys (table1 entity_width n s)) k → None ≡ stand_of (get eqb (table1 entity_width n s) k)
  stand-missing e = sym (ap stand_of (missing-none number number-lawful entity_width n s k i ok e))

-- The row of an entity that is found is within the words of the map.
pub entity_within : {kind : ℕ} {ents cells crowd occ emp : List ℕ} {n : Counts} {o : Occupancy} (h : Held kind ents cells crowd occ emp n o) (k i : ℕ) → Ok i ≡ place_of ltb (keys (table1 entity_width n.entities ents)) k → entity_width * i + entity_width ≤ length ents
entity_within {kind} {ents} {cells} {crowd} {occ} {emp} {n} h k i e = stand_within n.entities ents (ents-shows h).table k i e
