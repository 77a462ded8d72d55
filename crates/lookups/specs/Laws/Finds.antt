-- What is found under a key in the rows of a table.
use Prim.Native.Nat.{ℕ, ◌+◌, ◌*◌, ◌≤◌, ◌<◌}
use Rattle.std.proofs.Common.{arith, sym, ◌∙◌}
use Rattle.std.proofs.lemmas.Option.{none-some, same_Some}
use Rattle.std.specs.Result.{result_ok}
use Rattle.std.specs.Prelude.{Result, Option as Found, Some, None}
use Rattle.std.specs.Prelude.{◌≡◌, refl, Ok, Err, Bool, true, false, cond, ltb, length, drop, get_or}
use Rattle.std.proofs.Math.Path.{ap}
use mathlib.Core.List.{List, [], ◌∷◌}
use Rattle.std.proofs.Math.Option.{none, some}
use Rattle.std.proofs.Math.Dec.{eqb}
use Rattle.model.specs.Lists.{each, keys, get}
use Rattle.model.specs.Cells.{Cell, same, below}
use Rattle.model.specs.Groups.{Group}
use Rattle.table.specs.Rows.{number, cell, rows_of, cell_at, is_table1, is_table4, table1, table4, place_of}
use Rattle.table.specs.Laws.Kinds.{number-lawful, cell-lawful}
use Rattle.table.specs.Laws.Images.{table-facts}
use Rattle.table.specs.Laws.Words.{rest_at}
use Rattle.table.specs.Laws.Answers.{found_below, found-rest, missing-none}
use Rattle.layout.specs.Widths.{entity_width, entity_cell, cell_width, id_width, cell_id, group_width, group_grid, group_cells, group_entities, group_low, group_high}
use Rattle.layout.specs.Rows.{id_of, group_of, entities_in, cells_in, ids_in, groups_in}
use Rattle.told.specs.Told.{maybe, seen}
use Rattle.std.specs.Option.{MatchOption, IsSomeAnd}
use Rattle.std.specs.Int.Count.{ones}
use Rattle.model.specs.Questions.{ones_of}
use Rattle.lookups.specs.Rows.{group_at}

-- Where a search answers with a row alone, it has found that row.
pub row-found : (p : Result ℕ ℕ) (o : Found ℕ) (i : ℕ) → o ≡ result_ok p → o ≡ Some i → Ok i ≡ p
row-found (Ok j) o i e w = ap Ok (same_Some i j (sym w ∙ e))
row-found (Err j) o i e w = absurd (none-some i (sym e ∙ w))

-- Where it answers with none, it has found no row.
pub row-missing : (p : Result ℕ ℕ) (o : Found ℕ) → o ≡ result_ok p → o ≡ None → (i : ℕ) × (Err i ≡ p)
row-missing (Ok j) o e w = absurd (none-some j (sym w ∙ e))
row-missing (Err j) o e w = (j, refl)

get-each : {K B W : Type 0} (eq : K → K → Bool) (f : B → W) (t : List (K × B)) (k : K)
    → get eq (each (λ (p : K × B). (p.0, f p.1)) t) k ≡ seen f (get eq t k)
get-each eq f [] k = refl
get-each {K} {B} {W} eq f (p ∷ t) k = go (eq k p.0) (get-each eq f t k)
  where
    go : (b : Bool) → get eq (each (λ (p : K × B). (p.0, f p.1)) t) k ≡ seen f (get eq t k)
        → cond b (some (f p.1)) (get eq (each (λ (p : K × B). (p.0, f p.1)) t) k) ≡ seen f (cond b (some p.1) (get eq t k))
    go true e = refl
    go false e = e

word : (wide n : ℕ) (s : List ℕ) (i k j at : ℕ) → i < n → k + j < wide → wide * i + (k + j) ≡ at → get_or (drop k (get_or (rows_of wide n s) i [])) j 0 ≡ get_or s at 0
word wide n s i k j at h l e = rest_at wide n s i k j h l ∙ ap (λ (m : ℕ). get_or s m 0) e

-- The cell of an entity's row.
pub entity-cell : (n : ℕ) (s : List ℕ) (i : ℕ) → i < n → cell_at (drop entity_cell (get_or (rows_of entity_width n s) i [])) 0 ≡ cell_at s (entity_width * i + entity_cell)
entity-cell n s i h =
    let a = word entity_width n s i entity_cell 0 (entity_width * i + entity_cell) h (omega arith) (omega arith) in
    let b = word entity_width n s i entity_cell 1 (entity_width * i + entity_cell + 1) h (omega arith) (omega arith) in
    let c = word entity_width n s i entity_cell 2 (entity_width * i + entity_cell + 2) h (omega arith) (omega arith) in
    let d = word entity_width n s i entity_cell 3 (entity_width * i + entity_cell + 3) h (omega arith) (omega arith) in
    λ t. record { grid = a t; z = b t; y = c t; x = d t }

module _ (n : ℕ) (s : List ℕ) (k : ℕ) (i : ℕ) (ok : is_table1 entity_width n s ≡ true) where
  -- The row of an entity that is found is within the words.
  pub entity-inside : Ok i ≡ place_of ltb (keys (table1 entity_width n s)) k → entity_width * i + entity_width ≤ length s
  entity-inside e = omega (arith, found_below number number-lawful entity_width n s k i e, (table-facts number entity_width n s ok).fits)

  -- An entity that is found stands in the cell of its row.
  pub entity-found : Ok i ≡ place_of ltb (keys (table1 entity_width n s)) k → get eqb (entities_in n s) k ≡ some (cell_at s (entity_width * i + entity_cell))
  unfolding entities_in
  entity-found e =
      get-each eqb (λ (v : List ℕ). cell_at v 0) (table1 entity_width n s) k
      ∙ ap (seen (λ (v : List ℕ). cell_at v 0)) (found-rest number number-lawful entity_width n s k i ok e)
      ∙ ap some (entity-cell n s i (found_below number number-lawful entity_width n s k i e))

  -- An entity that is missing stands nowhere.
  pub entity-missing : Err i ≡ place_of ltb (keys (table1 entity_width n s)) k → get eqb (entities_in n s) k ≡ none
  unfolding entities_in
  entity-missing e =
      get-each eqb (λ (v : List ℕ). cell_at v 0) (table1 entity_width n s) k ∙ ap (seen (λ (v : List ℕ). cell_at v 0)) (missing-none number number-lawful entity_width n s k i ok e)

module _ (n : ℕ) (s : List ℕ) (k : Cell) (i : ℕ) (ok : is_table4 id_width n s ≡ true) where
  -- The row of a cell that is found is within the words.
  pub cell-inside : Ok i ≡ place_of below (keys (table4 id_width n s)) k → id_width * i + id_width ≤ length s
  cell-inside e = omega (arith, found_below cell cell-lawful id_width n s k i e, (table-facts cell id_width n s ok).fits)

  -- Under a cell that is found stands the number of its row.
  pub number-found : Ok i ≡ place_of below (keys (table4 id_width n s)) k → get same (each id_of (table4 id_width n s)) k ≡ some (get_or s (id_width * i + cell_id) 0)
  number-found e =
      let h = found_below cell cell-lawful id_width n s k i e in
      get-each same (λ (v : List ℕ). get_or v 0 0) (table4 id_width n s) k
      ∙ ap (seen (λ (v : List ℕ). get_or v 0 0)) (found-rest cell cell-lawful id_width n s k i ok e)
      ∙ ap some (word id_width n s i cell_id 0 (id_width * i + cell_id) h (omega arith) (omega arith))

  -- Under a cell that is missing stands nothing.
  pub number-missing : Err i ≡ place_of below (keys (table4 id_width n s)) k → get same (each id_of (table4 id_width n s)) k ≡ none
  number-missing e =
      get-each same (λ (v : List ℕ). get_or v 0 0) (table4 id_width n s) k ∙ ap (seen (λ (v : List ℕ). get_or v 0 0)) (missing-none cell cell-lawful id_width n s k i ok e)

-- The cells with an id, and the occupied cells with their masks, are rows of a cell and a number.
pub ids-rows : (n : ℕ) (s : List ℕ) → ids_in n s ≡ each id_of (table4 id_width n s)
unfolding ids_in
ids-rows n s = refl

pub cells-rows : (n : ℕ) (s : List ℕ) → cells_in n s ≡ each id_of (table4 cell_width n s)
unfolding cells_in
cells-rows n s = refl

module _ (n : ℕ) (s : List ℕ) (k : ℕ) (i : ℕ) (ok : is_table1 group_width n s ≡ true) where
  -- The row of a group that is found is within the words.
  pub group-inside : Ok i ≡ place_of ltb (keys (table1 group_width n s)) k → group_width * i + group_width ≤ length s
  group-inside e = omega (arith, found_below number number-lawful group_width n s k i e, (table-facts number group_width n s ok).fits)

  -- A group that is found is that of its row.
  pub group-found : Ok i ≡ place_of ltb (keys (table1 group_width n s)) k → get eqb (groups_in n s) k ≡ some (group_at s (group_width * i))
  unfolding groups_in
  group-found e =
      let h = found_below number number-lawful group_width n s k i e in
      let f : List ℕ → Group = λ v. (group_of (k, v)).1 in
      let a = word group_width n s i 1 0 (group_width * i + group_grid) h (omega arith) (omega arith) in
      let b = word group_width n s i 1 1 (group_width * i + group_cells) h (omega arith) (omega arith) in
      let m = word group_width n s i 1 2 (group_width * i + group_entities) h (omega arith) (omega arith) in
      let lx = word group_width n s i 1 3 (group_width * i + group_low) h (omega arith) (omega arith) in
      let ly = word group_width n s i 1 4 (group_width * i + group_low + 1) h (omega arith) (omega arith) in
      let lz = word group_width n s i 1 5 (group_width * i + group_low + 2) h (omega arith) (omega arith) in
      let hx = word group_width n s i 1 6 (group_width * i + group_high) h (omega arith) (omega arith) in
      let hy = word group_width n s i 1 7 (group_width * i + group_high + 1) h (omega arith) (omega arith) in
      let hz = word group_width n s i 1 8 (group_width * i + group_high + 2) h (omega arith) (omega arith) in
      get-each eqb f (table1 group_width n s) k
      ∙ ap (seen f) (found-rest number number-lawful group_width n s k i ok e)
      ∙ (λ t. some (record { grid = a t; count = b t; entities = m t; low = record { x = lx t; y = ly t; z = lz t }; high = record { x = hx t; y = hy t; z = hz t } }))

  -- A group that is missing is none.
  pub group-missing : Err i ≡ place_of ltb (keys (table1 group_width n s)) k → get eqb (groups_in n s) k ≡ none
  unfolding groups_in
  group-missing e =
      let f : List ℕ → Group = λ v. (group_of (k, v)).1 in
      get-each eqb f (table1 group_width n s) k ∙ ap (seen f) (missing-none number number-lawful group_width n s k i ok e)

-- What becomes of the mask that is found, if there is one.
pub count-found : (u r : Found ℕ) → MatchOption u (r ≡ None) (λ x. IsSomeAnd r (λ k. k ≡ ones x)) → maybe r ≡ ones_of (maybe u)
count-found None r e = ap maybe e
count-found (Some x) None e = absurd e
count-found (Some x) (Some k) e = ap some e
