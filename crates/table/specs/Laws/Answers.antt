-- What the answer of a search says of a table.
use Rattle.std.specs.Prelude.{ℕ, suc, ◌<◌, ◌≡◌, true, List, [], drop, get_or}
use Rattle.std.proofs.Common.{arith, sym, ap, ◌∙◌}
use Rattle.std.proofs.Math.Option.{none, some}
use Rattle.model.specs.Lists.{has, keys, get}
use Rattle.std.specs.Prelude.{Result, Ok, Err}
use Rattle.table.specs.Rows.{Kind, rows_of, entry_of, table_of, is_table_of, is_found, place_of}
use Rattle.table.specs.Laws.Kinds.{Lawful}
use Rattle.table.specs.Laws.Words.{keys_length, key-at, row_at, entry_at}
use Rattle.table.specs.Laws.Places.{found_within, found-key, found_get, missing-get, found-test}
use Rattle.table.specs.Laws.Images.{table-facts}

-- A key is found exactly if it is one of the keys.
pub is_among : {K : Type 0} (kind : Kind K) → Lawful kind → (w n : ℕ) (s : List ℕ) → is_table_of kind w n s ≡ true → (k : K) (p : Result ℕ ℕ)
    → p ≡ place_of kind.less (keys (table_of kind w n s)) k → is_found p ≡ has kind.equal (keys (table_of kind w n s)) k
is_among kind laws w n s ok k p e = ap is_found e ∙ found-test laws.order k (keys (table_of kind w n s)) (table-facts kind w n s ok).asc

module _ {K : Type 0} (kind : Kind K) (laws : Lawful kind) (w n : ℕ) (s : List ℕ) (k : K) (i : ℕ) where
  -- A key that is found stands in one of the rows.
  pub found_below : Ok i ≡ place_of kind.less (keys (table_of kind w n s)) k → i < n
  found_below e = omega (arith, found_within kind.less k (keys (table_of kind w n s)) i e, keys_length kind w n s)

  -- The key of the row that is found is the key.
  pub found-is : (d : K) → Ok i ≡ place_of kind.less (keys (table_of kind w n s)) k → get_or (keys (table_of kind w n s)) i d ≡ k
  found-is d e = found-key laws.order k d (keys (table_of kind w n s)) i e

  -- Under a key that is found stand the words behind the key of its row.
  pub found-rest : is_table_of kind w n s ≡ true → Ok i ≡ place_of kind.less (keys (table_of kind w n s)) k
      → get kind.equal (table_of kind w n s) k ≡ some (drop kind.size (get_or (rows_of w n s) i []))
  found-rest ok e =
      let h : i < n = found_below e in
      let r : kind.read (get_or (rows_of w n s) i []) ≡ k =
      ap kind.read (row_at w n s i h) ∙ sym (key-at kind w n s i k h) ∙ found-is k e in
      found_get laws.order k (table_of kind w n s) i (entry_of kind (get_or (rows_of w n s) i [])) (drop (suc i) (table_of kind w n s))
      (table-facts kind w n s ok).asc (entry_at kind w n s i h) r

  -- Under a key that is missing nothing stands.
  pub missing-none : is_table_of kind w n s ≡ true → Err i ≡ place_of kind.less (keys (table_of kind w n s)) k → get kind.equal (table_of kind w n s) k ≡ none
  missing-none ok e = missing-get laws.order k (table_of kind w n s) i (table-facts kind w n s ok).asc e
