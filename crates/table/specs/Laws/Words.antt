-- Which words a row and the rows of a table have.
use Prim.Native.Nat.{ℕ, zero, suc, ◌+◌, ◌*◌, ◌≤◌, ◌<◌}
use Rattle.std.proofs.Common.{le_of_suc-le-suc, not-suc-le-zero, add-zero, add_comm, mul-zero, mul-le-mul_left, arith, ◌∙◌, get_or-take, get_or-drop, take-add, drop-drop}
use Rattle.std.proofs.Math.Nat.{mul-suc}
use Rattle.std.specs.Prelude.{◌≡◌, get_or}
use Rattle.std.proofs.Math.Path.{refl, sym, ap}
use mathlib.Core.List.{List, [], ◌∷◌, ◌++◌}
use Rattle.std.proofs.Math.ListN.{length, take, drop, length-drop}
use Rattle.std.proofs.Math.Seq.{slice, length-take-le}
use Rattle.std.proofs.lemmas.List.{drop-take}
use Rattle.model.specs.Lists.{gather, keys}
use Rattle.component.specs.declared.Cell.{Cell}
use Rattle.table.specs.Rows.{Kind, number, cell, cell_at, rows_of, entry_of, row_of, table_of, table1, table4}
use Rattle.table.specs.Laws.Kinds.{Lawful}

-- w * suc i, as the rows go on.
step : (w i : ℕ) → w + w * i ≡ w * suc i
step w i = add_comm w (w * i) ∙ sym (mul-suc w i)

-- A row that is there ends within the rows.
pub row_fits : (w n i : ℕ) → i < n → w * i + w ≤ w * n
row_fits w n i h = omega (arith, mul-suc w i, mul-le-mul_left w h)

-- Row i has the words from w * i on.
pub row_at : (w n : ℕ) (s : List ℕ) (i : ℕ) → i < n → get_or (rows_of w n s) i [] ≡ take w (drop (w * i) s)
row_at w zero s i h = absurd (not-suc-le-zero h)
row_at w (suc n) s zero h = ap (λ (m : ℕ). take w (drop m s)) (sym (mul-zero w))
row_at w (suc n) s (suc i) h =
    row_at w n (drop w s) i (le_of_suc-le-suc h)
    ∙ ap (λ (l : List ℕ). take w l) (drop-drop (w * i) w s ∙ ap (λ (m : ℕ). drop m s) (step w i))

word : (w at k : ℕ) (s : List ℕ) → k < w → get_or (take w (drop at s)) k 0 ≡ get_or s (at + k) 0
word w at k s h = get_or-take w (drop at s) k 0 h ∙ get_or-drop at s k 0

-- Word j of row i is word w * i + j.
pub word_at : (w n : ℕ) (s : List ℕ) (i j : ℕ) → i < n → j < w → get_or (get_or (rows_of w n s) i []) j 0 ≡ get_or s (w * i + j) 0
word_at w n s i j h k = ap (λ (r : List ℕ). get_or r j 0) (row_at w n s i h) ∙ word w (w * i) j s k

-- Word j behind a key of k words in row i is word w * i + (k + j).
pub rest_at : (w n : ℕ) (s : List ℕ) (i k j : ℕ) → i < n → k + j < w → get_or (drop k (get_or (rows_of w n s) i [])) j 0 ≡ get_or s (w * i + (k + j)) 0
rest_at w n s i k j h l = get_or-drop k (get_or (rows_of w n s) i []) j 0 ∙ word_at w n s i (k + j) h l

slice-drop : (a f t : ℕ) (l : List ℕ) → slice f t (drop a l) ≡ slice (a + f) (a + t) l
slice-drop a f t l = ap (λ (r : List ℕ). drop f r) (sym (drop-take a t l)) ∙ drop-drop f a (take (a + t) l)

module _ {K : Type 0} (kind : Kind K) (w : ℕ) where
  -- The table of n rows has n rows.
  pub table-length : (n : ℕ) (s : List ℕ) → length (table_of kind w n s) ≡ n
  unfolding table_of
  table-length zero s = refl
  table-length (suc n) s = ap suc (table-length n (drop w s))

  -- It has n keys.
  pub keys_length : (n : ℕ) (s : List ℕ) → length (keys (table_of kind w n s)) ≡ n
  unfolding table_of
  keys_length zero s = refl
  keys_length (suc n) s = ap suc (keys_length n (drop w s))

  -- Key i is read from row i.
  pub key-at : (n : ℕ) (s : List ℕ) (i : ℕ) (d : K) → i < n → get_or (keys (table_of kind w n s)) i d ≡ kind.read (take w (drop (w * i) s))
  unfolding table_of
  key-at zero s i d h = absurd (not-suc-le-zero h)
  key-at (suc n) s zero d h = ap (λ (m : ℕ). kind.read (take w (drop m s))) (sym (mul-zero w))
  key-at (suc n) s (suc i) d h =
      key-at n (drop w s) i d (le_of_suc-le-suc h)
      ∙ ap (λ (l : List ℕ). kind.read (take w l)) (drop-drop (w * i) w s ∙ ap (λ (m : ℕ). drop m s) (step w i))

  -- From row i on, the table begins with row i.
  pub entry_at : (n : ℕ) (s : List ℕ) (i : ℕ) → i < n → drop i (table_of kind w n s) ≡ entry_of kind (get_or (rows_of w n s) i []) ∷ drop (suc i) (table_of kind w n s)
  unfolding table_of
  entry_at zero s i h = absurd (not-suc-le-zero h)
  entry_at (suc n) s zero h = refl
  entry_at (suc n) s (suc i) h = entry_at n (drop w s) i (le_of_suc-le-suc h)

  -- The first i rows are the table of i rows.
  pub take-table : (n i : ℕ) (s : List ℕ) → i ≤ n → take i (table_of kind w n s) ≡ table_of kind w i s
  unfolding table_of
  take-table n zero s h = refl
  take-table zero (suc i) s h = absurd (not-suc-le-zero h)
  take-table (suc n) (suc i) s h = ap (λ (l : List (K × List ℕ)). entry_of kind (take w s) ∷ l) (take-table n i (drop w s) (le_of_suc-le-suc h))

  module _ (laws : Lawful kind) (wide : kind.size ≤ w) where
    -- The words of the rows are the first w * n words.
    pub words-all : (n : ℕ) (s : List ℕ) → w * n ≤ length s → gather (row_of kind) (table_of kind w n s) ≡ take (w * n) s
    unfolding table_of
    words-all zero s h = ap (λ (m : ℕ). take m s) (sym (mul-zero w))
    words-all (suc n) s h =
        let q = mul-suc w n in
        let l : length (take w s) ≡ w = length-take-le w s (omega arith) in
        let d = length-drop w s in
        (λ i. laws.writes (take w s) (omega arith) i ++ words-all n (drop w s) (omega arith) i)
        ∙ sym (take-add w (w * n) s)
        ∙ ap (λ (m : ℕ). take m s) (step w n)

    -- The words of the rows before row i are those before w * i.
    pub words-front : (n i : ℕ) (s : List ℕ) → i ≤ n → w * n ≤ length s → gather (row_of kind) (take i (table_of kind w n s)) ≡ take (w * i) s
    words-front n i s h k =
        ap (gather (row_of kind)) (take-table n i s h) ∙ words-all i s (omega (arith, mul-le-mul_left w h))

    -- The words of the rows from row i on are those from w * i to w * n.
    pub words_back : (n i : ℕ) (s : List ℕ) → i ≤ n → w * n ≤ length s → gather (row_of kind) (drop i (table_of kind w n s)) ≡ slice (w * i) (w * n) s
    unfolding table_of
    words_back n zero s h k = words-all n s k ∙ ap (λ (m : ℕ). drop m (take (w * n) s)) (sym (mul-zero w))
    words_back zero (suc i) s h k = absurd (not-suc-le-zero h)
    words_back (suc n) (suc i) s h k =
        let q = mul-suc w n in
        let d = length-drop w s in
        words_back n i (drop w s) (le_of_suc-le-suc h) (omega arith)
        ∙ slice-drop w (w * i) (w * n) s
        ∙ (λ t. slice (step w i t) (step w n t) s)

-- The key of one word of row i is word w * i.
pub number_at : (w n : ℕ) (s : List ℕ) → 1 ≤ w → (i d : ℕ) → i < n → get_or (keys (table1 w n s)) i d ≡ get_or s (w * i) 0
number_at w n s p i d h = key-at number w n s i d h ∙ word w (w * i) 0 s p ∙ ap (λ (m : ℕ). get_or s m 0) (add-zero (w * i))

-- The key of four words of row i is the cell at word w * i.
pub cell-at : (w n : ℕ) (s : List ℕ) → 4 ≤ w → (i : ℕ) (d : Cell) → i < n → get_or (keys (table4 w n s)) i d ≡ cell_at s (w * i)
cell-at w n s p i d h =
    let a : get_or (take w (drop (w * i) s)) 0 0 ≡ get_or s (w * i) 0 = word w (w * i) 0 s (omega arith) ∙ ap (λ (m : ℕ). get_or s m 0) (add-zero (w * i)) in
    let b : get_or (take w (drop (w * i) s)) 1 0 ≡ get_or s (w * i + 1) 0 = word w (w * i) 1 s (omega arith) in
    let c : get_or (take w (drop (w * i) s)) 2 0 ≡ get_or s (w * i + 2) 0 = word w (w * i) 2 s (omega arith) in
    let e : get_or (take w (drop (w * i) s)) 3 0 ≡ get_or s (w * i + 3) 0 = word w (w * i) 3 s (omega arith) in
    key-at cell w n s i d h ∙ (λ t. record { grid = a t; z = b t; y = c t; x = e t })
