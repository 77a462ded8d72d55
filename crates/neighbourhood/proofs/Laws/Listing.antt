-- The set bits of a row's mask, one after the other.
use Rattle.std.specs.Prelude.{ℕ, zero, suc, ◌+◌, ◌≤◌, ◌<◌, ◌≡◌, Bool, cond, List, [], ◌∷◌, ◌++◌, length, take, drop, get_or}
use Rattle.std.proofs.Common.{add-zero, le_of_suc-le-suc, not-suc-le-zero, add-one, arith, sym, ◌∙◌, length-append, take-append-drop, drop_of_length-le, drop-cons, take_all}
use Rattle.std.proofs.Math.Path.{refl, ap}
use Rattle.std.proofs.Math.Bool.{true, false}
use Rattle.model.specs.Lists.{keep, each, count}
use Rattle.model.specs.Cells.{Cell}
use Rattle.model.specs.Masks.{bit}
use Rattle.model.proofs.Laws.Members.{keep_append, each_append, each-length, count-length}
use Rattle.neighbourhood.specs.Rows.{row_cell, row_mask, row_near, set_of, row_list, row_for, onward_from, onward}
use Rattle.neighbourhood.proofs.Laws.Walking.{keep-next, keep-past}

-- The number at a place of the numbers from a on.
count_at : (a n k d : ℕ) → k < n → get_or (count a n) k d ≡ a + k
count_at a zero k d h = absurd (not-suc-le-zero h)
count_at a (suc n) zero d h = sym (add-zero a)
count_at a (suc n) (suc k) d h = let e : suc a + k ≡ a + suc k = omega arith in count_at (suc a) n k d (le_of_suc-le-suc h) ∙ e

pub count-there : (n k d : ℕ) → k < n → get_or (count 0 n) k d ≡ k
count-there n k d h = let e : 0 + k ≡ k = omega arith in count_at 0 n k d h ∙ e

-- The numbers from k on.
count_next : (n k : ℕ) → k < n → drop k (count 0 n) ≡ k ∷ drop (k + 1) (count 0 n)
count_next n k h =
    drop-cons (count 0 n) k 0 (omega (arith, count-length 0 n))
    ∙ (λ i. count-there n k 0 h i ∷ drop (sym (add-one k) i) (count 0 n))

-- The first members that pass are no more than all that pass.
kept-few : {A B : Type 0} (f : A → B) (p : A → Bool) (x : B) (k : ℕ) (l : List A) → length (x ∷ each f (keep p (take k l))) ≤ suc (length (each f (keep p l)))
kept-few f p x k l =
    omega (
      arith,
      each-length f (keep p (take k l)),
      each-length f (keep p l),
      ap (λ m. length (keep p m)) (take-append-drop k l),
      ap length (keep_append p (take k l) (drop k l)),
      length-append (keep p (take k l)) (keep p (drop k l)),
    )

module _ (s : List ℕ) (n i : ℕ) where
  -- Before the first bit all are left.
  pub onward-all : onward_from s n i 0 ≡ onward s n i
  unfolding onward_from onward
  onward-all = refl

  -- After the last none is.
  pub onward-none : (k : ℕ) → 26 ≤ k → onward_from s n i k ≡ []
  unfolding onward_from
  onward-none k h = ap (λ l. each (λ j. row_for s n (row_near s i j)) (set_of s i l)) (drop_of_length-le (count 0 26) {i = k} h)

  module _ (k : ℕ) (h : k < 26) where
    rest : (b : Bool) → bit (row_mask s i) k ≡ b
        → onward_from s n i k ≡ each (λ j. row_for s n (row_near s i j)) (cond b (k ∷ set_of s i (drop (k + 1) (count 0 26))) (set_of s i (drop (k + 1) (count 0 26))))
    unfolding onward_from
    rest b e =
        ap (λ l. each (λ j. row_for s n (row_near s i j)) (set_of s i l)) (count_next 26 k h)
        ∙ ap (λ t. each (λ j. row_for s n (row_near s i j)) (cond t (k ∷ set_of s i (drop (k + 1) (count 0 26))) (set_of s i (drop (k + 1) (count 0 26))))) e

    -- A set bit leads to a row.
    pub onward-yes : bit (row_mask s i) k ≡ true → onward_from s n i k ≡ row_for s n (row_near s i k) ∷ onward_from s n i (k + 1)
    unfolding onward_from
    onward-yes e = rest true e

    -- A bit that is not set leads to none.
    pub onward-no : bit (row_mask s i) k ≡ false → onward_from s n i k ≡ onward_from s n i (k + 1)
    unfolding onward_from
    onward-no e = rest false e

-- The cell of row i and those that its first k bits tell of.
unfoldable pub near_up_to : List ℕ → ℕ → ℕ → List Cell
near_up_to s i k = row_cell s i ∷ each (row_near s i) (set_of s i (take k (count 0 26)))

module _ (s : List ℕ) (i : ℕ) where
  -- No bit.
  pub near_none : near_up_to s i 0 ≡ row_cell s i ∷ []
  unfolding near_up_to
  near_none = refl

  -- The cell of the row comes first.
  pub near_first : (k : ℕ) → (r : List Cell) × (near_up_to s i k ≡ row_cell s i ∷ r)
  unfolding near_up_to
  near_first k = (each (row_near s i) (set_of s i (take k (count 0 26))), refl)

  -- All bits.
  pub near-all : (k : ℕ) → 26 ≤ k → near_up_to s i k ≡ row_cell s i ∷ row_list s i
  unfolding near_up_to row_list
  near-all k h = ap (λ l. row_cell s i ∷ each (row_near s i) (set_of s i l)) (take_all k (count 0 26) h)

  -- There are no more than in all.
  pub near-few : (k : ℕ) → length (near_up_to s i k) ≤ suc (length (row_list s i))
  unfolding near_up_to row_list
  near-few k = kept-few (row_near s i) (bit (row_mask s i)) (row_cell s i) k (count 0 26)

  module _ (k : ℕ) (h : k < 26) where
    here : get_or (count 0 26) k 0 ≡ k
    here = count-there 26 k 0 h

    -- A set bit.
    pub near-yes : bit (row_mask s i) k ≡ true → near_up_to s i (k + 1) ≡ near_up_to s i k ++ (row_near s i k ∷ [])
    unfolding near_up_to
    near-yes e =
        ap (λ l. row_cell s i ∷ each (row_near s i) l) (keep-next (count 0 26) k 0 h (bit (row_mask s i)) (ap (bit (row_mask s i)) here ∙ e))
        ∙ ap (λ l. row_cell s i ∷ l) (each_append (row_near s i) (set_of s i (take k (count 0 26))) (get_or (count 0 26) k 0 ∷ []))
        ∙ ap (λ j. row_cell s i ∷ (each (row_near s i) (set_of s i (take k (count 0 26))) ++ (row_near s i j ∷ []))) here

    -- A bit that is not set.
    pub near-no : bit (row_mask s i) k ≡ false → near_up_to s i (k + 1) ≡ near_up_to s i k
    unfolding near_up_to
    near-no e = ap (λ l. row_cell s i ∷ each (row_near s i) l) (keep-past (count 0 26) k 0 h (bit (row_mask s i)) (ap (bit (row_mask s i)) here ∙ e))
