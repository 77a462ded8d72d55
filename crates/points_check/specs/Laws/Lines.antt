-- Lists whose members are read one after the other: tests of all members that go along.
use Rattle.std.specs.Prelude.{ℕ, zero, suc, ◌+◌, ◌*◌, ◌≤◌, ◌<◌, ◌≡◌, Bool, true, false, ◌&&◌, List, [], ◌∷◌, length, drop, get_or}
use Rattle.std.proofs.Common.{refl, add-one, arith, sym, ap, ◌∙◌, drop_of_length-le, drop-cons}
use Rattle.std.specs.List.{list_all, range_with_len}
use Rattle.std.specs.Cmp.Lexicographic.{pointwise}
use Rattle.model.specs.Lists.{all, equal, each, count}
use Rattle.model.proofs.Laws.Members.{each-length, count-length}
use Rattle.neighbourhood.proofs.Laws.Lines.{each-drop}
use Rattle.neighbourhood.proofs.Laws.Listing.{count-there}
use Rattle.table.specs.Rows.{cell_at}
use Rattle.points_check.specs.Lines.{Lines, cells_at}

-- Members by their number.
pub lines_of : {A : Type 0} {n : ℕ} {at : ℕ → A} (l : List A) (d : A) → length l ≡ n → ((i : ℕ) → i < n → get_or l i d ≡ at i) → Lines l n at
lines_of l d e f =
    record { len = e; is = λ i h. drop-cons l i d (omega arith) ∙ ap (λ x. x ∷ drop (suc i) l) (f i h) }

-- What stands at a number.
pub lines_at : {A : Type 0} {l : List A} {n : ℕ} {at : ℕ → A} → Lines l n at → (i : ℕ) → i < n → (d : A) → get_or l i d ≡ at i
lines_at {l} r i h d = let e : length l ≡ _ = r.len in ap (λ k. get_or k 0 d) (sym (drop-cons l i d (omega arith)) ∙ r.is i h)

-- The same members, read in another way.
pub lines-as : {A : Type 0} {l : List A} {n : ℕ} {at bt : ℕ → A} → Lines l n at → ((i : ℕ) → i < n → at i ≡ bt i) → Lines l n bt
lines-as {l} r f = record { len = r.len; is = λ i h. r.is i h ∙ ap (λ x. x ∷ drop (suc i) l) (f i h) }

-- What a rule gives for the members.
pub lines-each : {A B : Type 0} (f : A → B) {l : List A} {n : ℕ} {at : ℕ → A} → Lines l n at → Lines (each f l) n (λ i. f (at i))
lines-each f {l} {n} {at} r =
    record {
      len = each-length f l ∙ r.len;
      is = λ i h. sym (each-drop f i l) ∙ ap (each f) (r.is i h) ∙ ap (λ k. f (at i) ∷ k) (each-drop f (suc i) l);
    }

module _ {A : Type 0} {l : List A} {n : ℕ} {at : ℕ → A} (r : Lines l n at) where
  lines_end : (i : ℕ) → n ≤ i → drop i l ≡ []
  lines_end i h = let e : length l ≡ n = r.len in let g : length l ≤ i = omega arith in drop_of_length-le l g

  module _ (p : A → Bool) where
    -- A member that fails.
    pub all-no : (i : ℕ) → i < n → p (at i) ≡ false → all p (drop i l) ≡ false
    all-no i h e = ap (all p) (r.is i h) ∙ ap (λ b. b && all p (drop (suc i) l)) e

    -- A member that passes.
    pub all-next : (i : ℕ) → i < n → p (at i) ≡ true → all p (drop i l) ≡ all p (drop (i + 1) l)
    all-next i h e =
        ap (all p) (r.is i h) ∙ ap (λ b. b && all p (drop (suc i) l)) e ∙ ap (λ k. all p (drop k l)) (sym (add-one i))

    -- No member is left.
    pub all_end : (i : ℕ) → n ≤ i → all p (drop i l) ≡ true
    all_end i h = ap (all p) (lines_end i h)

module _ {A : Type 0} (eq : A → A → Bool) {l m : List A} {n : ℕ} {at bt : ℕ → A} (r : Lines l n at) (q : Lines m n bt) where
  -- Two members that differ.
  pub equal-no : (i : ℕ) → i < n → eq (at i) (bt i) ≡ false → equal eq (drop i l) (drop i m) ≡ false
  equal-no i h e = (λ t. equal eq (r.is i h t) (q.is i h t)) ∙ ap (λ b. b && equal eq (drop (suc i) l) (drop (suc i) m)) e

  -- Two members that are the same.
  pub equal_next : (i : ℕ) → i < n → eq (at i) (bt i) ≡ true → equal eq (drop i l) (drop i m) ≡ equal eq (drop (i + 1) l) (drop (i + 1) m)
  equal_next i h e =
      (λ t. equal eq (r.is i h t) (q.is i h t))
      ∙ ap (λ b. b && equal eq (drop (suc i) l) (drop (suc i) m)) e
      ∙ ap (λ k. equal eq (drop k l) (drop k m)) (sym (add-one i))

  -- No member is left.
  pub equal-end : (i : ℕ) → n ≤ i → equal eq (drop i l) (drop i m) ≡ true
  equal-end i h = λ t. equal eq (lines_end r i h t) (lines_end q i h t)

-- Two lists that are read alike are one.
pub lines-one : {A : Type 0} {l m : List A} {n : ℕ} {at : ℕ → A} → Lines l n at → Lines m n at → l ≡ m
lines-one {A} {l} {m} {n} {at} r q = from n 0 (omega arith)
  where
    from : (k i : ℕ) → k + i ≡ n → drop i l ≡ drop i m
    from zero i e = lines_end r i (omega arith) ∙ sym (lines_end q i (omega arith))
    from (suc k) i e = r.is i (omega arith) ∙ ap (λ x. at i ∷ x) (from k (suc i) (omega arith)) ∙ sym (q.is i (omega arith))

-- The numbers from 0 on, one by one.
pub counted-lines : (n : ℕ) → Lines (count 0 n) n (λ i. i)
counted-lines n = lines_of (count 0 n) 0 (count-length 0 n) (λ i h. count-there n i 0 h)

-- The cells that stand at one place of the rows, one by one.
pub at-lines : (s : List ℕ) (w at n : ℕ) → Lines (cells_at s w at n) n (λ i. cell_at s (w * i + at))
unfolding cells_at
at-lines s w at n = lines-each (λ (i : ℕ). cell_at s (w * i + at)) (counted-lines n)

-- A test of all numbers below the number of members, which is one of the members.
pub lines-all : {A : Type 0} {l : List A} {n : ℕ} {at : ℕ → A} → Lines l n at → (p : A → Bool) (q : ℕ → Bool) → ((i : ℕ) → i < n → q i ≡ p (at i)) → list_all q (range_with_len 0 n) ≡ all p l
lines-all {A} {l} {n} {at} r p q f = from n 0 (omega arith)
  where
    from : (k i : ℕ) → k + i ≡ n → list_all q (range_with_len i k) ≡ all p (drop i l)
    from zero i e = sym (ap (all p) (lines_end r i (omega arith)))
    from (suc k) i e =
        let h : i < n = omega arith in
        (λ t. f i h t && from k (i + 1) (omega arith) t)
        ∙ sym (ap (all p) (r.is i h) ∙ ap (λ m. p (at i) && all p (drop m l)) (sym (add-one i)))

-- One that is a test of the members of two lists.
pub lines-equal : {A : Type 0} (eq : A → A → Bool) {l m : List A} {n : ℕ} {at bt : ℕ → A} → Lines l n at → Lines m n bt → (q : ℕ → Bool) → ((i : ℕ) → i < n → q i ≡ eq (at i) (bt i)) → list_all q (range_with_len 0 n) ≡ equal eq l m
lines-equal {A} eq {l} {m} {n} {at} {bt} r s q f = from n 0 (omega arith)
  where
    from : (k i : ℕ) → k + i ≡ n → list_all q (range_with_len i k) ≡ equal eq (drop i l) (drop i m)
    from zero i e = sym (λ t. equal eq (lines_end r i (omega arith) t) (lines_end s i (omega arith) t))
    from (suc k) i e =
        let h : i < n = omega arith in
        (λ t. f i h t && from k (i + 1) (omega arith) t)
        ∙ sym ((λ t. equal eq (r.is i h t) (s.is i h t)) ∙ ap (λ k. eq (at i) (bt i) && equal eq (drop k l) (drop k m)) (sym (add-one i)))

-- The test of two slices is that of two lists.
pub pointwise_equal : {A : Type 0} (eq : A → A → Bool) (l m : List A) → pointwise eq l m ≡ equal eq l m
pointwise_equal eq [] [] = refl
pointwise_equal eq [] (y ∷ m) = refl
pointwise_equal eq (x ∷ l) [] = refl
pointwise_equal eq (x ∷ l) (y ∷ m) = ap (λ b. eq x y && b) (pointwise_equal eq l m)
