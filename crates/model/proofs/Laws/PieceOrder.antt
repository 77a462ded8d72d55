-- The pieces of a list: non-empty, apart from one another, by their least cells; and the largest of them.
use Rattle.std.specs.Prelude.{ℕ, zero, suc, ◌≤◌, ◌<◌, ◌≡◌, refl, ◌⊎◌, Bool, true, false, not, T, length}
use Rattle.std.proofs.Common.{arith, sym, ap, subst, inl, inr, ⊎_elim, T_not, ltb→lt, nltb→le}
use mathlib.Core.List.Memᴰ.{cases_cons as mem-cons}
use mathlib.Core.List.Memᴰ.{head}
use mathlib.Core.List.Memᴰ.{not-nil as mem-nil}
use mathlib.Core.List.Memᴰ.{tail}
use mathlib.Core.List.{List, [], ◌∷◌, Memᴰ as Mem}
use Rattle.std.proofs.Math.Dec.{not_T}
use Rattle.model.specs.Facts.{Asc}
use Rattle.model.specs.Lists.{keep, has}
use Rattle.model.specs.Cells.{Cell, same, below}
use Rattle.model.specs.Groups.{part, pieces, parts, largest_piece, smaller}
use Rattle.model.proofs.Laws.Tests.{T_true, T_false}
use Rattle.model.proofs.Laws.Orders.{cells, numbers, is-or, lt-differ}
use Rattle.model.proofs.Laws.Members.{keep-in, keep_out, has_of}
use Rattle.model.proofs.Laws.Sorted.{asc-head, asc-tail, keep-asc}
use Rattle.model.proofs.Laws.Walks.{part-self}
use Rattle.model.proofs.Laws.Pieces.{pick, largest-of, others-out, takers}
use Rattle.model.proofs.Laws.Pairs.{Pairs, pairs-nil, pairs-cons, pairs-head, pairs-tail, sort-pairs}
use Rattle.model.proofs.Laws.Takes.{Apart}

-- The cell c is the least of the list.
pub record Least (p : List Cell) (c : Cell) : Type 0 where
  pub is-in : Mem c p
  pub no_less : (b : Cell) → Mem b p → T (not (below b c))

-- The least cell of the one is below the least cell of the other.
abbrev pub LeastBelow : List Cell → List Cell → Type 0
LeastBelow p q = (c d : Cell) → Least p c → Least q d → T (below c d)

-- The first cell of an ascending list is its least.
pub asc-least : {c : Cell} {l : List Cell} → Asc below (c ∷ l) → Least (c ∷ l) c
asc-least {c} s =
    record {
      is-in = head refl;
      no_less = λ b m. not_T (below b c) (λ t. ⊎_elim (λ e. lt-differ cells b c t e) (λ k. cells.irrefl c (cells.trans c b c (asc-head s b k) t)) (mem-cons m));
    }

module _ (touch : Cell → Cell → Bool) where
  -- Each cell of a piece is of the list.
  pub pieces-sub : (n : ℕ) (l : List Cell) {p : List Cell} {a : Cell} → Mem p (pieces touch n l) → Mem a p → Mem a l
  pieces-sub zero l m k = absurd (mem-nil m)
  pieces-sub (suc n) [] m k = absurd (mem-nil m)
  pieces-sub (suc n) (c ∷ l) {p} {a} m k =
      ⊎_elim (λ e. (keep_out (has same (part touch c l)) (c ∷ l) (subst (λ q. Mem a q) e k)).0)
      (λ j. tail (keep_out (λ d. not (has same (part touch c l) d)) l (pieces-sub n _ j k)).0) (mem-cons m)

  -- The first cell is in the first piece.
  piece-self : (c : Cell) (l : List Cell) → Mem c (keep (has same (part touch c l)) (c ∷ l))
  piece-self c l = keep-in (has same (part touch c l)) {l = c ∷ l} (head refl) (has_of cells (part-self touch c l))

  -- Each piece has a cell.
  pub pieces-some : (n : ℕ) (l : List Cell) {p : List Cell} → Mem p (pieces touch n l) → (c : Cell) × Mem c p
  pieces-some zero l m = absurd (mem-nil m)
  pieces-some (suc n) [] m = absurd (mem-nil m)
  pieces-some (suc n) (c ∷ l) m =
      ⊎_elim (λ e. (c, subst (λ q. Mem c q) (sym e) (piece-self c l)))
      (λ j. pieces-some n _ j) (mem-cons m)

  -- The pieces of an ascending list are ascending.
  pub pieces-asc : (n : ℕ) (l : List Cell) {p : List Cell} → Asc below l → Mem p (pieces touch n l) → Asc below p
  pieces-asc zero l s m = absurd (mem-nil m)
  pieces-asc (suc n) [] s m = absurd (mem-nil m)
  pieces-asc (suc n) (c ∷ l) s m =
      ⊎_elim (λ e. subst (Asc below) (sym e) (keep-asc (has same (part touch c l)) (c ∷ l) s))
      (λ j. pieces-asc n _ (keep-asc (λ d. not (has same (part touch c l) d)) l (asc-tail s)) j) (mem-cons m)

  -- The pieces are apart from one another.
  pub pieces-apart : (n : ℕ) (l : List Cell) → Pairs Apart (pieces touch n l)
  pieces-apart zero l = pairs-nil
  pieces-apart (suc n) [] = pairs-nil
  pieces-apart (suc n) (c ∷ l) =
      pairs-cons (λ q m a k j. T_not (has same (part touch c l) a) (keep_out (λ d. not (has same (part touch c l) d)) l (pieces-sub n _ m j)).1 (keep_out (has same (part touch c l)) (c ∷ l) k).1)
      (pieces-apart n (keep (λ d. not (has same (part touch c l) d)) l))

  -- The pieces of an ascending list stand by their least cells.
  pub pieces-least : (n : ℕ) (l : List Cell) → Asc below l → Pairs LeastBelow (pieces touch n l)
  pieces-least zero l s = pairs-nil
  pieces-least (suc n) [] s = pairs-nil
  pieces-least (suc n) (c ∷ l) s =
      pairs-cons
      (λ q m a b x y.
      let k : Mem b l = (keep_out (λ d. not (has same (part touch c l) d)) l (pieces-sub n _ m y.is-in)).0 in
      ⊎_elim (λ e. subst (λ z. T (below z b)) (sym e) (asc-head s b k))
      (λ j. absurd (T_not (below c a) (x.no_less c (piece-self c l)) (asc-head s a j)))
      (mem-cons (keep_out (has same (part touch c l)) (c ∷ l) x.is-in).0))
      (pieces-least n (keep (λ d. not (has same (part touch c l) d)) l) (keep-asc (λ d. not (has same (part touch c l) d)) l (asc-tail s)))

  -- No piece has more cells than the largest.
  pub largest-le : (p : List Cell) (ps : List (List Cell)) {x : List Cell} → Mem x (p ∷ ps) → length x ≤ length (largest_piece touch p ps).0
  largest-le p [] {x} m = ⊎_elim (λ e. let h : length x ≡ length p = ap length e in omega arith) (λ k. absurd (mem-nil k)) (mem-cons m)
  largest-le p (q ∷ qs) {x} m = go (smaller touch p (largest_piece touch q qs).0) refl (λ k. largest-le q qs k) (mem-cons m)
    where
      go : (b : Bool) → smaller touch p (largest_piece touch q qs).0 ≡ b → (Mem x (q ∷ qs) → length x ≤ length (largest_piece touch q qs).0) → (x ≡ p) ⊎ Mem x (q ∷ qs) → length x ≤ length (pick touch b p q qs).0
      go true e rec (inl d) = let h : length x ≡ length p = ap length d in omega (arith, ltb→lt (length p) (length (largest_piece touch q qs).0) (T_true e))
      go true e rec (inr k) = rec k
      go false e rec (inl d) = let h : length x ≡ length p = ap length d in omega arith
      go false e rec (inr k) = omega (arith, rec k, nltb→le (length p) (length (largest_piece touch q qs).0) (T_false e))

  module _ {R : List Cell → List Cell → Type 0} where
    -- The others stand as they stood.
    pub others-pairs : (p : List Cell) (ps : List (List Cell)) → Pairs R (p ∷ ps) → Pairs R (largest_piece touch p ps).1
    others-pairs p [] s = pairs-nil
    others-pairs p (q ∷ qs) s = go (smaller touch p (largest_piece touch q qs).0) (others-pairs q qs (pairs-tail s))
      where
        go : (b : Bool) → Pairs R (largest_piece touch q qs).1 → Pairs R (pick touch b p q qs).1
        go true r = pairs-cons (λ b m. pairs-head s b (others-out touch q qs m)) r
        go false r = pairs-tail s

    -- The largest stands in a relation that goes both ways to each of the others.
    pub largest-pairs : (flip : (a b : List Cell) → R a b → R b a) (p : List Cell) (ps : List (List Cell)) → Pairs R (p ∷ ps) → {x : List Cell} → Mem x (largest_piece touch p ps).1 → R (largest_piece touch p ps).0 x
    largest-pairs flip p [] s m = absurd (mem-nil m)
    largest-pairs flip p (q ∷ qs) s {x} m = go (smaller touch p (largest_piece touch q qs).0) (λ k. largest-pairs flip q qs (pairs-tail s) k) m
      where
        go : (b : Bool) → (Mem x (largest_piece touch q qs).1 → R (largest_piece touch q qs).0 x) → Mem x (pick touch b p q qs).1 → R (pick touch b p q qs).0 x
        go true rec k = ⊎_elim (λ e. subst (λ z. R (largest_piece touch q qs).0 z) (sym e) (flip p (largest_piece touch q qs).0 (pairs-head s (largest_piece touch q qs).0 (largest-of touch q qs)))) rec (mem-cons k)
        go false rec k = pairs-head s x k

    -- Each of the others has fewer cells than the largest, or as many and the largest stands before it.
    pub largest-first : (p : List Cell) (ps : List (List Cell)) → Pairs R (p ∷ ps) → {x : List Cell} → Mem x (largest_piece touch p ps).1 → (length x < length (largest_piece touch p ps).0) ⊎ ((length x ≡ length (largest_piece touch p ps).0) × R (largest_piece touch p ps).0 x)
    largest-first p [] s m = absurd (mem-nil m)
    largest-first p (q ∷ qs) s {x} m = go (smaller touch p (largest_piece touch q qs).0) refl (λ k. largest-first q qs (pairs-tail s) k) m
      where
        go : (b : Bool) → smaller touch p (largest_piece touch q qs).0 ≡ b →
            (Mem x (largest_piece touch q qs).1 → (length x < length (largest_piece touch q qs).0) ⊎ ((length x ≡ length (largest_piece touch q qs).0) × R (largest_piece touch q qs).0 x)) →
            Mem x (pick touch b p q qs).1 →
            (length x < length (pick touch b p q qs).0)
            ⊎ ((length x ≡ length (pick touch b p q qs).0) × R (pick touch b p q qs).0 x)
        go true e rec k = ⊎_elim (λ d. let h : length x ≡ length p = ap length d in inl (omega (arith, ltb→lt (length p) (length (largest_piece touch q qs).0) (T_true e)))) rec (mem-cons k)
        go false e rec k =
            let h : length x ≤ length p = omega (arith, largest-le q qs k, nltb→le (length p) (length (largest_piece touch q qs).0) (T_false e)) in
            ⊎_elim (λ d. inr (d, pairs-head s x k)) (λ n. inl (omega arith)) (is-or numbers (length x) (length p))

  -- The pieces that take next ids are apart from one another.
  pub takers-apart : (p : List Cell) (ps : List (List Cell)) → Pairs Apart (p ∷ ps) → Pairs Apart (takers touch p ps)
  takers-apart p ps s = sort-pairs (smaller touch) (λ x y f a m k. f a k m) (largest_piece touch p ps).1 (others-pairs p ps s)

  -- The first cell of each part of an ascending list is its least.
  pub parts-least : (l : List Cell) {p : List Cell} → Asc below l → Mem p (parts touch l) → (c : Cell) × (m : List Cell) × (p ≡ c ∷ m) × Least p c
  parts-least l {p} s m = go p (pieces-asc (length l) l s m) (pieces-some (length l) l m).1
    where
      go : (q : List Cell) → Asc below q → Mem (pieces-some (length l) l m).0 q → (c : Cell) × (r : List Cell) × (q ≡ c ∷ r) × Least q c
      go [] a k = absurd (mem-nil k)
      go (c ∷ r) a k = (c, r, refl, asc-least a)
