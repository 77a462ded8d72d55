-- The connected parts of a list: each is joined by paths, none touches a cell of another, together they are the list.
use Rattle.std.specs.Prelude.{ℕ, zero, suc, ◌≤◌, ◌≡◌, refl, ◌⊎◌, Bool, true, false, cond, not, T, length}
use Rattle.std.proofs.Common.{arith, sym, subst, inl, inr, ⊎_elim, T_not}
use mathlib.Core.List.Memᴰ.{cases_cons as mem-cons}
use mathlib.Core.List.Memᴰ.{cast as mem-cast}
use mathlib.Core.List.Memᴰ.{head}
use mathlib.Core.List.Memᴰ.{not-nil as mem-nil}
use mathlib.Core.List.Memᴰ.{tail}
use mathlib.Core.List.{List, [], ◌∷◌, Memᴰ as Mem}
use Rattle.std.proofs.Math.Dec.{not_T}
use Rattle.model.specs.Cells.{Cell, same}
use Rattle.model.proofs.Laws.Orders.{cells}
use Rattle.model.specs.Lists.{keep, has, sort}
use Rattle.model.specs.Groups.{part, pieces, largest_piece, smaller}
use Rattle.model.specs.Paths.{Path}
use Rattle.model.proofs.Laws.Tests.{decided}
use Rattle.model.proofs.Laws.Members.{keep-in, keep_out, keep-length, has_of, of-has}
use Rattle.model.proofs.Laws.Sorted.{sort-in, sort-out}
use Rattle.model.proofs.Laws.Walks.{wider, join, back, part-self, part-closed, part-path}

module _ (touch : Cell → Cell → Bool) where
  -- The largest of the later pieces and the others with p before them, or p and the later pieces.
  abbrev pub pick : Bool → List Cell → List Cell → List (List Cell) → List Cell × List (List Cell)
  pick b p q qs = cond b ((largest_piece touch q qs).0, p ∷ (largest_piece touch q qs).1) (p, q ∷ qs)

  -- The largest piece is one of the pieces.
  pub largest-of : (p : List Cell) (ps : List (List Cell)) → Mem (largest_piece touch p ps).0 (p ∷ ps)
  largest-of p [] = head refl
  largest-of p (q ∷ qs) = go (smaller touch p (largest_piece touch q qs).0) (largest-of q qs)
    where
      go : (b : Bool) → Mem (largest_piece touch q qs).0 (q ∷ qs) → Mem (pick b p q qs).0 (p ∷ q ∷ qs)
      go true m = tail m
      go false m = head refl

  -- The others are pieces.
  pub others-out : (p : List Cell) (ps : List (List Cell)) {x : List Cell} → Mem x (largest_piece touch p ps).1 → Mem x (p ∷ ps)
  others-out p [] m = absurd (mem-nil m)
  others-out p (q ∷ qs) {x} m = go (smaller touch p (largest_piece touch q qs).0) (λ k. others-out q qs k) m
    where
      go : (b : Bool) → (Mem x (largest_piece touch q qs).1 → Mem x (q ∷ qs)) → Mem x (pick b p q qs).1 → Mem x (p ∷ q ∷ qs)
      go true rec k = ⊎_elim (λ e. head e) (λ j. tail (rec j)) (mem-cons k)
      go false rec k = tail k

  -- A piece is the largest or one of the others.
  pub largest-or : (p : List Cell) (ps : List (List Cell)) {x : List Cell} → Mem x (p ∷ ps) → (x ≡ (largest_piece touch p ps).0) ⊎ Mem x (largest_piece touch p ps).1
  largest-or p [] m = mem-cons m
  largest-or p (q ∷ qs) {x} m = go (smaller touch p (largest_piece touch q qs).0) (λ k. largest-or q qs k) (mem-cons m)
    where
      go : (b : Bool) → (Mem x (q ∷ qs) → (x ≡ (largest_piece touch q qs).0) ⊎ Mem x (largest_piece touch q qs).1) → (x ≡ p) ⊎ Mem x (q ∷ qs) → (x ≡ (pick b p q qs).0) ⊎ Mem x (pick b p q qs).1
      go true rec (inl e) = inr (head e)
      go true rec (inr k) = ⊎_elim (λ e. inl e) (λ j. inr (tail j)) (rec k)
      go false rec (inl e) = inl e
      go false rec (inr k) = inr k

  -- The pieces that take next ids, in the order in which they take them.
  abbrev pub takers : List Cell → List (List Cell) → List (List Cell)
  takers p ps = sort (smaller touch) (largest_piece touch p ps).1

  -- Each of them is a piece.
  pub takers-out : (p : List Cell) (ps : List (List Cell)) {x : List Cell} → Mem x (takers p ps) → Mem x (p ∷ ps)
  takers-out p ps m = others-out p ps (sort-out (smaller touch) (largest_piece touch p ps).1 m)

  -- A piece is the largest or takes a next id.
  pub takers-or : (p : List Cell) (ps : List (List Cell)) {x : List Cell} → Mem x (p ∷ ps) → (x ≡ (largest_piece touch p ps).0) ⊎ Mem x (takers p ps)
  takers-or p ps m = ⊎_elim inl (λ k. inr (sort-in (smaller touch) (largest_piece touch p ps).1 k)) (largest-or p ps m)

  -- A connected part: of the list, holding what touches it, joined by paths.
  pub record Piece (l p : List Cell) : Type 0 where
    pub sub : {a : Cell} → Mem a p → Mem a l
    pub closed : {a b : Cell} → Mem a p → Mem b l → T (touch a b) → Mem b p
    pub linked : {a b : Cell} → Mem a p → Mem b p → Path touch (λ x. Mem x l) a b

  module _ (flip : (a b : Cell) → T (touch a b) → T (touch b a)) where
    -- The first piece is a connected part.
    first_piece : (c : Cell) (l : List Cell) → Piece (c ∷ l) (keep (has same (part touch c l)) (c ∷ l))
    first_piece c l =
        record {
          sub = λ m. (keep_out (has same P) (c ∷ l) m).0;
          closed = λ m k t. keep-in (has same P) k (has_of cells (part-closed touch c l (in-part m) k t));
          linked = λ m k. join touch (part-path touch flip c l (in-part m)) (back touch flip (part-path touch flip c l (in-part k)));
        }
      where
        P : List Cell
        P = part touch c l

        in-part : {a : Cell} → Mem a (keep (has same P) (c ∷ l)) → Mem a P
        in-part m = of-has cells P (keep_out (has same P) (c ∷ l) m).1

    -- A connected part of what the first piece leaves is a connected part.
    later-piece : (c : Cell) (l p : List Cell) → Piece (keep (λ d. not (has same (part touch c l) d)) l) p → Piece (c ∷ l) p
    later-piece c l p ok =
        record {
          sub = λ m. tail (lies m).0;
          closed = λ m k t. ok.closed m (stays m k t) t;
          linked = λ m k. wider touch (λ x h. tail (keep_out (λ d. not (has same P d)) l h).0) (ok.linked m k);
        }
      where
        P : List Cell
        P = part touch c l

        lies : {a : Cell} → Mem a p → Mem a l × T (not (has same P a))
        lies m = keep_out (λ d. not (has same P d)) l (ok.sub m)

        out : {a b : Cell} → Mem a p → T (touch a b) → Mem b P → ⊥
        out {a} {b} m t k = T_not (has same P a) (lies m).1 (has_of cells (part-closed touch c l k (tail (lies m).0) (flip a b t)))

        stays : {a b : Cell} → Mem a p → Mem b (c ∷ l) → T (touch a b) → Mem b (keep (λ d. not (has same P d)) l)
        stays {a} {b} m k t =
            ⊎_elim (λ e. absurd (out m t (mem-cast e (part-self touch c l))))
            (λ j. keep-in (λ d. not (has same P d)) j (not_T (has same P b) (λ u. out m t (of-has cells P u)))) (mem-cons k)

    -- The first piece leaves a shorter list.
    shorter : (c : Cell) (l : List Cell) (n : ℕ) → suc (length l) ≤ suc n → length (keep (λ d. not (has same (part touch c l) d)) l) ≤ n
    shorter c l n h = omega (arith, keep-length (has same (part touch c l)) l)

    -- Each piece is a connected part.
    pub pieces_are : (n : ℕ) (l : List Cell) → length l ≤ n → {p : List Cell} → Mem p (pieces touch n l) → Piece l p
    pieces_are zero l h m = absurd (mem-nil m)
    pieces_are (suc n) [] h m = absurd (mem-nil m)
    pieces_are (suc n) (c ∷ l) h {p} m =
        ⊎_elim (λ e. subst (λ q. Piece (c ∷ l) q) (sym e) (first_piece c l))
        (λ k. later-piece c l p (pieces_are n (keep (λ d. not (has same (part touch c l) d)) l) (shorter c l n h) k)) (mem-cons m)

    -- Each cell is in a piece.
    pub pieces-cover : (n : ℕ) (l : List Cell) → length l ≤ n → {a : Cell} → Mem a l → (p : List Cell) × Mem p (pieces touch n l) × Mem a p
    pieces-cover zero [] h m = absurd (mem-nil m)
    pieces-cover zero (c ∷ l) h m = absurd (omega arith)
    pieces-cover (suc n) [] h m = absurd (mem-nil m)
    pieces-cover (suc n) (c ∷ l) h {a} m =
        ⊎_elim (λ t. (keep (has same P) (c ∷ l), head refl, keep-in (has same P) m t))
        (λ t. let r : (p : List Cell) × Mem p (pieces touch n rest) × Mem a p = pieces-cover n rest (shorter c l n h) (stays t) in (r.0, tail r.1, r.2))
        (decided (has same P a))
      where
        P : List Cell
        P = part touch c l

        rest : List Cell
        rest = keep (λ d. not (has same P d)) l

        stays : T (not (has same P a)) → Mem a rest
        stays t = ⊎_elim (λ e. absurd (T_not (has same P a) t (has_of cells (mem-cast e (part-self touch c l))))) (λ k. keep-in (λ d. not (has same P d)) k t) (mem-cons m)
