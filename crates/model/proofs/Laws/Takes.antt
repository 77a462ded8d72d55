-- Which ids the cells have after pieces take the next ids.
use Rattle.std.specs.Prelude.{ℕ, suc, ◌+◌, ◌<◌, ◌≡◌, refl, ◌⊎◌, Bool, cond, length}
use Rattle.std.proofs.Common.{arith, sym, ◌∙◌, subst, inl, inr, ⊎_elim}
use mathlib.Core.List.Memᴰ.{cases_cons as mem-cons}
use mathlib.Core.List.Memᴰ.{head}
use mathlib.Core.List.Memᴰ.{not-nil as mem-nil}
use mathlib.Core.List.Memᴰ.{tail}
use mathlib.Core.List.{List, [], ◌∷◌, Memᴰ as Mem}
use Rattle.model.specs.Facts.{At, In}
use Rattle.model.specs.Lists.{has, run}
use Rattle.model.specs.Cells.{Cell, same}
use Rattle.model.specs.Groups.{Groups, take_next}
use Rattle.model.proofs.Laws.Tests.{decided, cond_yes, cond_no}
use Rattle.model.proofs.Laws.Orders.{cells}
use Rattle.model.proofs.Laws.Members.{has_of, of-has, hasnt-of, of-hasnt}
use Rattle.model.proofs.Laws.Tables.{at-change, at-unchange}
use Rattle.model.proofs.Laws.Pairs.{Pairs, pairs-head, pairs-tail, Nth, here, there, nth-mem}

-- No cell is in both lists.
abbrev pub Apart : List Cell → List Cell → Type 0
Apart p q = (a : Cell) → Mem a p → Mem a q → ⊥

-- Every id is below the next id.
abbrev pub Under : Groups → Type 0
Under s = (a : Cell) (g : ℕ) → At same s.ids a g → g < s.next

module _ (touch : Cell → Cell → Bool) where
  module _ (s : Groups) (p : List Cell) where
    -- Who has an id after a piece takes the next id is of the piece and has that id, or is not of it and had its id.
    pub take_cases : {a : Cell} {g : ℕ} → At same (take_next touch s p).ids a g → (Mem a p × (g ≡ s.next)) ⊎ ((Mem a p → ⊥) × At same s.ids a g)
    take_cases {a} {g} q =
        let r : (k : ℕ) × At same s.ids a k × (g ≡ cond (has same p a) s.next k) = at-unchange cells (λ b h. cond (has same p b) s.next h) s.ids q in
        ⊎_elim (λ t. inl (of-has cells p t, r.2 ∙ cond_yes (has same p a) s.next r.0 t))
        (λ t. inr (of-hasnt cells p t, subst (λ k. At same s.ids a k) (sym (r.2 ∙ cond_no (has same p a) s.next r.0 t)) r.1))
        (decided (has same p a))

    -- A cell of the piece has the next id.
    pub take-self : {a : Cell} → In same s.ids a → Mem a p → At same (take_next touch s p).ids a s.next
    take-self {a} d m =
        subst (λ k. At same (take_next touch s p).ids a k) (cond_yes (has same p a) s.next d.0 (has_of cells m))
        (at-change cells (λ b h. cond (has same p b) s.next h) s.ids d.1)

    -- Another cell keeps its id.
    pub take-other : {a : Cell} {g : ℕ} → At same s.ids a g → (Mem a p → ⊥) → At same (take_next touch s p).ids a g
    take-other {a} {g} q n =
        subst (λ k. At same (take_next touch s p).ids a k) (cond_no (has same p a) s.next g (hasnt-of cells a p n))
        (at-change cells (λ b h. cond (has same p b) s.next h) s.ids q)

    -- Every id is below the next id again.
    pub take-under : Under s → Under (take_next touch s p)
    take-under under a g q = ⊎_elim (λ r. let e = r.1 in omega arith) (λ r. let h = under a g r.1 in omega arith) (take_cases q)

  -- Each piece takes one id.
  pub takes-next : (ps : List (List Cell)) (s : Groups) → (run (take_next touch) s ps).next ≡ s.next + length ps
  takes-next [] s = omega arith
  takes-next (p ∷ ps) s = takes-next ps (take_next touch s p) ∙ omega arith

  -- Who has an old id had it, and is of no piece.
  pub not-takes : (ps : List (List Cell)) (s : Groups) {a : Cell} {g : ℕ} → At same (run (take_next touch) s ps).ids a g → g < s.next → At same s.ids a g × ((p : List Cell) → Mem p ps → Mem a p → ⊥)
  not-takes [] s q h = (q, λ p m k. mem-nil m)
  not-takes (p ∷ ps) s {a} {g} q h =
      let r : At same (take_next touch s p).ids a g × ((p : List Cell) → Mem p ps → Mem a p → ⊥) = not-takes ps (take_next touch s p) q (omega arith) in
      ⊎_elim (λ k. let e = k.1 in absurd (omega arith))
      (λ k. (k.1, λ x m j. ⊎_elim (λ e. k.0 (subst (λ y. Mem a y) e j)) (λ m'. r.1 x m' j) (mem-cons m))) (take_cases s p r.0)

  -- A cell of no piece keeps its id.
  pub takes-other : (ps : List (List Cell)) (s : Groups) {a : Cell} {g : ℕ} → At same s.ids a g → ((p : List Cell) → Mem p ps → Mem a p → ⊥) → At same (run (take_next touch) s ps).ids a g
  takes-other [] s q n = q
  takes-other (p ∷ ps) s q n = takes-other ps (take_next touch s p) (take-other s p q (n p (head refl))) (λ x m. n x (tail m))

  -- A cell of the k-th of pieces that are apart has the k-th of the next ids.
  pub nth-takes : {p : List Cell} {ps : List (List Cell)} {k : ℕ} (s : Groups) → Nth p ps k → Pairs Apart ps → {a : Cell} → In same s.ids a → Mem a p → At same (run (take_next touch) s ps).ids a (s.next + k)
  nth-takes {p = p} s (here {l}) apart {a} d m =
      subst (λ h. At same (run (take_next touch) s (p ∷ l)).ids a h) (omega arith)
      (takes-other l (take_next touch s p) (take-self s p d m) (λ q k j. pairs-head apart q k a m j))
  nth-takes s (there {y} {l} {k} n) apart {a} d m =
      subst (λ h. At same (run (take_next touch) s (y ∷ l)).ids a h) (omega arith)
      (nth-takes (take_next touch s y) n (pairs-tail apart) (d.0, take-other s y d.1 (λ j. pairs-head apart _ (nth-mem n) a j m)) m)

  -- Who has the k-th of the next ids is of the k-th piece.
  pub nth-takes-only : {p : List Cell} {ps : List (List Cell)} {k : ℕ} (s : Groups) → Nth p ps k → Under s → {a : Cell} → At same (run (take_next touch) s ps).ids a (s.next + k) → Mem a p
  nth-takes-only {p = p} s (here {l}) under {a} q =
      let e : s.next + 0 ≡ s.next = omega arith in
      let r = not-takes l (take_next touch s p) (subst (λ h. At same (run (take_next touch) s (p ∷ l)).ids a h) e q) (omega arith) in
      ⊎_elim (λ k. k.0) (λ k. let h = under a s.next k.1 in absurd (omega arith)) (take_cases s p r.0)
  nth-takes-only s (there {y} {l} {k} n) under {a} q =
      let e : s.next + suc k ≡ suc s.next + k = omega arith in
      nth-takes-only (take_next touch s y) n (take-under s y under) (subst (λ h. At same (run (take_next touch) s (y ∷ l)).ids a h) e q)
