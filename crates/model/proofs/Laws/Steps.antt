-- Cells from which n steps lead to a cell, and the walk along them.
use Rattle.std.specs.Prelude.{ℕ, zero, suc, ◌≤◌, ◌<◌, ◌≡◌, refl, ◌⊎◌, Bool, T, ltb, length}
use Rattle.std.proofs.Common.{arith, sym, ◌∙◌, ap, subst, inl, inr, ⊎_elim, ltb→lt, nltb→le}
use mathlib.Core.List.Memᴰ.{cases_cons as mem-cons}
use mathlib.Core.List.Memᴰ.{head}
use mathlib.Core.List.Memᴰ.{not-nil as mem-nil}
use mathlib.Core.List.{List, [], ◌∷◌, Memᴰ as Mem}
use Rattle.model.specs.Facts.{Asc}
use Rattle.model.specs.Lists.{keep, any, has, count}
use Rattle.model.specs.Cells.{Cell, same, below}
use Rattle.model.specs.Paths.{Joined}
use Rattle.model.specs.Shortest.{first_or, steps_from, walk, step_numbers, IsPath, end, on, sooner}
use Rattle.model.proofs.Laws.Tests.{or_left, or_right, and_both, decided}
use Rattle.model.proofs.Laws.Orders.{cells, same_of}
use Rattle.model.proofs.Laws.Members.{keep-in, keep_out, any-in, any_out, has_of, of-has, count-in, count-out, once-shorter}
use Rattle.model.proofs.Laws.Sorted.{asc-head, keep-asc, count-asc}
use Rattle.model.proofs.Laws.Leading.{leads-head, leads-in, path-leads}

-- The first of a list with a member is a member.
pub first-in : (a : Cell) (l : List Cell) {c : Cell} → Mem c l → Mem (first_or a l) l
first-in a [] m = absurd (mem-nil m)
first-in a (x ∷ l) m = head refl

-- The first of an ascending list is its least member.
pub first-least : (a : Cell) (l : List Cell) {c : Cell} → Asc below l → Mem c l → (first_or a l ≡ c) ⊎ T (below (first_or a l) c)
first-least a [] s m = absurd (mem-nil m)
first-least a (x ∷ l) s m = ⊎_elim (λ e. inl (sym e)) (λ k. inr (asc-head s _ k)) (mem-cons m)

module _ (touch : Cell → Cell → Bool) (occupied : List Cell) (b : Cell) where
  -- Cells from which steps lead to b are occupied.
  pub steps-occupied : (n : ℕ) {a : Cell} → Mem a (steps_from touch occupied b n) → Mem a occupied
  steps-occupied zero m = (keep_out (same b) occupied m).0
  steps-occupied (suc n) m = (keep_out (λ c. any (touch c) (steps_from touch occupied b n)) occupied m).0

  -- They ascend.
  pub steps-asc : Asc below occupied → (n : ℕ) → Asc below (steps_from touch occupied b n)
  steps-asc s zero = keep-asc (same b) occupied s
  steps-asc s (suc n) = keep-asc (λ c. any (touch c) (steps_from touch occupied b n)) occupied s

  -- From no other cell than b no step leads to b.
  pub steps-none : {a : Cell} → Mem a (steps_from touch occupied b 0) → a ≡ b
  steps-none {a} m = sym (cells.same-eq b a (keep_out (same b) occupied m).1)

  -- One step more leads over a touching cell.
  pub steps-more : (n : ℕ) {a c : Cell} → Mem a occupied → T (touch a c) → Mem c (steps_from touch occupied b n) → Mem a (steps_from touch occupied b (suc n))
  steps-more n {a} d t m = keep-in (λ c. any (touch c) (steps_from touch occupied b n)) d (any-in (touch a) m t)

  -- The first of several steps leads to a touching cell.
  pub steps-less : (n : ℕ) {a : Cell} → Mem a (steps_from touch occupied b (suc n)) → (c : Cell) × Mem c (steps_from touch occupied b n) × T (touch a c)
  steps-less n {a} m = any_out (touch a) (steps_from touch occupied b n) (keep_out (λ c. any (touch c) (steps_from touch occupied b n)) occupied m).1

  -- The cell that the walk goes on to: it touches, the steps left lead from it to b, and no other such cell is below it.
  pub onward-in : (n : ℕ) {a : Cell} → Mem a (steps_from touch occupied b (suc n)) → Mem (first_or a (keep (touch a) (steps_from touch occupied b n))) (steps_from touch occupied b n) × T (touch a (first_or a (keep (touch a) (steps_from touch occupied b n))))
  onward-in n {a} m =
      let r = steps-less n m in
      keep_out (touch a) (steps_from touch occupied b n) (first-in a (keep (touch a) (steps_from touch occupied b n)) (keep-in (touch a) r.1 r.2))

  -- The walk leads to b.
  pub walk-leads : (n : ℕ) (a : Cell) → Mem a (steps_from touch occupied b n) → IsPath touch occupied a b (walk touch occupied b n a)
  walk-leads zero a m = end (steps-occupied zero m) (steps-none m)
  walk-leads (suc n) a m = let r = onward-in n m in on (steps-occupied (suc n) m) r.1 (walk-leads n _ r.0)

  -- It has one cell more than steps.
  pub walk-length : (n : ℕ) (a : Cell) → length (walk touch occupied b n a) ≡ suc n
  walk-length zero a = refl
  walk-length (suc n) a = ap suc (walk-length n (first_or a (keep (touch a) (steps_from touch occupied b n))))

  -- It starts where it starts.
  pub walk-head : (n : ℕ) (a : Cell) → (rest : List Cell) × (walk touch occupied b n a ≡ a ∷ rest)
  walk-head zero a = ([], refl)
  walk-head (suc n) a = (walk touch occupied b n (first_or a (keep (touch a) (steps_from touch occupied b n))), refl)

  -- A list that leads to b has one cell more than the steps that it takes.
  pub leads-steps : {a : Cell} {p : List Cell} → IsPath touch occupied a b p → (n : ℕ) × (length p ≡ suc n) × Mem a (steps_from touch occupied b n)
  leads-steps (end d e) = (0, refl, keep-in (same b) d (same_of cells (sym e)))
  leads-steps (on {c = c} {p = p} d t w) =
      let r : (n : ℕ) × (length p ≡ suc n) × Mem c (steps_from touch occupied b n) = leads-steps w in
      (suc r.0, ap suc r.1, steps-more r.0 d t r.2)

  -- No list of as many cells that leads to b comes before the walk.
  pub walk-first : Asc below occupied → (n : ℕ) {a : Cell} {q : List Cell} → IsPath touch occupied a b q → length q ≡ suc n → (walk touch occupied b n a ≡ q) ⊎ T (sooner (walk touch occupied b n a) q)
  walk-first s zero (end d e) h = inl refl
  walk-first s (suc n) (end d e) h = absurd (omega arith)
  walk-first s zero (on d t w) h = absurd (omega (arith, (leads-steps w).1))
  walk-first s (suc n) {a} (on {c = c} {p = p} d t w) h = ⊎_elim (same-cell (walk-first s n w (omega arith))) lower-cell (first-least a (keep (touch a) S) (keep-asc (touch a) S (steps-asc s n)) (keep-in (touch a) here t))
    where
      S : List Cell
      S = steps_from touch occupied b n

      f : Cell
      f = first_or a (keep (touch a) S)

      -- what follows has as many steps as are left
      here : Mem c S
      here = let r = leads-steps w in let e : r.0 ≡ n = omega (arith, r.1) in subst (λ k. Mem c (steps_from touch occupied b k)) e r.2

      same-cell : (walk touch occupied b n c ≡ p) ⊎ T (sooner (walk touch occupied b n c) p) → f ≡ c → (a ∷ walk touch occupied b n f ≡ a ∷ p) ⊎ T (sooner (a ∷ walk touch occupied b n f) (a ∷ p))
      same-cell rec e =
          ⊎_elim (λ r. inl (ap (λ l. a ∷ l) (ap (walk touch occupied b n) e ∙ r)))
          (λ r. inr (or_right (below a a) _ (and_both (same a a) _ (cells.same_self a) (subst (λ x. T (sooner (walk touch occupied b n x) p)) (sym e) r))))
          rec

      lower-cell : T (below f c) → (a ∷ walk touch occupied b n f ≡ a ∷ p) ⊎ T (sooner (a ∷ walk touch occupied b n f) (a ∷ p))
      lower-cell u = inr (or_right (below a a) _ (and_both (same a a) _ (cells.same_self a) (subst (λ l. T (sooner l p)) (sym (walk-head n f).1) (subst (λ l. T (sooner (f ∷ (walk-head n f).0) l)) (sym (leads-head w).1) (or_left (below f c) _ u)))))

  -- Joined cells are fewer steps apart than there are occupied cells.
  pub joined-steps : {a : Cell} → Joined touch occupied a b → (n : ℕ) × (n < length occupied) × Mem a (steps_from touch occupied b n)
  joined-steps w =
      let r = path-leads w in
      let q = leads-steps r.1 in
      (q.0, omega (arith, q.1, once-shorter r.2 occupied (λ x m. leads-in r.1 m)), q.2)

  -- The first of the numbers of steps: so many lead to b, and no fewer do.
  pub first-number : (a : Cell) {n : ℕ} {ns : List ℕ} → step_numbers touch occupied b a ≡ n ∷ ns → (n < length occupied) × Mem a (steps_from touch occupied b n) × ((k : ℕ) → Mem a (steps_from touch occupied b k) → n ≤ k)
  first-number a {n} {ns} e =
      (fits, of-has cells (steps_from touch occupied b n) here.1, λ k m. ⊎_elim (λ t. least k m (ltb→lt k (length occupied) t)) (λ t. omega (arith, fits, nltb→le k (length occupied) t)) (decided (ltb k (length occupied))))
    where
      test : ℕ → Bool
      test k = has same (steps_from touch occupied b k) a

      here : Mem n (count 0 (length occupied)) × T (has same (steps_from touch occupied b n) a)
      here = keep_out test (count 0 (length occupied)) (subst (λ l. Mem n l) (sym e) (head refl))

      fits : n < length occupied
      fits = omega (arith, (count-out 0 (length occupied) here.0).1)

      least : (k : ℕ) → Mem a (steps_from touch occupied b k) → k < length occupied → n ≤ k
      least k m h =
          ⊎_elim (λ f. omega arith)
          (λ j. let l : n < k = ltb→lt n k (asc-head (subst (Asc ltb) e (keep-asc test (count 0 (length occupied)) (count-asc 0 (length occupied)))) k j) in omega arith)
          (mem-cons (subst (λ l. Mem k l) e (keep-in test (count-in 0 (length occupied) (omega arith) (omega arith)) (has_of cells m))))

  -- So many steps lead from a to b, and no fewer do.
  pub record StepsAway (n : ℕ) (a : Cell) : Type 0 where
    pub steps : Mem a (steps_from touch occupied b n)
    pub fewer : (k : ℕ) → Mem a (steps_from touch occupied b k) → n ≤ k

  -- The first number of steps is how many steps a cell is away.
  pub away-number : {a : Cell} {n : ℕ} {ns : List ℕ} → step_numbers touch occupied b a ≡ n ∷ ns → StepsAway n a
  away-number {a} e = let r = first-number a e in record { steps = r.1; fewer = r.2 }

  pub away-once : {a : Cell} {m n : ℕ} → StepsAway m a → StepsAway n a → m ≡ n
  away-once {a} {m} {n} u v = omega (arith, u.fewer n v.steps, v.fewer m u.steps)
