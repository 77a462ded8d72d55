-- Lists that lead from one cell to another, and paths as such lists.
use Rattle.std.specs.Prelude.{◌≤◌, ◌≡◌, refl, Bool, T, length}
use Rattle.std.proofs.Common.{arith, sym, subst, ⊎_elim}
use mathlib.Core.List.Memᴰ.{cases_cons as mem-cons}
use mathlib.Core.List.Memᴰ.{eq_of_singleton as mem-one}
use mathlib.Core.List.Memᴰ.{not-nil as mem-nil}
use mathlib.Core.List.{List, [], ◌∷◌, Memᴰ as Mem}
use Rattle.model.specs.Cells.{Cell, same, below}
use Rattle.model.specs.Paths.{Path, stop, step}
use Rattle.model.specs.Shortest.{IsPathTo, end, on, sooner}
use Rattle.model.proofs.Laws.Tests.{or_cases, and-fst, and-snd}
use Rattle.model.proofs.Laws.Orders.{cells, asym, lt-differ}
use Rattle.model.proofs.Laws.Members.{mem-or, Once, once-nil, once-cons, once-tail}

-- The last cell of a path is in D, as the first is.
pub last : (touch : Cell → Cell → Bool) {D : Cell → Type 0} {b a : Cell} → Path touch D a b → D b
last touch {D} (stop d e) = subst D e d
last touch (step d t w) = last touch w

module _ {touch : Cell → Cell → Bool} {D : Cell → Type 0} {b : Cell} where
  -- A list that leads is a path.
  pub leads-path : {a : Cell} {p : List Cell} → IsPathTo touch D b a p → Path touch D a b
  leads-path (end d e) = stop d e
  leads-path (on d t w) = step d t (leads-path w)

  -- It starts with the first cell.
  pub leads-head : {a : Cell} {p : List Cell} → IsPathTo touch D b a p → (rest : List Cell) × (p ≡ a ∷ rest)
  leads-head (end d e) = ([], refl)
  leads-head (on {p = p} d t w) = (p, refl)

  -- All its cells are in D.
  pub leads-in : {a x : Cell} {p : List Cell} → IsPathTo touch D b a p → Mem x p → D x
  leads-in (end d e) m = subst D (sym (mem-one m)) d
  leads-in (on d t w) m = ⊎_elim (λ e. subst D (sym e) d) (λ k. leads-in w k) (mem-cons m)

  -- From each of its cells the rest of it leads on.
  pub leads-from : {a x : Cell} {p : List Cell} → IsPathTo touch D b a p → Mem x p → (q : List Cell) × IsPathTo touch D b x q × (length q ≤ length p) × (Once p → Once q)
  leads-from {a} {x} (end d e) m = (a ∷ [], subst (λ y. IsPathTo touch D b y (a ∷ [])) (sym (mem-one m)) (end d e), omega arith, λ o. o)
  leads-from {a} {x} (on {p = p} d t w) m =
      ⊎_elim (λ e. (a ∷ p, subst (λ y. IsPathTo touch D b y (a ∷ p)) (sym e) (on d t w), omega arith, λ o. o))
      (λ k. let r : (q : List Cell) × IsPathTo touch D b x q × (length q ≤ length p) × (Once p → Once q) = leads-from w k in
      let h : length r.0 ≤ length p = r.2 in (r.0, r.1, omega arith, λ o. r.3 (once-tail o))) (mem-cons m)

  -- A path leads along a list with no cell twice.
  pub path-leads : {a : Cell} → Path touch D a b → (p : List Cell) × IsPathTo touch D b a p × Once p
  path-leads {a} (stop d e) = (a ∷ [], end d e, once-cons mem-nil once-nil)
  path-leads {a} (step {c = c} d t w) = go (path-leads w)
    where
      go : (p : List Cell) × IsPathTo touch D b c p × Once p → (p : List Cell) × IsPathTo touch D b a p × Once p
      go r =
          ⊎_elim (λ m. let q = leads-from r.1 m in (q.0, q.1, q.3 r.2))
          (λ n. (a ∷ r.0, on d t r.1, once-cons n r.2)) (mem-or cells a r.0)

  -- A list with the fewest cells has no cell twice.
  pub fewest-once : {a : Cell} {p : List Cell} → IsPathTo touch D b a p → ((q : List Cell) → IsPathTo touch D b a q → length p ≤ length q) → Once p
  fewest-once (end d e) f = once-cons mem-nil once-nil
  fewest-once {a} (on {c = c} {p = p} d t w) f =
      once-cons (again (λ m. leads-from w m))
      (fewest-once w (λ q v. omega (arith, f (a ∷ q) (on d t v))))
    where
      again : (Mem a p → (q : List Cell) × IsPathTo touch D b a q × (length q ≤ length p) × (Once p → Once q)) → Mem a p → ⊥
      again from m = let h : length (from m).0 ≤ length p = (from m).2 in omega (arith, f (from m).0 (from m).1)

-- Of two lists at most one comes before the other.
pub sooner-asym : (p q : List Cell) → T (sooner p q) → T (sooner q p) → ⊥
sooner-asym [] q s t = absurd s
sooner-asym (x ∷ p) [] s t = absurd s
sooner-asym (x ∷ p) (y ∷ q) s t =
    ⊎_elim (λ u. ⊎_elim (λ v. asym cells x y u v) (λ v. lt-differ cells x y u (sym (cells.same-eq y x (and-fst (same y x) _ v)))) (or_cases (below y x) _ t))
    (λ u. ⊎_elim (λ v. lt-differ cells y x v (sym (cells.same-eq x y (and-fst (same x y) _ u)))) (λ v. sooner-asym p q (and-snd (same x y) _ u) (and-snd (same y x) _ v)) (or_cases (below y x) _ t))
    (or_cases (below x y) _ s)
