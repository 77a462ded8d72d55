-- Facts on lists: members by their number.
use Rattle.std.specs.Prelude.{ℕ, zero, suc, ◌<◌, ◌≡◌, refl, Bool, length, take, drop, get_or}
use Rattle.std.proofs.Common.{le_of_suc-le-suc, not-suc-le-zero, arith, sym, ap, subst, ⊎_elim}
use mathlib.Core.List.Memᴰ.{cases_cons as mem-cons}
use mathlib.Core.List.Memᴰ.{not-nil as mem-nil}
use mathlib.Core.List.{List, [], ◌∷◌, Memᴰ as Mem}
use lib.Dec.{T}
use Rattle.model.specs.Facts.{Asc}
use Rattle.model.specs.Lists.{each}
use Rattle.model.proofs.Laws.Orders.{Ordered, order-cases, numbers}
use Rattle.model.proofs.Laws.Sorted.{asc-head, asc-tail}
pub use Rattle.table.specs.Laws.Places.{get_d-mem}

module _ {A : Type 0} where
  -- A member stands at some number.
  pub mem-get_d : {a : A} (l : List A) (d : A) → Mem a l → (i : ℕ) × (i < length l) × (get_or l i d ≡ a)
  mem-get_d [] d m = absurd (mem-nil m)
  mem-get_d {a} (x ∷ l) d m =
      ⊎_elim (λ e. (0, omega arith, sym e))
      (λ k. let r : (i : ℕ) × (i < length l) × (get_or l i d ≡ a) = mem-get_d {a = a} l d k in (suc r.0, let h = r.1 in omega arith, r.2)) (mem-cons m)

module _ {A B : Type 0} (f : A → B) where
  -- What stands at a number after a rule.
  pub each_at : (l : List A) (i : ℕ) (d : A) (e : B) → i < length l → get_or (each f l) i e ≡ f (get_or l i d)
  each_at [] i d e h = absurd (not-suc-le-zero h)
  each_at (x ∷ l) zero d e h = refl
  each_at (x ∷ l) (suc i) d e h = each_at l i d e (le_of_suc-le-suc h)

  -- A rule on the first members.
  pub each_take : (i : ℕ) (l : List A) → each f (take i l) ≡ take i (each f l)
  each_take zero l = refl
  each_take (suc i) [] = refl
  each_take (suc i) (x ∷ l) = ap (λ k. f x ∷ k) (each_take i l)

  -- A rule on the members from a number on.
  pub each-drop : (i : ℕ) (l : List A) → each f (drop i l) ≡ drop i (each f l)
  each-drop zero l = refl
  each-drop (suc i) [] = refl
  each-drop (suc i) (x ∷ l) = each-drop i l

module _ {K : Type 0} {eq lt : K → K → Bool} (laws : Ordered eq lt) where
  -- In an ascending list a lower number has a lesser member.
  pub asc-at : (l : List K) (i j : ℕ) (d : K) → Asc lt l → i < j → j < length l → T (lt (get_or l i d) (get_or l j d))
  asc-at [] i j d s h g = absurd (not-suc-le-zero g)
  asc-at (x ∷ l) i zero d s h g = absurd (not-suc-le-zero h)
  asc-at (x ∷ l) zero (suc j) d s h g = asc-head s (get_or l j d) (get_d-mem l j d (le_of_suc-le-suc g))
  asc-at (x ∷ l) (suc i) (suc j) d s h g = asc-at l i j d (asc-tail s) (le_of_suc-le-suc h) (le_of_suc-le-suc g)

  -- In an ascending list a member stands once.
  pub asc-index : (l : List K) (i j : ℕ) (d : K) → Asc lt l → i < length l → j < length l → get_or l i d ≡ get_or l j d → i ≡ j
  asc-index l i j d s h g e =
      ⊎_elim (λ t. absurd (laws.irrefl _ (subst (λ a. T (lt a (get_or l j d))) e (asc-at l i j d s (lib.Dec.ltb→lt i j t) g))))
      (λ r. ⊎_elim (λ q. q) (λ t. absurd (laws.irrefl _ (subst (λ a. T (lt (get_or l j d) a)) e (asc-at l j i d s (lib.Dec.ltb→lt j i t) h)))) r)
      (order-cases numbers i j)
