-- Sums: the parts of a list that belong to one of some groups each make the whole.
use Rattle.std.specs.Prelude.{ℕ, ◌+◌, ◌≡◌, refl, Bool, true, false, cond, eqb, length}
use Rattle.std.proofs.Common.{arith, sym, ◌∙◌, ap, ⊎_elim}
use mathlib.Core.List.Memᴰ.{cases_cons as mem-cons}
use mathlib.Core.List.Memᴰ.{cast as mem-cast}
use mathlib.Core.List.Memᴰ.{head}
use mathlib.Core.List.Memᴰ.{not-nil as mem-nil}
use mathlib.Core.List.Memᴰ.{tail}
use mathlib.Core.List.{List, [], ◌∷◌, ◌++◌, Memᴰ as Mem}
use Rattle.model.specs.Lists.{keep, each}
use Rattle.model.specs.Counted.{total}
use Rattle.model.proofs.Laws.Tests.{true_of, false_of, neqb-of, eqb_of}
use Rattle.model.proofs.Laws.Members.{each-ext, Once, once-head, once-tail}

-- 1 for a test that passes.
abbrev one_if : Bool → ℕ
one_if b = cond b 1 0

-- The sum of two lists one after the other.
pub total-append : (l m : List ℕ) → total (l ++ m) ≡ total l + total m
total-append [] m = omega arith
total-append (n ∷ l) m = omega (arith, total-append l m)

module _ {A : Type 0} where
  -- Sums add up member by member.
  total-plus : (f h : A → ℕ) (l : List A) → total (each (λ x. f x + h x) l) ≡ total (each f l) + total (each h l)
  total-plus f h [] = omega arith
  total-plus f h (x ∷ l) = omega (arith, total-plus f h l)

  -- A sum of nothing but zeros.
  total-zero : (l : List A) → total (each (λ x. 0) l) ≡ 0
  total-zero [] = refl
  total-zero (x ∷ l) = omega (arith, total-zero l)

  -- A first member counts if it passes.
  keep_one : (p : A → Bool) (x : A) (l : List A) → length (keep p (x ∷ l)) ≡ one_if (p x) + length (keep p l)
  keep_one p x l = go (p x)
    where
      go : (b : Bool) → length (cond b (x ∷ keep p l) (keep p l)) ≡ one_if b + length (keep p l)
      go true = omega arith
      go false = omega arith

-- What is no member is counted by none.
none_of : (g : ℕ) (l : List ℕ) → (Mem g l → ⊥) → total (each (λ h. one_if (eqb h g)) l) ≡ 0
none_of g [] n = refl
none_of g (x ∷ l) n =
    let z : one_if (eqb x g) ≡ 0 = ap one_if (false_of (eqb x g) (neqb-of x g (λ e. n (head (sym e))))) in
    omega (arith, none_of g l (λ m. n (tail m)))

-- A member of a list in which it comes once is counted once.
one_of : (g : ℕ) (l : List ℕ) → Once l → Mem g l → total (each (λ h. one_if (eqb h g)) l) ≡ 1
one_of g [] o m = absurd (mem-nil m)
one_of g (x ∷ l) o m =
    ⊎_elim
    (λ e. let z : one_if (eqb x g) ≡ 1 = ap one_if (true_of (eqb x g) (eqb_of x g (sym e))) in omega (arith, none_of g l (λ k. once-head o (mem-cast (sym e) k))))
    (λ k. let z : one_if (eqb x g) ≡ 0 = ap one_if (false_of (eqb x g) (neqb-of x g (λ e. once-head o (mem-cast e k)))) in omega (arith, one_of g l (once-tail o) k)) (mem-cons m)

-- If each member of a list passes for exactly one of the groups, the parts that pass for each make the whole.
pub parted : {A : Type 0} (p : ℕ → A → Bool) (gs : List ℕ) → Once gs → (l : List A) → ((x : A) → Mem x l → (g : ℕ) × Mem g gs × ((h : ℕ) → Mem h gs → p h x ≡ eqb h g)) → total (each (λ g. length (keep (p g) l)) gs) ≡ length l
parted p gs o [] f = total-zero gs
parted p gs o (x ∷ l) f =
    let r = f x (head refl) in
    let here : total (each (λ h. one_if (p h x)) gs) ≡ 1 = ap total (each-ext (λ h. one_if (p h x)) (λ h. one_if (eqb h r.0)) gs (λ h m. ap one_if (r.2 h m))) ∙ one_of r.0 gs o r.1 in
    let sum : total (each (λ g. length (keep (p g) (x ∷ l))) gs) ≡ total (each (λ h. one_if (p h x)) gs) + total (each (λ g. length (keep (p g) l)) gs) =
    ap total (each-ext (λ g. length (keep (p g) (x ∷ l))) (λ g. one_if (p g x) + length (keep (p g) l)) gs (λ g m. keep_one (p g) x l)) ∙ total-plus (λ g. one_if (p g x)) (λ g. length (keep (p g) l)) gs in
    omega (arith, parted p gs o l (λ y m. f y (tail m)))
