-- Facts on Bool tests.
use Rattle.std.specs.Prelude.{ℕ, ◌≤◌, ◌≡◌, refl, ◌⊎◌, Bool, true, false, cond, ◌||◌, not, T, eqb, ltb}
use Rattle.std.proofs.Common.{arith, sym, subst, inl, inr, eqb→eq, ltb→lt, T_not}
use Rattle.std.proofs.Math.Dec.{eqb_refl, not_T}
pub use Rattle.component.specs.Laws.Tests.{and-fst, and-snd, and_both, or_cases, or_left, or_right, or-not, and-not}

-- If both parts fail, a disjunction fails.
pub or-neither : (a b : Bool) → T (not a) → T (not b) → T (not (a || b))
or-neither true b s t = s
or-neither false b s t = t

-- A test that is true passes.
pub T_true : {b : Bool} → b ≡ true → T b
T_true e = subst T (sym e) tt

-- A test that is false fails.
pub T_false : {b : Bool} → b ≡ false → T (not b)
T_false e = subst (λ c. T (not c)) (sym e) tt

-- A test that passes is true.
pub true_of : (b : Bool) → T b → b ≡ true
true_of true t = refl
true_of false t = absurd t

-- A test that fails is false.
pub false_of : (b : Bool) → T (not b) → b ≡ false
false_of true t = absurd t
false_of false t = refl

-- A test passes or fails.
pub decided : (b : Bool) → T b ⊎ T (not b)
decided true = inl tt
decided false = inr tt

-- Two tests that pass together are equal.
pub same_test : (a b : Bool) → (T a → T b) → (T b → T a) → a ≡ b
same_test true true f g = refl
same_test true false f g = absurd (f tt)
same_test false true f g = absurd (g tt)
same_test false false f g = refl

-- A choice whose test passes is its first part.
pub cond_yes : {A : Type 0} (b : Bool) (x y : A) → T b → cond b x y ≡ x
cond_yes true x y t = refl
cond_yes false x y t = absurd t

-- A choice whose test fails is its second part.
pub cond_no : {A : Type 0} (b : Bool) (x y : A) → T (not b) → cond b x y ≡ y
cond_no true x y t = absurd t
cond_no false x y t = refl

-- Equal numbers pass the test of equality.
pub eqb_of : (m n : ℕ) → m ≡ n → T (eqb m n)
eqb_of m n e = subst (λ k. T (eqb m k)) e (eqb_refl m)

-- Numbers that differ fail the test of equality.
pub neqb-of : (m n : ℕ) → (m ≡ n → ⊥) → T (not (eqb m n))
neqb-of m n f = not_T (eqb m n) (λ t. f (eqb→eq m n t))

-- Numbers that fail the test of equality differ.
pub neqb→ne : (m n : ℕ) → T (not (eqb m n)) → m ≡ n → ⊥
neqb→ne m n t e = T_not (eqb m n) t (eqb_of m n e)

-- A number that is not above another passes as not above it.
pub nltb-of : (m n : ℕ) → n ≤ m → T (not (ltb m n))
nltb-of m n h = not_T (ltb m n) (λ t. omega (arith, ltb→lt m n t))
