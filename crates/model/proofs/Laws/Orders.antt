-- Strict total orders and equality as Bool tests, with those of numbers and of cells.
use Rattle.std.proofs.Common.{arith, subst, inl, inr, ⊎_elim, T_not, eqb→eq, ltb→lt, lt→ltb, nltb→le}
use Rattle.std.specs.Prelude.{◌≡◌, ◌⊎◌, Bool, not, T, eqb, ltb}
use Rattle.std.proofs.Math.Dec.{not_T, eqb_refl}
use Rattle.component.specs.Laws.Order.{same-eq, same_self, below_irrefl, below-trans, below-tri}
use Rattle.model.specs.Cells.{same, below}
use Rattle.model.proofs.Laws.Tests.{decided}

-- A test of equality and a test of a strict total order.
pub record Ordered {K : Type 0} (eq lt : K → K → Bool) : Type 0 where
  pub same-eq : (a b : K) → T (eq a b) → a ≡ b
  pub same_self : (a : K) → T (eq a a)
  pub irrefl : (a : K) → T (lt a a) → ⊥
  pub trans : (a b c : K) → T (lt a b) → T (lt b c) → T (lt a c)
  pub tri : (a b : K) → T (not (lt a b)) → T (not (lt b a)) → a ≡ b

module _ {K : Type 0} {eq lt : K → K → Bool} (laws : Ordered eq lt) where
  -- Equal things pass the test of equality.
  pub same_of : {a b : K} → a ≡ b → T (eq a b)
  same_of {a} {b} e = subst (λ c. T (eq a c)) e (laws.same_self a)

  -- Things that differ fail the test of equality.
  pub differ : {a b : K} → (a ≡ b → ⊥) → T (not (eq a b))
  differ {a} {b} n = not_T (eq a b) (λ u. n (laws.same-eq a b u))

  -- Things that fail the test of equality differ.
  pub differs : (a b : K) → T (not (eq a b)) → a ≡ b → ⊥
  differs a b t e = T_not (eq a b) t (same_of e)

  -- Two things are equal or differ.
  pub is-or : (a b : K) → (a ≡ b) ⊎ (a ≡ b → ⊥)
  is-or a b = ⊎_elim (λ t. inl (laws.same-eq a b t)) (λ t. inr (differs a b t)) (decided (eq a b))

  -- Of two things at most one is less than the other.
  pub asym : (a b : K) → T (lt a b) → T (lt b a) → ⊥
  asym a b s t = laws.irrefl a (laws.trans a b a s t)

  -- What is less than another is not equal to it.
  pub lt-differ : (a b : K) → T (lt a b) → a ≡ b → ⊥
  lt-differ a b s e = laws.irrefl b (subst (λ c. T (lt c b)) e s)

  -- Of two things one is less, or they are equal.
  pub order-cases : (a b : K) → T (lt a b) ⊎ ((a ≡ b) ⊎ T (lt b a))
  order-cases a b = ⊎_elim inl (λ s. inr (⊎_elim (λ t. inr t) (λ t. inl (laws.tri a b s t)) (decided (lt b a)))) (decided (lt a b))

-- The numbers.
pub numbers : Ordered eqb ltb
numbers =
    record {
      same-eq = λ a b t. eqb→eq a b t;
      same_self = λ a. eqb_refl a;
      irrefl = λ a t. omega (arith, ltb→lt a a t);
      trans = λ a b c s t. lt→ltb a c (omega (arith, ltb→lt a b s, ltb→lt b c t));
      tri = λ a b s t. omega (arith, nltb→le a b s, nltb→le b a t);
    }

-- The cells.
pub cells : Ordered same below
cells = record { same-eq = same-eq; same_self = same_self; irrefl = below_irrefl; trans = below-trans; tri = below-tri }
