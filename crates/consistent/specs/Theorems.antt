-- What the test of a state answers: when which number, with which point, and that no other answer is allowed.
use Rattle.std.specs.Prelude.{ℕ, ◌≡◌, refl, Bool, true, false, cond, not, ◌&&◌, List, eqb, Result}
use Rattle.std.proofs.Common.{sym, ◌∙◌}
use Rattle.refusal.specs.declared.Refusal.{Refusal}
use Rattle.refusal.specs.Forms.{Refused, none, too_short, broken, outcome}
use Rattle.refusal.proofs.Theorems.{outcome-one}
use Rattle.layout.specs.Points.{long_enough, first_broken, consistent_words}
use Rattle.consistent.specs.Answer.{state_refusal}

-- Any two answers that the promise allows are equal.
pub consistent-one : (w : List ℕ) (p q : Result (Unit {0}) Refusal) → outcome p ≡ state_refusal w → outcome q ≡ state_refusal w → p ≡ q
consistent-one w p q e f = outcome-one p q (e ∙ sym f)

-- A refusal is 1, 2 or none exactly when the tests say so: whether the words are long enough, and are consistent; 2 tells a point.
pub record Exactly (r : Refused) (long good : Bool) (point : ℕ) : Type 0 where
  pub one : eqb r.number 1 ≡ not long
  pub two : eqb r.number 2 ≡ (long && not good)
  pub zero : eqb r.number 0 ≡ (long && good)
  pub at : r.at ≡ cond (eqb r.number 2) point 0
  pub axis : r.axis ≡ 0

-- The number, and with 2 the first broken point.
pub consistent-exactly : (w : List ℕ) → Exactly (state_refusal w) (long_enough w) (consistent_words w) (first_broken w)
unfolding state_refusal
consistent-exactly w = go (long_enough w) (consistent_words w)
  where
    go : (l g : Bool) → Exactly (cond (not l) too_short (cond g none (broken (first_broken w)))) l g (first_broken w)
    go false g = record { one = refl; two = refl; zero = refl; at = refl; axis = refl }
    go true false = record { one = refl; two = refl; zero = refl; at = refl; axis = refl }
    go true true = record { one = refl; two = refl; zero = refl; at = refl; axis = refl }
