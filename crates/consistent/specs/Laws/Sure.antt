-- What is known of words that are not refused.
use Rattle.std.specs.Prelude.{ℕ, ◌≡◌, cond, not, List}
use Rattle.std.proofs.Common.{arith, sym, ap, ◌∙◌}
use Rattle.std.proofs.Math.Path.{refl}
use Rattle.std.proofs.Math.Bool.{Bool, true, false}
use Rattle.refusal.specs.Forms.{Refused, none, too_short, broken}
use Rattle.layout.specs.Points.{long_enough, consistent_words, first_broken}
use Rattle.consistent.specs.Answer.{state_refusal}

-- They are long enough and consistent.
pub record Sure (w : List ℕ) : Type 0 where
  pub long : long_enough w ≡ true
  pub good : consistent_words w ≡ true

module _ (w : List ℕ) where
  -- Words whose refusal has the number 0.
  pub sure-of : (state_refusal w).number ≡ 0 → Sure w
  unfolding state_refusal
  sure-of e = go (long_enough w) (consistent_words w) refl refl e
    where
      go : (l c : Bool) → long_enough w ≡ l → consistent_words w ≡ c → (cond (not l) too_short (cond c none (broken (first_broken w)))).number ≡ 0 → Sure w
      go true true p q e = record { long = p; good = q }
      go true false p q e = absurd (omega arith)
      go false c p q e = absurd (omega arith)

  -- The same of a refusal that is equal.
  pub sure-by : (r : Refused) → r ≡ state_refusal w → r.number ≡ 0 → Sure w
  sure-by r e h = sure-of (sym (ap (λ (r : Refused). r.number) e) ∙ h)
