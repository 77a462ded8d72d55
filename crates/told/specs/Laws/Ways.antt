-- The two ways to an answer: it is refused, or it is not.
use Rattle.std.specs.Prelude.{◌≡◌, eqb}
use Rattle.std.proofs.Common.{sym, ap, ◌∙◌}
use Rattle.model.proofs.Laws.Tests.{cond_yes, cond_no, eqb_of, neqb-of}
use Rattle.refusal.specs.Forms.{Refused}
use Rattle.told.specs.Told.{unless}

module _ {A : Type 0} (no r : Refused) (refuse : Refused → A) (answer : A) (e : no ≡ r) where
  number : no.number ≡ r.number
  number = ap (λ (x : Refused). x.number) e

  -- It is refused.
  pub refused-way : (no.number ≡ 0 → ⊥) → refuse no ≡ unless r refuse answer
  refused-way h = ap refuse e ∙ sym (cond_no (eqb r.number 0) answer (refuse r) (neqb-of r.number 0 (λ z. h (number ∙ z))))

  -- It is not.
  pub answered-way : no.number ≡ 0 → (a : A) → a ≡ answer → a ≡ unless r refuse answer
  answered-way h a k = k ∙ sym (cond_yes (eqb r.number 0) answer (refuse r) (eqb_of r.number 0 (sym number ∙ h)))
