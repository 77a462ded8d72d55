-- Any two answers that the promise of `update` allows are equal.
use Rattle.std.specs.Prelude.{ℕ, ◌≡◌, List, Result}
use Rattle.refusal.specs.declared.Refusal.{Refusal}
use Rattle.refusal.specs.Forms.{Refused, outcome}
use Rattle.refusal.proofs.Theorems.{outcome-filled-one}
use Rattle.yard.specs.Update.{update_of}

pub update-one : (w b : List ℕ) (removals moves : ℕ) (p q : Result (Unit {0}) Refusal × List ℕ)
    → ◌≡◌ {A = Refused × List ℕ} (outcome p.0, p.1) (update_of w b removals moves)
    → ◌≡◌ {A = Refused × List ℕ} (outcome q.0, q.1) (update_of w b removals moves) → p ≡ q
update-one w b removals moves p q e f = outcome-filled-one p q (update_of w b removals moves) e f
