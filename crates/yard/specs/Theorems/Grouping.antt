-- After every call that is done, two occupied cells of the state share an id exactly when a path of touching occupied cells joins them.
use Rattle.std.specs.Prelude.{ℕ, ◌≡◌, List}
use Rattle.std.proofs.Common.{sym, subst}
use Rattle.model.specs.Update.{State, touch_of}
use Rattle.model.proofs.Theorems.Grouping.{Grouped}
use Rattle.model.proofs.Theorems.Kinds.{grouping-consistent-kind}
use Rattle.layout.specs.State.{decode}
use Rattle.yard.specs.Update.{update_of}
use Rattle.yard.specs.Theorems.Calls.{call-done}

pub update-grouped : (w b : List ℕ) (removals moves : ℕ) → (update_of w b removals moves).0.number ≡ 0 → Grouped (touch_of (decode (update_of w b removals moves).1)) (decode (update_of w b removals moves).1)
update-grouped w b removals moves e =
    let d = call-done w b removals moves e in
    subst (λ (s : State). Grouped (touch_of s) s) (sym d.stands) (grouping-consistent-kind _ d.sound)
