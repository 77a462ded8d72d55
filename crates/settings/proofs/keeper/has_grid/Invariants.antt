-- The invariant: the records from the place on have one of the grid just where all have.
use Rattle.settings.proofs.Parts.{part}
use Rattle.settings.specs.Whole.{Whole}
use Rattle.settings.specs.Keeping.{has}
use lib.ListN.{length}
use mathlib.Core.List.{List}
use mathlib.Core.Path.{◌≡◌}
use Prim.Native.Nat.{ℕ, ◌-◌, ◌≤◌}
use Rattle.settings.proofs.keeper.has_grid.Given as goal

abbrev pub invariant-loop-at : goal.invariant-loop-at
invariant-loop-at l = (l.at ≤ length l.bytes) × ((rs : List (List ℕ)) → Whole rs l.bytes → (todo : List (List ℕ)) × Whole todo (part l.bytes l.at (length l.bytes)) × (has l.grid todo ≡ has l.grid rs))

abbrev pub decreases-loop-at : goal.decreases-loop-at
decreases-loop-at l = length l.bytes - l.at
