-- The invariant: what the table knows and what is to be noted of the rest are the marks of all.
use Rattle.settings.proofs.Noting.{Noting}
use Rattle.settings.specs.Whole.{Whole}
use lib.ListN.{length}
use mathlib.Core.List.{List}
use mathlib.Core.Path.{◌≡◌}
use Prim.Native.Nat.{ℕ, ◌-◌, ◌≤◌}
use Rattle.settings.proofs.keeper.note_all.Given as goal

abbrev pub invariant-loop-at : goal.invariant-loop-at
invariant-loop-at l = (l.at ≤ length l.bytes) × (length l.t ≡ length l.initial.t) × ((rs : List (List ℕ)) → Whole rs l.bytes → Noting l.bytes l.at l.t rs)

abbrev pub decreases-loop-at : goal.decreases-loop-at
decreases-loop-at l = length l.bytes - l.at
