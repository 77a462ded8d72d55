-- The invariant: what is gathered and what is to be kept of the rest are what is to be kept of all.
use Rattle.settings.proofs.Gathering.{Left}
use Rattle.settings.specs.Whole.{Whole}
use Rattle.settings.specs.Table.{mark_of, Known}
use lib.ListN.{length, take}
use mathlib.Core.List.{List}
use mathlib.Core.Path.{◌≡◌}
use Prim.Native.Nat.{ℕ, ◌-◌, ◌≤◌}
use Rattle.settings.proofs.keeper.gather.Given as goal

abbrev pub invariant-loop-at : goal.invariant-loop-at
invariant-loop-at l =
    (l.to ≤ l.at) × (l.at ≤ l.n) × (l.n ≤ length l.s) × (length l.s ≡ length l.initial.s)
    × ((rs : List (List ℕ)) → Whole rs (take l.n l.initial.s) → Known (λ g. mark_of g 0 rs) l.t → Left l.initial.s l.s l.at l.to l.n rs)

abbrev pub decreases-loop-at : goal.decreases-loop-at
decreases-loop-at l = l.n - l.at
