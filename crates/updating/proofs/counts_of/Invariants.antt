-- After i rows the first i numbers are written.
use Prim.Native.Nat.{◌*◌, ◌≤◌}
use mathlib.Core.Path.{◌≡◌}
use lib.ListN.{length, take}
use Rattle.model.specs.Lists.{values}
use Rattle.layout.specs.Widths.{crowd_width}
use Rattle.layout.specs.Rows.{ids_in}
use Rattle.updating.proofs.counts_of.Given as goal

abbrev pub invariant-loop-i : goal.invariant-loop-i
invariant-loop-i l =
    (length l.counts ≡ length l.initial.counts) × (crowd_width * l.n ≤ length l.crowd) × (l.n ≤ length l.initial.counts) × (take l.i l.counts ≡ values (take l.i (ids_in l.n l.crowd)))
