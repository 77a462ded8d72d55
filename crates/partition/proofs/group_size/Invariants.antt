-- After i rows the count is the group's size among the first i.
use Rattle.layout.specs.Rows.{ids_in}
use Rattle.model.specs.Groups.{size}
use lib.ListN.{take}
use mathlib.Core.Path.{◌≡◌}
use Prim.Native.Nat.{◌≤◌}
use Rattle.partition.proofs.group_size.Given as goal

abbrev pub invariant-loop-i : goal.invariant-loop-i
invariant-loop-i l = (l.m ≤ l.i) × (l.m ≡ size (take l.i (ids_in l.n l.ids)) l.g)
