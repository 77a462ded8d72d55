-- The best so far with the groups left has the same largest as all.
use Rattle.layout.specs.Rows.{ids_in}
use Rattle.model.specs.Groups.{largest_group}
use lib.ListN.{drop, get_or}
use mathlib.Core.Path.{◌≡◌}
use Prim.Native.Nat.{◌+◌}
use Rattle.partition.proofs.largest.Given as goal

abbrev pub invariant-loop-g : goal.invariant-loop-g
invariant-loop-g l = largest_group (ids_in l.n l.ids) l.best (drop (l.g-index + 1) l.found) ≡ largest_group (ids_in l.n l.ids) (get_or l.found 0 0) (drop 1 l.found)
