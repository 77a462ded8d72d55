-- After i cells the groups are those of rule 1 for the first i.
use Rattle.layout.specs.Widths.{id_width, net_width}
use Rattle.partition.specs.Held.{HeldIds, HeldCells}
use Rattle.model.specs.Groups.{Groups, rule1}
use Rattle.model.specs.Cells.{Cell, touch_at}
use Rattle.model.specs.Lists.{run}
use lib.ListN.{length, take}
use mathlib.Core.List.{List}
use Prim.Native.Nat.{◌+◌, ◌*◌, ◌≤◌, ◌<◌}
use Rattle.partition.proofs.rules1.Given as goal

abbrev pub invariant-loop-i : goal.invariant-loop-i
invariant-loop-i v =
    (net_width * v.m ≤ length v.occupied) × (id_width * v.initial.held.count + id_width * v.m ≤ length v.initial.ids) × (v.initial.held.next + v.m < 18446744073709551616) × (v.held.count ≤ v.initial.held.count + v.i) × (v.held.next ≤ v.initial.held.next + v.i)
    × ((s : Groups) (l : List Cell) → HeldIds v.initial.ids v.initial.held.count v.initial.held.next s → HeldCells v.occupied v.m l → HeldIds v.ids v.held.count v.held.next (run (rule1 (touch_at v.kind)) s (take v.i l)))
