-- After i rows the first i are merged and the others as they were.
use Rattle.layout.specs.Widths.{id_width}
use Rattle.partition.specs.Laws.Join.{partly, merged}
use Rattle.partition.specs.Held.{HeldRows}
use Rattle.model.specs.Groups.{Ids}
use lib.ListN.{length}
use Prim.Native.Nat.{◌*◌, ◌≤◌}
use Rattle.partition.proofs.merge.Given as goal

abbrev pub invariant-loop-i : goal.invariant-loop-i
invariant-loop-i l = (id_width * l.n ≤ length l.initial.ids) × ((t : Ids) → HeldRows l.initial.ids l.n t → HeldRows l.ids l.n (partly (merged l.into l.found) t l.i))
