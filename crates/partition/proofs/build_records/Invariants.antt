-- After i rows the records are those of the first i cells.
use Rattle.layout.specs.Widths.{id_width, group_width}
use Rattle.partition.specs.Held.{HeldTable, HeldGroups, HeldCounts}
use Rattle.model.specs.Cells.{Cell}
use Rattle.model.specs.Groups.{Ids, records}
use lib.ListN.{length, take}
use mathlib.Core.List.{List}
use Prim.Native.Nat.{ℕ, ◌*◌, ◌≤◌}
use Rattle.partition.proofs.build_records.Given as goal

abbrev pub invariant-loop-i : goal.invariant-loop-i
invariant-loop-i l =
    (id_width * l.n ≤ length l.ids) × (group_width * l.n ≤ length l.initial.groups) × (l.n ≤ length l.counts)
    × ((e : List (ℕ × Cell)) (t : Ids) → HeldTable l.ids l.n t → HeldCounts l.counts l.ids l.n e → HeldGroups l.groups l.k (records e (take l.i t)))
