-- After i rows those that stay fill the first j, and the words behind them are as they were.
use Rattle.layout.specs.Widths.{id_width}
use Rattle.partition.specs.Held.{HeldRows, HeldCells, Sifted}
use Rattle.model.specs.Groups.{Ids}
use Rattle.model.specs.Cells.{Cell}
use lib.ListN.{length, drop}
use mathlib.Core.List.{List}
use mathlib.Core.Path.{◌≡◌}
use Prim.Native.Nat.{◌*◌, ◌≤◌}
use Rattle.partition.proofs.sift.Given as goal

abbrev pub invariant-loop-i : goal.invariant-loop-i
invariant-loop-i v =
    (v.j ≤ v.i) × (id_width * v.n ≤ length v.initial.ids) × (drop (id_width * v.j) v.ids ≡ drop (id_width * v.j) v.initial.ids)
    × ((t : Ids) (l : List Cell) → HeldRows v.initial.ids v.n t → HeldCells v.emptied v.m l → Sifted v.ids v.i v.j l t)
