-- The loop writes the next key behind those that are written.
use mathlib.Core.Path.{◌≡◌}
use lib.ListN.{take}
use Rattle.model.specs.Lists.{keys}
use Rattle.table.specs.Moves.{over}
use Rattle.table.specs.Rows.{table1}
use Rattle.layout.specs.Widths.{group_width}
use Rattle.lists.proofs.keys_into.Given as goal

abbrev pub invariant-loop-i : goal.invariant-loop-i
invariant-loop-i l = l.words ≡ over l.initial.words 0 (take l.i (keys (table1 group_width l.n l.rows)))
