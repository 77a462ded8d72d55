-- The loop writes the entity of the next row if it stands in the cell.
use Prim.Native.Nat.{◌≤◌}
use mathlib.Core.Path.{◌≡◌}
use lib.ListN.{length, take}
use Rattle.table.specs.Moves.{over}
use Rattle.layout.specs.Rows.{entities_in}
use Rattle.lists.specs.Parts.{standing_in}
use Rattle.lists.proofs.entities_into.Given as goal

abbrev pub invariant-loop-i : goal.invariant-loop-i
invariant-loop-i l = (l.k ≤ l.i) × (l.k ≡ length (standing_in (take l.i (entities_in l.n l.rows)) l.c)) × (l.words ≡ over l.initial.words 0 (standing_in (take l.i (entities_in l.n l.rows)) l.c))
