-- The loop goes over the rows of the planes and writes the cells beside the centre.
use Prim.Native.Nat.{◌+◌, ◌*◌, ◌≤◌}
use mathlib.Core.List.{◌++◌}
use mathlib.Core.Path.{◌≡◌}
use lib.ListN.{take, drop}
use Rattle.model.specs.Lists.{gather, keep, keys}
use Rattle.table.specs.Rows.{table4}
use Rattle.layout.specs.Widths.{answer_width, cell_width}
use Rattle.neighbourhood.specs.Answers.{answer_words}
use Rattle.neighbourhood.specs.Beside.{beside}
use Rattle.neighbourhood.proofs.cube_into.Given as goal

abbrev pub invariant-loop-i : goal.invariant-loop-i
invariant-loop-i l = (l.k ≤ l.from + l.i) × (take (answer_width * l.k) l.words ≡ take (answer_width * l.from) l.initial.words ++ gather answer_words (keep (beside l.r l.c) (take l.i (keys (table4 cell_width l.n l.cells))))) × (drop (answer_width * l.k) l.words ≡ drop (answer_width * l.k) l.initial.words)
