-- The entities passed are counted.
use Rattle.layout.specs.Widths.{cell_width}
use lib.ListN.{length, take, drop}
use Rattle.model.specs.Cells.{same}
use Rattle.model.specs.Lists.{all, has, keys, values}
use Rattle.layout.specs.Rows.{entities_in}
use Rattle.table.specs.Rows.{cell_at, table4}
use Rattle.points_check.specs.Marks.{Counted}
use Prim.Native.Nat.{◌*◌}
use Rattle.model.specs.Update.{most_cells}
use mathlib.Core.Path.{◌≡◌}
use Rattle.points_check.proofs.count_rows.Given as goal

abbrev pub invariant-loop-i : goal.invariant-loop-i
invariant-loop-i l =
    (length l.counts ≡ most_cells)
    × (all (has same (keys (table4 cell_width l.m l.cells))) (values (entities_in l.n l.ents)) ≡ all (has same (keys (table4 cell_width l.m l.cells))) (drop l.i (values (entities_in l.n l.ents))))
    × Counted (take l.i (values (entities_in l.n l.ents))) (λ j. cell_at l.cells (cell_width * j)) l.m l.counts
