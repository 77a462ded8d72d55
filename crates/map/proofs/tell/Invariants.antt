-- After k numbers the first k neighbours are told.
use Rattle.layout.specs.Widths.{cell_width}
use Rattle.map.specs.Told.{TableIs, of_kind, told}
use Rattle.table.specs.Rows.{cell, table4}
use Rattle.layout.specs.Rows.{neighbour_of}
use Rattle.model.specs.Lists.{change}
use lib.ListN.{length}
use mathlib.Core.Path.{◌≡◌}
use Rattle.map.proofs.tell.Given as goal

abbrev pub invariant-loop-k : goal.invariant-loop-k
invariant-loop-k l = (length l.cells ≡ length l.initial.cells) × (TableIs cell cell_width l.m l.cells (change (told (of_kind l.kind) l.joins (neighbour_of l.c) l.k) (table4 cell_width l.m l.initial.cells)))
