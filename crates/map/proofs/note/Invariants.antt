-- After k numbers the bits of the first k neighbours are noted.
use Rattle.layout.specs.Widths.{cell_width}
use Rattle.map.specs.Told.{of_kind, noted}
use Rattle.table.specs.Rows.{table4}
use Rattle.layout.specs.Rows.{neighbour_of}
use Rattle.model.specs.Lists.{keys}
use mathlib.Core.Path.{◌≡◌}
use Rattle.map.proofs.note.Given as goal

abbrev pub invariant-loop-k : goal.invariant-loop-k
invariant-loop-k l = (l.mask ≡ noted (of_kind l.kind) (keys (table4 cell_width l.m l.cells)) (neighbour_of l.c) l.k)
