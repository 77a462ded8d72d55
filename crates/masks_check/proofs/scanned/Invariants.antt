-- After i rows the mask tells of the first i cells.
use mathlib.Core.Path.{◌≡◌}
use lib.ListN.{take}
use Rattle.model.specs.Lists.{keys}
use Rattle.model.specs.Cells.{touch_at}
use Rattle.model.specs.Masks.{mask_of}
use Rattle.table.specs.Rows.{table4}
use Rattle.layout.specs.Widths.{cell_width}
use Rattle.masks_check.proofs.scanned.Given as goal

abbrev pub invariant-loop-i : goal.invariant-loop-i
invariant-loop-i l = l.bits ≡ mask_of (touch_at l.kind) (take l.i (keys (table4 cell_width l.m l.cells))) l.c
