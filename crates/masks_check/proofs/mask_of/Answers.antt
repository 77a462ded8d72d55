-- Where there is room the neighbours are looked for, else all cells are looked at.
use mathlib.Core.Path.{sym, ◌∙◌}
use Rattle.model.specs.Lists.{keys}
use Rattle.table.specs.Rows.{cell, table4}
use Rattle.table.specs.Laws.Images.{table-facts}
use Rattle.map.specs.Laws.Near.{noted-mask}
use Rattle.layout.specs.Widths.{cell_width}
use Rattle.masks_check.proofs.mask_of.Goals as goal

pub returns-then-has_room : goal.returns-then-has_room
returns-then-has_room c = let a = c.args in c.note.ensures ∙ noted-mask a.kind a.c (sym c.has_room.ensures ∙ c.if-has_room.true) (keys (table4 cell_width a.m a.cells.now))

pub scanned-requires : goal.scanned-requires
scanned-requires c = (table-facts cell cell_width c.args.m c.args.cells.now c.requires).fits
