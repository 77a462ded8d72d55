-- The row that is found is the seed; a cell that is missing gives nothing.
use mathlib.Core.Path.{sym, ◌∙◌}
use Rattle.model.specs.Flood.{flood}
use Rattle.model.specs.Cells.{touch_at}
use Rattle.layout.specs.Rows.{cells_in}
use Rattle.neighbourhood.proofs.Laws.Reads.{cells-table}
use Rattle.floods.specs.Laws.Floods.{flooded-none}
use Rattle.lists.proofs.Laws.Occupied.{found-has, found-there, found-cell, missing_has}
use Rattle.lists.specs.Parts.{having}
use Rattle.floods.specs.Told.{flooded, depth_of}
use Rattle.floods.proofs.give_flood.Goals as goal

pub find-requires : goal.find-requires
find-requires c = cells-table c.args.cells.now c.args.n (cells_in c.args.n c.args.cells.now) c.requires.0.1

pub flood_from-requires : goal.flood_from-requires
flood_from-requires c = (c.requires.0, found-there c.args.cells.now c.args.n (cells_in c.args.n c.args.cells.now) c.requires.0.1 c.args.c c.in-Ok.i (sym c.in-Ok.is ∙ c.find.ensures), c.requires.1)

pub returns-in-Ok : goal.returns-in-Ok
returns-in-Ok c =
    let w = c.args.cells.now in
    let t = cells_in c.args.n w in
    let at = sym c.in-Ok.is ∙ c.find.ensures in
    λ kind stands.
    c.flood_from.ensures kind stands
    ∙ (λ j. flooded (sym (found-has w c.args.n t stands c.args.c c.in-Ok.i at) j)
    (flood (touch_at kind) (having t).occupancy (found-cell w c.args.n t stands c.args.c c.in-Ok.i at j) (depth_of c.args.depth) c.args.budget) c.args.answer.now)

pub returns-in-Err : goal.returns-in-Err
returns-in-Err c =
    let w = c.args.cells.now in
    let t = cells_in c.args.n w in
    λ kind stands.
    flooded-none kind t c.args.c (depth_of c.args.depth) c.args.budget c.args.answer.now
    (missing_has w c.args.n t stands c.args.c c.in-Err.field-0 (sym c.in-Err.is ∙ c.find.ensures))
