-- No depth leaves all rows unmarked; a depth leaves the rows within it so.
use mathlib.Core.Path.{sym, ap, ◌∙◌}
use mir.Facts.{to_z-of_z}
use mir.Syntax.{w32}
use mir.Val.{SFits}
use borrow.Author.Rules.{rules}
use lib.IntN.{ℤ}
use Rattle.component.specs.Stored.{biased}
use Rattle.model.specs.Lists.{keep, keys}
use Rattle.model.specs.Flood.{within_depth, flood_cells}
use Rattle.layout.specs.Rows.{cells_in}
use Rattle.neighbourhood.specs.Rows.{row_cell}
use Rattle.neighbourhood.proofs.Laws.Unmarked.{open-all}
use Rattle.neighbourhood.proofs.Laws.Outside.{outside-open}
use Rattle.floods.specs.Told.{Depth, depth_of}
use Rattle.floods.proofs.leave_out.Goals as goal

pub returns-in-Some : goal.returns-in-Some
returns-in-Some c =
    let t = cells_in c.args.n c.args.cells.now in
    let p = row_cell c.args.cells.now c.args.seed in
    let f : SFits w32 c.in-Some.d = search rules in
    outside-open c.args.cells.now c.args.n t c.requires.0.1 p _ c.args.marks.now c.mark_outside.new.marks c.requires.3 c.mark_outside.ensures
    ∙ ap (λ (z : ℤ). keep (within_depth (biased z) p) (keys t)) (to_z-of_z f)
    ∙ ap (λ (d : Depth). flood_cells (depth_of d) p (keys t)) (sym c.in-Some.is)

pub returns-in_default : goal.returns-in_default
returns-in_default c =
    let t = cells_in c.args.n c.args.cells.now in
    open-all c.args.cells.now c.args.n t c.requires.0.1 c.args.marks.now c.requires.3
    ∙ ap (λ (d : Depth). flood_cells (depth_of d) (row_cell c.args.cells.now c.args.seed) (keys t)) (sym c.in_default.is)
