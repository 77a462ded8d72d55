-- The unmarked rows are those that the depth leaves; the flood goes over them.
use native.Mathlib.Omega.{arith}
use mathlib.Core.List.{List}
use mathlib.Core.Path.{subst}
use Rattle.model.specs.Cells.{Cell, touch_at}
use Rattle.model.specs.Flood.{whole_flood}
use Rattle.layout.specs.Rows.{cells_in}
use Rattle.neighbourhood.specs.Rows.{row_cell}
use Rattle.floods.specs.Parts.{Visits}
use Rattle.floods.specs.Laws.Floods.{visits-none, visits-open}
use Rattle.floods.proofs.queue_flood.Goals as goal

pub returns-then-marks-seed-ne0 : goal.returns-then-marks-seed-ne0
returns-then-marks-seed-ne0 c =
    let w = c.args.cells.now in
    λ kind stands.
    subst (λ (l : List Cell). Visits w c.args.n c.args.queue.now 0 (whole_flood (touch_at kind) l (row_cell w c.args.seed))) c.leave_out.ensures
    (visits-none w c.args.n (cells_in c.args.n w) stands c.args.seed c.requires.seeded c.leave_out.new.marks c.args.queue.now (λ e. omega (arith, c.if-marks-seed-ne0.true)))

pub returns : goal.returns
returns c =
    let w = c.args.cells.now in
    let r = c.flood_rows in
    λ kind stands.
    subst (λ (l : List Cell). Visits w c.args.n r.new.queue r.result (whole_flood (touch_at kind) l (row_cell w c.args.seed))) c.leave_out.ensures
    (visits-open w c.args.n (cells_in c.args.n w) stands c.args.seed c.requires.seeded c.leave_out.new.marks (omega (arith, c.if-marks-seed-ne0.false)) c.args.queue.now r.result r.new.marks r.new.queue (r.ensures kind (cells_in c.args.n w) stands) c.requires.queue_fits)
