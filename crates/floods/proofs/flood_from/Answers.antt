-- No row is marked at first; the rows that are queued are the flood, and the budget leaves the first of them.
use Rattle.model.specs.Update.{most_cells}
use Rattle.layout.specs.Rows.{cells_in}
use Rattle.neighbourhood.specs.Rows.{row_cell}
use Rattle.floods.specs.Laws.Floods.{flood-asked, flooded-long, flooded-fits}
use Rattle.floods.specs.Told.{depth_of}
use Rattle.floods.proofs.flood_from.Goals as goal

pub queue_flood-whole-requires : goal.queue_flood-whole-requires
queue_flood-whole-requires c = flood-asked c.args.cells.now c.args.n c.args.seed most_cells c.requires.0.1 c.requires.1 c.requires.2 c.requires.2

pub returns-then-answer-number : goal.returns-then-answer-number
returns-then-answer-number c =
    let w = c.args.cells.now in
    let q = c.queue_flood-whole in
    λ kind stands.
    flooded-long kind w c.args.n (cells_in c.args.n w) (row_cell w c.args.seed) (depth_of c.args.depth) c.args.budget q.new.queue q.result (q.ensures kind stands) c.min-number.result c.min-number.ensures c.args.answer.now c.if-answer-number.true

pub returns : goal.returns
returns c =
    let w = c.args.cells.now in
    let q = c.queue_flood-whole in
    λ kind stands.
    flooded-fits kind w c.args.n (cells_in c.args.n w) (row_cell w c.args.seed) (depth_of c.args.depth) c.args.budget q.new.queue q.result (q.ensures kind stands) c.min-number.result c.min-number.ensures c.args.answer.now c.flood_into.new.answer c.if-answer-number.false c.flood_into.ensures
