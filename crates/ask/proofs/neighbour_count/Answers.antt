-- The refusals in order, then the row of the cell.
use mathlib.Core.Path.{ap, ◌∙◌}
use Rattle.component.specs.Stored.{stored}
use Rattle.model.specs.Questions.{neighbour_count}
use Rattle.layout.specs.State.{decode, cell_count, cell_words}
use Rattle.neighbourhood.proofs.Laws.Reads.{cells-table}
use Rattle.told.specs.Told.{done}
use Rattle.ask.specs.Answers.{cell_refusal, count_of}
use Rattle.ask.specs.Laws.Lookups.{count-answered}
use Rattle.ask.specs.Laws.Ways.{lookup-ends, cell-not8}
use Rattle.ask.proofs.neighbour_count.Goals as goal

pub returns-in_err-state : goal.returns-in_err-state
unfolding count_of
returns-in_err-state c =
    let w = c.args.state.now in
    lookup-ends (cell_refusal w c.args.cell) _ c.in_err-state.ensures.answer (cell-not8 w c.args.cell) (done (neighbour_count (decode w) (stored c.args.cell))) c.from_residual.result c.from_residual.ensures.1

pub find_count-requires : goal.find_count-requires
find_count-requires c = cells-table _ _ _ c.cells-n.ensures.stand

pub returns : goal.returns
returns c =
    let t = c.cells-n in
    count-answered c.args.state.now c.args.cell c.in_ok-state.ensures.answer t.result.1 t.result.0.now c.stored.result _ (t.ensures.count ∙ ap cell_count c.in_ok-state.ensures.same) (t.ensures.words ∙ ap cell_words c.in_ok-state.ensures.same) c.stored.ensures (ap done c.find_count.ensures)
