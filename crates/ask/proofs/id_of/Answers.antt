-- The refusals in order, then the row of the cell.
use mathlib.Core.Path.{ap, ◌∙◌}
use Rattle.component.specs.Stored.{stored}
use Rattle.model.specs.Questions.{id_of as question}
use Rattle.layout.specs.State.{decode, id_count, id_words}
use Rattle.told.specs.Told.{done}
use Rattle.ask.specs.Answers.{cell_refusal, id_of}
use Rattle.ask.specs.Laws.Lookups.{id-answered}
use Rattle.ask.specs.Laws.Ways.{lookup-ends, cell-not8}
use Rattle.ask.proofs.id_of.Goals as goal

pub returns-in_err-state : goal.returns-in_err-state
unfolding id_of
returns-in_err-state c =
    let w = c.args.state.now in
    lookup-ends (cell_refusal w c.args.cell) _ c.in_err-state.ensures.answer (cell-not8 w c.args.cell) (done (question (decode w) (stored c.args.cell))) c.from_residual.result c.from_residual.ensures.1

pub returns : goal.returns
returns c =
    id-answered c.args.state.now c.args.cell c.in_ok-state.ensures.answer c.ids-n.result.1 c.ids-n.result.0.now c.stored.result _
    (c.ids-n.ensures.count ∙ ap id_count c.in_ok-state.ensures.same) (c.ids-n.ensures.words ∙ ap id_words c.in_ok-state.ensures.same) c.stored.ensures (ap done c.find_id.ensures)
