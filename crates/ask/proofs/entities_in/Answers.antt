-- The refusals in order, then the rows of the entities.
use mathlib.Core.Path.{refl}
use mathlib.Core.Path.{ap, ◌∙◌}
use Rattle.component.specs.Stored.{stored}
use Rattle.model.specs.Questions.{entities_in}
use Rattle.layout.specs.State.{decode, entity_count, entity_words}
use Rattle.lists.specs.Told.{listed_numbers}
use Rattle.ask.specs.Answers.{cell_refusal, entities_of}
use Rattle.ask.specs.Laws.Listings.{entities-answered}
use Rattle.ask.specs.Laws.Ways.{listing-ends, cell-not8, range-by}
use Rattle.ask.proofs.entities_in.Goals as goal

pub returns-in_err-state : goal.returns-in_err-state
unfolding entities_of
returns-in_err-state c =
    let w = c.args.state.now in
    listing-ends (cell_refusal w c.args.cell) _ c.in_err-state.ensures.answer (cell-not8 w c.args.cell) c.args.answer.now (listed_numbers (entities_in (decode w) (stored c.args.cell)) c.args.answer.now) c.from_residual.result c.from_residual.ensures.1

pub returns : goal.returns
returns c =
    entities-answered c.args.state.now c.args.cell c.args.answer.now c.in_ok-state.ensures.answer (range-by c.args.state.now c.args.cell _ c.in_ok-state.ensures.answer refl).0
    c.entities-n.result.1 c.entities-n.result.0.now c.stored.result _ (c.entities-n.ensures.count ∙ ap entity_count c.in_ok-state.ensures.same) (c.entities-n.ensures.words ∙ ap entity_words c.in_ok-state.ensures.same) c.stored.ensures c.give_entities.ensures
