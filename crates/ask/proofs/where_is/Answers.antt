-- The refusals in order, then the row of the entity.
use mathlib.Core.Path.{ap, ◌∙◌}
use Rattle.component.specs.Stored.{cell_id}
use Rattle.model.specs.Questions.{where_is}
use Rattle.layout.specs.State.{decode, entity_count, entity_words}
use Rattle.consistent.specs.Answer.{state_refusal}
use Rattle.told.specs.Told.{done, seen}
use Rattle.ask.specs.Answers.{where_of}
use Rattle.ask.specs.Laws.Lookups.{where-answered}
use Rattle.ask.specs.Laws.Ways.{lookup-ends, state-not8}
use Rattle.ask.proofs.where_is.Goals as goal

pub returns-in_err-state : goal.returns-in_err-state
unfolding where_of
returns-in_err-state c =
    let w = c.args.state.now in
    lookup-ends (state_refusal w) _ c.in_err-state.ensures.answer (state-not8 w) (done (seen cell_id (where_is (decode w) c.args.entity))) c.from_residual.result c.from_residual.ensures.1

pub returns : goal.returns
returns c = where-answered c.args.state.now c.args.entity c.in_ok-state.ensures.answer c.entities-n.result.1 c.entities-n.result.0.now _ (c.entities-n.ensures.count ∙ ap entity_count c.in_ok-state.ensures.same) (c.entities-n.ensures.words ∙ ap entity_words c.in_ok-state.ensures.same) (ap done c.find_entity.ensures)
