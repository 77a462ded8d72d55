-- The refusals in order, then the rows of the groups.
use mathlib.Core.Path.{ap, ◌∙◌}
use Rattle.lists.specs.Told.{listed_numbers, there}
use Rattle.model.specs.Questions.{id_list}
use Rattle.layout.specs.State.{decode, group_count, group_words}
use Rattle.consistent.specs.Answer.{state_refusal}
use Rattle.ask.specs.Answers.{ids_of}
use Rattle.ask.specs.Laws.Listings.{ids-answered}
use Rattle.ask.specs.Laws.Ways.{listing-ends, state-not8}
use Rattle.ask.proofs.ids.Goals as goal

pub returns-in_err-state : goal.returns-in_err-state
unfolding ids_of
returns-in_err-state c =
    let w = c.args.state.now in
    listing-ends (state_refusal w) _ c.in_err-state.ensures.answer (state-not8 w) c.args.answer.now (listed_numbers (there (id_list (decode w))) c.args.answer.now) c.from_residual.result c.from_residual.ensures.1

pub returns : goal.returns
returns c = ids-answered c.args.state.now c.args.answer.now c.in_ok-state.ensures.answer c.groups-n.result.1 c.groups-n.result.0.now _ (c.groups-n.ensures.count ∙ ap group_count c.in_ok-state.ensures.same) (c.groups-n.ensures.words ∙ ap group_words c.in_ok-state.ensures.same) c.give_ids.ensures
