-- The refusals in order, then the rows of the net list.
use mathlib.Core.Path.{ap, ◌∙◌}
use Rattle.lists.specs.Told.{listed_cells, there}
use Rattle.layout.specs.State.{decode, occupied_count, occupied_words}
use Rattle.consistent.specs.Answer.{state_refusal}
use Rattle.ask.specs.Answers.{occupied_of}
use Rattle.ask.specs.Laws.Listings.{occupied-answered}
use Rattle.ask.specs.Laws.Ways.{listing-ends, state-not8}
use Rattle.ask.proofs.newly_occupied.Goals as goal

pub returns-in_err-state : goal.returns-in_err-state
unfolding occupied_of
returns-in_err-state c =
    let w = c.args.state.now in
    listing-ends (state_refusal w) _ c.in_err-state.ensures.answer (state-not8 w) c.args.answer.now (listed_cells (there (decode w).occupancy.newly_occupied) c.args.answer.now) c.from_residual.result c.from_residual.ensures.1

pub returns : goal.returns
returns c = occupied-answered c.args.state.now c.args.answer.now c.in_ok-state.ensures.answer c.occupied-n.result.1 c.occupied-n.result.0.now _ (c.occupied-n.ensures.count ∙ ap occupied_count c.in_ok-state.ensures.same) (c.occupied-n.ensures.words ∙ ap occupied_words c.in_ok-state.ensures.same) c.give_net.ensures
