-- The refusals in order, then the rows of the net list.
use mathlib.Core.Path.{ap, ◌∙◌}
use Rattle.lists.specs.Told.{listed_cells, there}
use Rattle.layout.specs.State.{decode, emptied_count, emptied_words}
use Rattle.consistent.specs.Answer.{state_refusal}
use Rattle.ask.specs.Answers.{emptied_of}
use Rattle.ask.specs.Laws.Listings.{emptied-answered}
use Rattle.ask.specs.Laws.Ways.{listing-ends, state-not8}
use Rattle.ask.proofs.newly_emptied.Goals as goal

pub returns-in_err-state : goal.returns-in_err-state
unfolding emptied_of
returns-in_err-state c =
    let w = c.args.state.now in
    listing-ends (state_refusal w) _ c.in_err-state.ensures.answer (state-not8 w) c.args.answer.now (listed_cells (there (decode w).occupancy.newly_emptied) c.args.answer.now) c.from_residual.result c.from_residual.ensures.1

pub returns : goal.returns
returns c = emptied-answered c.args.state.now c.args.answer.now c.in_ok-state.ensures.answer c.emptied-n.result.1 c.emptied-n.result.0.now _ (c.emptied-n.ensures.count ∙ ap emptied_count c.in_ok-state.ensures.same) (c.emptied-n.ensures.words ∙ ap emptied_words c.in_ok-state.ensures.same) c.give_net.ensures
