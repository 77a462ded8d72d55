-- The refusals in order, then the row of the group.
use mathlib.Core.Path.{ap, ◌∙◌}
use Rattle.model.specs.Questions.{group_by}
use Rattle.layout.specs.State.{decode, group_count, group_words}
use Rattle.consistent.specs.Answer.{state_refusal}
use Rattle.told.specs.Told.{done, seen}
use Rattle.lookups.specs.Told.{shown_of}
use Rattle.ask.specs.Answers.{group_of}
use Rattle.ask.specs.Laws.Lookups.{group-answered}
use Rattle.ask.specs.Laws.Ways.{lookup-ends, state-not8}
use Rattle.ask.proofs.group.Goals as goal

pub returns-in_err-state : goal.returns-in_err-state
unfolding group_of
returns-in_err-state c =
    let w = c.args.state.now in
    lookup-ends (state_refusal w) _ c.in_err-state.ensures.answer (state-not8 w) (done (seen shown_of (group_by (decode w) c.args.id))) c.from_residual.result c.from_residual.ensures.1

pub returns : goal.returns
returns c = group-answered c.args.state.now c.args.id c.in_ok-state.ensures.answer c.groups-n.result.1 c.groups-n.result.0.now _ (c.groups-n.ensures.count ∙ ap group_count c.in_ok-state.ensures.same) (c.groups-n.ensures.words ∙ ap group_words c.in_ok-state.ensures.same) (ap done c.find_group.ensures)
