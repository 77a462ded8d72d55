-- The state is refused, or the test of the cell's range follows.
use mathlib.Core.Path.{◌∙◌}
use Rattle.consistent.specs.Answer.{state_refusal}
use Rattle.ask.specs.Answers.{cell_refusal}
use Rattle.ask.specs.Laws.Ways.{ranged, ends-with, test-ends, answered-by}
use Rattle.ask.proofs.checked_at.Goals as goal

pub returns-in_err-state-clause-answer : goal.returns-in_err-state-clause-answer
unfolding cell_refusal
returns-in_err-state-clause-answer c = test-ends (state_refusal c.args.state.now) _ c.in_err-state.ensures.answer (ranged 0 c.args.cell) c.from_residual.result c.from_residual.ensures.1

pub returns-in_err-in_range-clause-answer : goal.returns-in_err-in_range-clause-answer
unfolding cell_refusal
returns-in_err-in_range-clause-answer c =
    ends-with _ c.from_residual-in_err-in_range.result c.from_residual-in_err-in_range.ensures.1 ∙ c.in_err-in_range.ensures
    ∙ answered-by (state_refusal c.args.state.now) (λ k. k) (ranged 0 c.args.cell) c.in_ok-state.ensures.answer

pub returns-clause-answer : goal.returns-clause-answer
unfolding cell_refusal
returns-clause-answer c = c.in_ok-in_range.ensures ∙ answered-by (state_refusal c.args.state.now) (λ k. k) (ranged 0 c.args.cell) c.in_ok-state.ensures.answer
