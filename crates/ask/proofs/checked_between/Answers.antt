-- The state or the first cell is refused, or the test of the second cell's range follows.
use mathlib.Core.Path.{◌∙◌}
use Rattle.ask.specs.Answers.{cell_refusal, cells_refusal}
use Rattle.ask.specs.Laws.Ways.{ranged, ends-with, test-ends, answered-by}
use Rattle.ask.proofs.checked_between.Goals as goal

pub returns-in_err-state-clause-answer : goal.returns-in_err-state-clause-answer
unfolding cells_refusal
returns-in_err-state-clause-answer c = test-ends (cell_refusal c.args.state.now c.args.from) _ c.in_err-state.ensures.answer (ranged 1 c.args.to) c.from_residual.result c.from_residual.ensures.1

pub returns-in_err-in_range-clause-answer : goal.returns-in_err-in_range-clause-answer
unfolding cells_refusal
returns-in_err-in_range-clause-answer c =
    ends-with _ c.from_residual-in_err-in_range.result c.from_residual-in_err-in_range.ensures.1 ∙ c.in_err-in_range.ensures
    ∙ answered-by (cell_refusal c.args.state.now c.args.from) (λ k. k) (ranged 1 c.args.to) c.in_ok-state.ensures.answer

pub returns-clause-answer : goal.returns-clause-answer
unfolding cells_refusal
returns-clause-answer c = c.in_ok-in_range.ensures ∙ answered-by (cell_refusal c.args.state.now c.args.from) (λ k. k) (ranged 1 c.args.to) c.in_ok-state.ensures.answer
