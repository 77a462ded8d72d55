-- The refusals in order, then the word of the header.
use native.Mathlib.Omega.{arith}
use Rattle.layout.specs.State.{decode}
use Rattle.layout.proofs.Laws.Cut.{header-fits}
use Rattle.consistent.specs.Answer.{state_refusal}
use Rattle.told.specs.Told.{done}
use Rattle.ask.specs.Answers.{kind_of}
use Rattle.ask.specs.Laws.Lookups.{kind-answered}
use Rattle.ask.specs.Laws.Ways.{kind-ends, state-not8}
use mathlib.Core.Path.{ap}
use Rattle.layout.specs.State as layout
use Rattle.ask.proofs.kind_of.Goals as goal

pub returns-in_err-state : goal.returns-in_err-state
unfolding kind_of
returns-in_err-state c = let w = c.args.state.now in kind-ends (state_refusal w) _ c.in_err-state.ensures.answer (state-not8 w) (done (decode w).kind) c.from_residual.result c.from_residual.ensures.1

pub bounds-state-7 : goal.bounds-state-7
bounds-state-7 c = omega (arith, header-fits c.in_ok-state.state.words.now c.in_ok-state.state.long)

pub returns : goal.returns
returns c = kind-answered c.args.state.now c.in_ok-state.ensures.answer (layout.kind_of c.in_ok-state.state.words.now) (ap layout.kind_of c.in_ok-state.ensures.same)
