-- `component::step` meets its contract: each arm's test is the test that `step_n` picks by.
use Rattle.std.proofs.Common.{arith, le-ltb, lt-ltb}
use Rattle.component.specs.Around.{step_n}
use Rattle.component.proofs.step.Goals as goal

pub returns-then-k-m : goal.returns-then-k-m
unfolding step_n
returns-then-k-m c = simp (lt-ltb c.before.args.k c.before.args.m (omega arith))

pub returns-else-k-m : goal.returns-else-k-m
unfolding step_n
returns-else-k-m c = simp (le-ltb c.before.args.k c.before.args.m (omega arith))
