-- The header is within the words of a state.
use native.Mathlib.Omega.{arith}
use Rattle.layout.proofs.Laws.Cut.{header-fits}
use Rattle.layout.proofs.count_at.Goals as goal

pub bounds-state-k : goal.bounds-state-k
bounds-state-k c = omega (arith, header-fits c.args.state.now c.requires.0, c.requires.1)
