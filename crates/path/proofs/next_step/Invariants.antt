-- The row stays the next one that the bits from k on lead to.
use mathlib.Core.Path.{◌≡◌}
use Rattle.path.specs.Walks.{next_row}
use Rattle.path.specs.Laws.Stepping.{next_from}
use Rattle.path.proofs.next_step.Given as goal

abbrev pub invariant-loop-k : goal.invariant-loop-k
invariant-loop-k l = next_row l.cells l.n l.marks l.i ≡ next_from l.cells l.n l.marks l.i l.k
