-- The loop writes the next cell of the walk behind those that are written.
use mathlib.Core.Path.{◌≡◌}
use lib.ListN.{take}
use Rattle.neighbourhood.specs.Answers.{filled}
use Rattle.path.specs.Walks.{row_after, walk_cells}
use Rattle.path.proofs.path_into.Given as goal

abbrev pub invariant-loop-k : goal.invariant-loop-k
invariant-loop-k l = (l.i ≡ row_after l.cells l.n l.marks l.k l.from) × (l.answer ≡ filled l.initial.answer (take l.k (walk_cells l.cells l.n l.marks l.from)))
