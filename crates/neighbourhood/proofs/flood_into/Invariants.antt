-- The loop writes the next cell behind those that are written.
use mathlib.Core.Path.{◌≡◌}
use lib.ListN.{take}
use Rattle.neighbourhood.specs.Answers.{filled, cells_of_rows}
use Rattle.neighbourhood.proofs.flood_into.Given as goal

abbrev pub invariant-loop-k : goal.invariant-loop-k
invariant-loop-k l = l.answer ≡ filled l.initial.answer (take l.k (cells_of_rows l.cells l.rows l.count))
