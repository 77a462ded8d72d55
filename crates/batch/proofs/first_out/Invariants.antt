-- `first_out` meets its contract.
use mathlib.Core.Path.{◌≡◌}
use lib.ListN.{drop}
use Rattle.batch.specs.Words.{moves_in}
use Rattle.batch.specs.Places.{first_out}
use Rattle.batch.proofs.Laws.Places.{out_from}
use Rattle.batch.proofs.first_out.Given as goal

abbrev pub invariant-loop-i : goal.invariant-loop-i
invariant-loop-i l = first_out 0 (moves_in l.moves (drop l.from l.batch)) ≡ out_from l.batch l.from l.moves l.i
