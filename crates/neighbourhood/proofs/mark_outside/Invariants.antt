-- The rows passed are marked if they are outside.
use Rattle.neighbourhood.specs.Standing.{OutsideMarked}
use Rattle.neighbourhood.proofs.mark_outside.Given as goal

abbrev pub invariant-loop-i : goal.invariant-loop-i
invariant-loop-i l = OutsideMarked l.cells l.i l.s l.d l.initial.marks l.marks
