-- The loop is `Following`.
use Rattle.neighbourhood.specs.Rows.{onward, onward_from}
use Rattle.neighbourhood.specs.Fronts.{front}
use Rattle.neighbourhood.proofs.Following.{Going}
use Rattle.neighbourhood.proofs.follow.Given as goal

abbrev pub invariant-loop-k : goal.invariant-loop-k
invariant-loop-k l = Going l.label (onward l.cells l.n l.i) (front l.end l.initial.marks l.initial.queue) (onward_from l.cells l.n l.i l.k) (front l.e l.marks l.queue)
