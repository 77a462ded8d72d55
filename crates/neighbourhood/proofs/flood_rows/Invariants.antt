-- The loop is `Wave`.
use Prim.Native.Nat.{ℕ, ◌-◌}
use mathlib.Core.List.{List}
use Rattle.model.specs.Cells.{Cell}
use Rattle.neighbourhood.specs.Fronts.{front}
use Rattle.neighbourhood.specs.Standing.{Cells}
use Rattle.neighbourhood.proofs.Wave.{Wave}
use Rattle.neighbourhood.proofs.flood_rows.Given as goal

abbrev pub invariant-loop-h : goal.invariant-loop-h
invariant-loop-h l = (kind : ℕ) (t : List (Cell × ℕ)) → Cells kind l.cells l.n t → Wave kind l.cells l.n l.seed l.label l.step l.initial.marks l.initial.queue l.h (front l.e l.marks l.queue)

abbrev pub decreases-loop-h : goal.decreases-loop-h
decreases-loop-h l = l.n - l.h
