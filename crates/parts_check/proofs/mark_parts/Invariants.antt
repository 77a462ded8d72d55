use mathlib.Core.List.{List}
use Rattle.model.specs.Cells.{Cell}
use Rattle.neighbourhood.specs.Standing.{Cells}
use Rattle.parts_check.specs.Parts.{Labelled}
use Prim.Native.Nat.{ℕ}
use Rattle.parts_check.proofs.mark_parts.Given as goal

abbrev pub invariant-loop-i : goal.invariant-loop-i
invariant-loop-i l = (kind : ℕ) (t : List (Cell × ℕ)) → Cells kind l.cells l.m t → Labelled kind l.cells l.m t l.i l.marks
