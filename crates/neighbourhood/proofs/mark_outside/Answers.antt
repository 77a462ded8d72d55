-- The rows passed are marked if they are outside.
use Prim.Native.Nat.{ℕ}
use native.Mathlib.Omega.{arith}
use mathlib.Core.Path.{◌≡◌, sym, ap, ◌∙◌, subst}
use mir.Facts.{to_z-of_z}
use Rattle.component.specs.Stored.{biased}
use Rattle.model.specs.Cells.{Cell}
use Rattle.model.specs.Flood.{within_depth}
use Rattle.neighbourhood.specs.Rows.{row_cell}
use Rattle.neighbourhood.specs.Standing.{OutsideMarked}
use Rattle.neighbourhood.proofs.Laws.Outside.{outside-past, outside-mark}
use Rattle.neighbourhood.proofs.mark_outside.Goals.{then-not-is_within, else-not-is_within}
use Rattle.neighbourhood.proofs.mark_outside.Goals as goal

pub loop-i-preserved : goal.loop-i-preserved
unfolding row_cell
loop-i-preserved c =
    let a = c.args in
    let l = c.loop-i in
    let tested = ap (within_depth c.bias-d.result c.cell_at-s.result) (sym c.cell_at.ensures) ∙ sym c.is_within.ensures in
    elim c.if-not-is_within.branch [
      | then-not-is_within w ↦ rw w.marks-is (outside-mark a.cells.now c.cell_at-s.result c.bias-d.result a.marks.now l.i l.marks l.invariant (tested ∙ w.if-not-is_within.true) (omega (arith, c.loop-i-test.true, l.invariant.marks_kept, c.requires.2)))
      | else-not-is_within w ↦ rw w.marks-is (outside-past a.cells.now c.cell_at-s.result c.bias-d.result a.marks.now l.i l.marks l.invariant (tested ∙ w.if-not-is_within.false))
    ]

pub returns : goal.returns
unfolding row_cell
returns c =
    let a = c.args in
    let l = c.loop-i in
    let e : l.i ≡ a.n = omega (arith, c.loop-i-test.false, l.auto.i-end) in
    subst (λ (m : ℕ). OutsideMarked a.cells.now m (row_cell a.cells.now a.seed) (biased a.depth) a.marks.now l.marks) e
    (subst (λ (d : ℕ). OutsideMarked a.cells.now l.i (row_cell a.cells.now a.seed) d a.marks.now l.marks) (c.bias-d.ensures ∙ ap biased (to_z-of_z c.ranges.depth))
    (subst (λ (p : Cell). OutsideMarked a.cells.now l.i p c.bias-d.result a.marks.now l.marks) c.cell_at-s.ensures l.invariant))
