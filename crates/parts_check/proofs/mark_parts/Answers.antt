use Rattle.parts_check.specs.Laws.Parts.{labels-skip, labels-flood}
use mathlib.Core.Path.{refl}
use Rattle.parts_check.proofs.mark_parts.Goals.{then-marks-i-eq0, else-marks-i-eq0}
use Rattle.parts_check.proofs.mark_parts.Goals as goal

pub loop-i-preserved : goal.loop-i-preserved
loop-i-preserved c =
    let a = c.args in
    let l = c.loop-i in
    let h = c.loop-i-test.true in
    λ kind t k.
    elim c.if-marks-i-eq0.branch [
      | then-marks-i-eq0 w ↦ rw w.marks-is (labels-flood a.cells.now a.m t k l.i l.marks (l.invariant kind t k) h w.if-marks-i-eq0.true _ ((w.flood_rows.ensures kind t k).reached refl))
      | else-marks-i-eq0 w ↦ rw w.marks-is (labels-skip a.cells.now a.m t k l.i l.marks (l.invariant kind t k) h w.if-marks-i-eq0.false)
    ]
