-- After i rows the mask tells of the first i cells.
use mathlib.Core.Path.{sym, ap, ◌∙◌}
use Rattle.model.specs.Cells.{touch_at}
use Rattle.model.specs.Masks.{with_bit}
use Rattle.model.specs.Places.{slot}
use Rattle.layout.proofs.Laws.Kinds.{kind-touches}
use Rattle.masks_check.specs.Laws.{scan-none, scan-yes, scan-no, scan-end}
use Rattle.masks_check.proofs.scanned.Goals.{then-touching_at, else-touching_at}
use Rattle.masks_check.proofs.scanned.Goals as goal

pub loop-i-init : goal.loop-i-init
loop-i-init c = let a = c.args in scan-none a.kind a.m a.cells.now a.c

pub slot_of-requires : goal.slot_of-requires
slot_of-requires c = kind-touches c.args.kind c.args.c c.cell_at-d.result (sym c.touching_at.ensures ∙ c.if-touching_at.true)

pub loop-i-preserved : goal.loop-i-preserved
loop-i-preserved c =
    let a = c.args in
    let l = c.loop-i in
    let h = c.loop-i-test.true in
    let t = ap (touch_at a.kind a.c) (sym c.cell_at-d.ensures) ∙ sym c.touching_at.ensures in
    elim c.if-touching_at.branch [
      | then-touching_at w ↦ rw w.bits-is (scan-yes a.kind a.m a.cells.now a.c l.i h l.bits l.invariant (t ∙ w.if-touching_at.true) w.set-bits.result (w.set-bits.ensures ∙ ap (with_bit l.bits) (w.slot_of.ensures.0 ∙ ap (slot a.c) c.cell_at-d.ensures)))
      | else-touching_at w ↦ rw w.bits-is (scan-no a.kind a.m a.cells.now a.c l.i h l.bits l.invariant (t ∙ w.if-touching_at.false))
    ]

pub returns : goal.returns
returns c = let a = c.args in let l = c.loop-i in scan-end a.kind a.m a.cells.now a.c l.i l.bits c.loop-i-test.false l.invariant
