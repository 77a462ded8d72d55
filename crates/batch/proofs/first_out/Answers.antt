-- `first_out` meets its contract: what is told of all moves is told of those from row i on.
use mathlib.Core.Path.{sym, ap, ◌∙◌}
use Rattle.component.specs.Range.{cell_in_range, stored_bad_axis}
use Rattle.refusal.specs.Forms.{out_of_range}
use Rattle.batch.proofs.Laws.Places.{out-here, out-behind, out-end}
use Rattle.batch.proofs.first_out.Goals as goal

pub returns-then-not-stored_in_range : goal.returns-then-not-stored_in_range
returns-then-not-stored_in_range c =
    let a = c.args in
    let l = c.loop-i in
    ap (out_of_range l.i) (c.stored_bad_axis-axis.ensures ∙ ap stored_bad_axis c.move_cell-c.ensures)
    ∙ sym (l.invariant ∙ out-here a.batch.now a.from a.moves l.i c.loop-i-test.true
    (ap cell_in_range (sym c.move_cell-c.ensures) ∙ sym c.stored_in_range.ensures ∙ c.if-not-stored_in_range.true))

pub loop-i-preserved : goal.loop-i-preserved
loop-i-preserved c =
    let a = c.args in
    let l = c.loop-i in
    l.invariant ∙ out-behind a.batch.now a.from a.moves l.i c.loop-i-test.true
    (ap cell_in_range (sym c.move_cell-c.ensures) ∙ sym c.stored_in_range.ensures ∙ c.if-not-stored_in_range.false)

pub returns : goal.returns
returns c =
    let a = c.args in
    sym (c.loop-i.invariant ∙ out-end a.batch.now a.from a.moves c.loop-i.i c.loop-i-test.false)
