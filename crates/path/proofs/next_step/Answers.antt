-- The row stays the next one that the bits from k on lead to.
-- A set bit leads to a row that has a mark.
use Prim.Native.Nat.{ℕ, ◌<◌}
use native.Mathlib.Omega.{arith}
use mathlib.Core.Path.{◌≡◌, sym, ◌∙◌}
use mathlib.Core.Bool.{true}
use mathlib.Core.List.{List}
use lib.ListN.{length}
use borrow.Author.Rules.{rules}
use borrow.Author.Tests.{eq-eqb, ne_eqb}
use Rattle.model.specs.Masks.{bit}
use Rattle.neighbourhood.specs.Rows.{row_mask, row_near, row_for}
use Rattle.neighbourhood.proofs.Laws.Reads.{cells-table, row-bit, row-lead}
use Rattle.path.specs.Walks.{Steppable}
use Rattle.path.specs.Laws.Stepping.{next_start, next-end, next-unset, next-found, next-passed}
use Rattle.path.proofs.next_step.Goals.{then-has+else-marks-near, else-has}
use Rattle.path.proofs.next_step.Goals as goal

there : (words : List ℕ) (n : ℕ) (marks : List ℕ) (i : ℕ) → Steppable words n marks i → (k j : ℕ) → k < 26 → bit (row_mask words i) k ≡ true → j ≡ row_for words n (row_near words i k) → j < length marks
there words n marks i q k j h b e = omega (arith, row-lead words n q.stands.table q.stands.cells i q.there k h b, q.fits)

pub loop-k-init : goal.loop-k-init
loop-k-init c = let a = c.args in next_start a.cells.now a.n a.marks.now a.i

pub next_row-near-requires : goal.next_row-near-requires
unfolding row_mask
next_row-near-requires c =
    let a = c.args in
    let q = c.requires in
    let h = c.loop-k-test.true in (
      cells-table a.cells.now a.n q.stands.table q.stands.cells,
      q.there,
      h,
      (q.stands.kind, sym (row-bit a.cells.now a.n q.stands.table q.stands.cells a.i q.there c.loop-k.k h) ∙ sym c.has.ensures ∙ c.if-has.true),
    )

pub offset_bounds-marks-near : goal.offset_bounds-marks-near
unfolding row_mask
offset_bounds-marks-near c =
    let a = c.args in
    let h = there a.cells.now a.n a.marks.now a.i c.requires c.loop-k.k _ c.loop-k-test.true (sym c.has.ensures ∙ c.if-has.true) c.next_row-near.ensures in
    search rules

pub bounds-marks-near : goal.bounds-marks-near
unfolding row_mask
bounds-marks-near c =
    let a = c.args in
    there a.cells.now a.n a.marks.now a.i c.requires c.loop-k.k _ c.loop-k-test.true (sym c.has.ensures ∙ c.if-has.true) c.next_row-near.ensures

pub returns-then-marks-near : goal.returns-then-marks-near
unfolding row_mask
returns-then-marks-near c =
    let a = c.args in
    sym (c.loop-k.invariant ∙ next-found a.cells.now a.n a.marks.now a.i c.loop-k.k c.loop-k-test.true (sym c.has.ensures ∙ c.if-has.true) c.next_row-near.result c.next_row-near.ensures (eq-eqb _ _ c.if-marks-near.true))

pub loop-k-preserved : goal.loop-k-preserved
unfolding row_mask
loop-k-preserved c =
    let a = c.args in
    let k = c.loop-k.k in
    let h = c.loop-k-test.true in
    elim c.if-has.branch [
      | then-has+else-marks-near w ↦ c.loop-k.invariant ∙ next-passed a.cells.now a.n a.marks.now a.i k h (sym c.has.ensures ∙ w.if-has.true) w.next_row-near.result w.next_row-near.ensures (ne_eqb _ _ w.if-marks-near.false)
      | else-has w ↦ c.loop-k.invariant ∙ next-unset a.cells.now a.n a.marks.now a.i k h (sym c.has.ensures ∙ w.if-has.false)
    ]

pub returns : goal.returns
returns c = let a = c.args in sym (c.loop-k.invariant ∙ next-end a.cells.now a.n a.marks.now a.i c.loop-k.k c.loop-k-test.false)
