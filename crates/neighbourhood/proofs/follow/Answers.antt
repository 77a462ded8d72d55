-- The loop is `Following`.
-- The row stands within the words.
-- The bits from a set one on lead to its row first.
use Prim.Native.Nat.{ℕ, ◌+◌, ◌*◌, ◌≤◌, ◌<◌}
use native.Mathlib.Omega.{arith}
use mathlib.Core.Path.{◌≡◌, sym, ap, ◌∙◌}
use mathlib.Core.Bool.{true}
use mathlib.Core.List.{List, ◌∷◌}
use lib.ListN.{length}
use borrow.Author.Rules.{rules}
use Rattle.model.specs.Masks.{bit}
use Rattle.table.specs.Rows.{cell, is_table4}
use Rattle.table.specs.Laws.Images.{table-facts}
use Rattle.layout.specs.Widths.{cell_width}
use Rattle.neighbourhood.specs.Rows.{row_mask, row_near, row_for, onward_from}
use Rattle.neighbourhood.proofs.Laws.Listing.{onward-all, onward-none, onward-yes, onward-no}
use Rattle.neighbourhood.proofs.Following.{going_start, going_end, going-same, going-old, going-space, going-new}
use Rattle.neighbourhood.proofs.follow.Goals.{then-has+then-marks-j-eq0, then-has+else-marks-j-eq0, else-has}
use Rattle.neighbourhood.proofs.follow.Goals as goal

inside : (words : List ℕ) (n i : ℕ) → is_table4 cell_width n words ≡ true → i < n → cell_width * i + cell_width ≤ length words
inside words n i t h = omega (arith, (table-facts cell cell_width n words t).fits)

next : (words : List ℕ) (n i k j : ℕ) → k < 26 → bit (row_mask words i) k ≡ true → j ≡ row_for words n (row_near words i k) → onward_from words n i k ≡ j ∷ onward_from words n i (k + 1)
next words n i k j h b e = onward-yes words n i k h b ∙ ap (λ (r : ℕ). r ∷ onward_from words n i (k + 1)) (sym e)

pub offset_bounds-cells-i : goal.offset_bounds-cells-i
offset_bounds-cells-i c = let h = inside c.args.cells.now c.args.n c.args.i c.requires.table c.requires.row in search rules

pub bounds-cells-i : goal.bounds-cells-i
bounds-cells-i c = let h = inside c.args.cells.now c.args.n c.args.i c.requires.table c.requires.row in omega arith

pub loop-k-init : goal.loop-k-init
loop-k-init c = let a = c.args in going_start _ _ _ _ (onward-all a.cells.now a.n a.i)

pub next_row-j-requires : goal.next_row-j-requires
unfolding row_mask
next_row-j-requires c =
    let h = c.loop-k-test.true in
    (c.requires.table, c.requires.row, h, (c.requires.kind, sym (c.requires.exact c.loop-k.k h) ∙ sym c.has.ensures ∙ c.if-has.true))

pub offset_bounds-marks-j : goal.offset_bounds-marks-j
unfolding row_mask
offset_bounds-marks-j c =
    let h : c.next_row-j.result < length c.args.marks.now = omega (arith, c.requires.there c.loop-k.k c.loop-k-test.true (sym c.has.ensures ∙ c.if-has.true), c.next_row-j.ensures, c.requires.fits) in
    search rules

pub bounds-marks-j : goal.bounds-marks-j
unfolding row_mask
bounds-marks-j c =
    omega (arith, c.requires.there c.loop-k.k c.loop-k-test.true (sym c.has.ensures ∙ c.if-has.true), c.next_row-j.ensures, c.requires.fits, c.loop-k.auto.marks)

pub offset_bounds-marks-j-then-marks-j-eq0 : goal.offset_bounds-marks-j-then-marks-j-eq0
unfolding row_mask
offset_bounds-marks-j-then-marks-j-eq0 c =
    let h : c.next_row-j.result < length c.args.marks.now = omega (arith, c.requires.there c.loop-k.k c.loop-k-test.true (sym c.has.ensures ∙ c.if-has.true), c.next_row-j.ensures, c.requires.fits) in
    search rules

pub bounds-marks-j-then-marks-j-eq0 : goal.bounds-marks-j-then-marks-j-eq0
unfolding row_mask
bounds-marks-j-then-marks-j-eq0 c =
    omega (arith, c.requires.there c.loop-k.k c.loop-k-test.true (sym c.has.ensures ∙ c.if-has.true), c.next_row-j.ensures, c.requires.fits, c.loop-k.auto.marks)

pub offset_bounds-queue-e : goal.offset_bounds-queue-e
unfolding row_mask
offset_bounds-queue-e c =
    let a = c.args in
    let h = going-space _ _ _ _ _ c.loop-k.invariant _ _ (next a.cells.now a.n a.i c.loop-k.k c.next_row-j.result c.loop-k-test.true (sym c.has.ensures ∙ c.if-has.true) c.next_row-j.ensures) c.if-marks-j-eq0.true c.requires.space in
    search rules

pub bounds-queue-e : goal.bounds-queue-e
unfolding row_mask
bounds-queue-e c =
    let a = c.args in
    going-space _ _ _ _ _ c.loop-k.invariant _ _ (next a.cells.now a.n a.i c.loop-k.k c.next_row-j.result c.loop-k-test.true (sym c.has.ensures ∙ c.if-has.true) c.next_row-j.ensures) c.if-marks-j-eq0.true c.requires.space

pub overflow_add-e : goal.overflow_add-e
unfolding row_mask
overflow_add-e c =
    let a = c.args in
    let h = going-space _ _ _ _ _ c.loop-k.invariant _ _ (next a.cells.now a.n a.i c.loop-k.k c.next_row-j.result c.loop-k-test.true (sym c.has.ensures ∙ c.if-has.true) c.next_row-j.ensures) c.if-marks-j-eq0.true c.requires.space in
    search rules

pub loop-k-preserved : goal.loop-k-preserved
unfolding row_mask
loop-k-preserved c =
    let a = c.args in
    let k = c.loop-k.k in
    elim c.if-has.branch [
      | then-has+then-marks-j-eq0 w ↦ rw (w.e-is, w.marks-is, w.queue-is) (going-new _ _ _ _ _ c.loop-k.invariant _ _ (next a.cells.now a.n a.i k w.next_row-j.result c.loop-k-test.true (sym c.has.ensures ∙ w.if-has.true) w.next_row-j.ensures) w.if-marks-j-eq0.true)
      | then-has+else-marks-j-eq0 w ↦ rw (w.e-is, w.marks-is, w.queue-is) (going-old _ _ _ _ _ c.loop-k.invariant _ _ (next a.cells.now a.n a.i k w.next_row-j.result c.loop-k-test.true (sym c.has.ensures ∙ w.if-has.true) w.next_row-j.ensures) w.if-marks-j-eq0.false)
      | else-has w ↦ rw (w.e-is, w.marks-is, w.queue-is) (going-same _ _ _ _ _ c.loop-k.invariant _ (onward-no a.cells.now a.n a.i k c.loop-k-test.true (sym c.has.ensures ∙ w.if-has.false)))
    ]

pub returns : goal.returns
returns c =
    let a = c.args in
    going_end _ _ _ _ _ c.loop-k.invariant (onward-none a.cells.now a.n a.i c.loop-k.k c.loop-k-test.false)
