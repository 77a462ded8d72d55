-- The loop goes over the rows of the planes and writes the cells beside the centre.
-- A row before the first behind the planes is there.
-- Behind the cells of the rows passed one more has space.
use Prim.Native.Nat.{ℕ, ◌+◌, ◌-◌, ◌*◌, ◌≤◌, ◌<◌}
use native.Mathlib.Omega.{arith}
use mathlib.Core.Bool.{true}
use mathlib.Core.List.{List, ◌++◌, append-nil}
use mathlib.Core.Path.{◌≡◌, refl, sym, ◌∙◌, ap}
use lib.ListN.{length, take}
use borrow.Author.Rules.{rules}
use Rattle.model.specs.Lists.{gather, keep, keys}
use Rattle.model.specs.Cells.{Cell}
use Rattle.table.specs.Rows.{cell, table4, is_table4}
use Rattle.table.specs.Laws.Images.{table-facts}
use Rattle.layout.specs.Widths.{answer_width, cell_width}
use Rattle.neighbourhood.specs.Rows.{row_for}
use Rattle.neighbourhood.specs.Answers.{answer_words}
use Rattle.neighbourhood.specs.Beside.{beside, plane_start}
use Rattle.neighbourhood.proofs.Laws.Cubes.{beside-step, beside-past}
use Rattle.neighbourhood.proofs.Laws.Planes.{plane-within, planes-order, beside-start, beside-stop}
use Rattle.neighbourhood.proofs.Laws.Walking.{behind-rest}
use Rattle.neighbourhood.proofs.cube_into.Goals.{then-is_beside, else-is_beside}
use Rattle.neighbourhood.proofs.cube_into.Goals as goal

row : (words : List ℕ) (n : ℕ) → is_table4 cell_width n words ≡ true → (c : Cell) (i end : ℕ) → i < end → end ≡ row_for words n c → i < n
row words n t c i end h e = omega (arith, plane-within words n t c)

fits : (words : List ℕ) (n : ℕ) → is_table4 cell_width n words ≡ true → (i : ℕ) → i < n → cell_width * i + cell_width ≤ length words
fits words n t i h = omega (arith, (table-facts cell cell_width n words t).fits)

space : (from n i k long : ℕ) → answer_width * (from + n) ≤ long → i < n → k ≤ from + i → answer_width * k + answer_width ≤ long
space from n i k long h g f = omega arith

pub loop-i-init : goal.loop-i-init
loop-i-init c =
    let a = c.args in
    let e : c.plane_row-first.result ≡ row_for a.cells.now a.n (plane_start a.c.grid (a.c.z - a.r)) =
    c.plane_row-first.ensures ∙ ap (λ (z : ℕ). row_for a.cells.now a.n (plane_start a.c.grid z)) c.saturating_sub.ensures in (
      omega arith,
      sym (append-nil _)
          ∙ ap (λ (l : List Cell). take (answer_width * a.from) a.words.now ++ gather answer_words l) (sym (beside-start a.cells.now a.n c.requires.0 a.r a.c))
          ∙ ap (λ (m : ℕ). take (answer_width * a.from) a.words.now ++ gather answer_words (keep (beside a.r a.c) (take m (keys (table4 cell_width a.n a.cells.now))))) (sym e),
      refl,
    )

pub overflow_mul-i : goal.overflow_mul-i
overflow_mul-i c =
    let a = c.args in
    let f = fits a.cells.now a.n c.requires.0 c.loop-i.i (row a.cells.now a.n c.requires.0 _ c.loop-i.i _ c.loop-i-test.true c.plane_row-end.ensures) in
    search rules

pub cell_at-d-requires : goal.cell_at-d-requires
cell_at-d-requires c =
    let a = c.args in
    omega (arith, fits a.cells.now a.n c.requires.0 c.loop-i.i (row a.cells.now a.n c.requires.0 _ c.loop-i.i _ c.loop-i-test.true c.plane_row-end.ensures))

pub overflow_mul-k : goal.overflow_mul-k
overflow_mul-k c =
    let a = c.args in
    let f = space a.from a.n c.loop-i.i c.loop-i.k _ c.requires.2 (row a.cells.now a.n c.requires.0 _ c.loop-i.i _ c.loop-i-test.true c.plane_row-end.ensures) c.loop-i.invariant.0 in
    search rules

pub write_cell-requires : goal.write_cell-requires
write_cell-requires c =
    let a = c.args in
    omega (arith, c.loop-i.auto.words, space a.from a.n c.loop-i.i c.loop-i.k _ c.requires.2 (row a.cells.now a.n c.requires.0 _ c.loop-i.i _ c.loop-i-test.true c.plane_row-end.ensures) c.loop-i.invariant.0)

pub overflow_add-k : goal.overflow_add-k
overflow_add-k c =
    let a = c.args in
    let f = space a.from a.n c.loop-i.i c.loop-i.k _ c.requires.2 (row a.cells.now a.n c.requires.0 _ c.loop-i.i _ c.loop-i-test.true c.plane_row-end.ensures) c.loop-i.invariant.0 in
    search rules

pub loop-i-preserved : goal.loop-i-preserved
loop-i-preserved c =
    let a = c.args in
    let l = c.loop-i in
    let v = l.invariant in
    let r = row a.cells.now a.n c.requires.0 _ l.i _ c.loop-i-test.true c.plane_row-end.ensures in
    let s : answer_width * l.k + answer_width ≤ length l.words = omega (arith, l.auto.words, space a.from a.n l.i l.k _ c.requires.2 r v.0) in
    elim c.if-is_beside.branch [
      | then-is_beside w ↦ rw (w.k-is, w.words-is) (
        omega (arith, v.0),
        beside-step a.cells.now a.n a.r a.c (take (answer_width * a.from) a.words.now) l.words l.k l.i v.1 r c.cell_at-d.result c.cell_at-d.ensures c.is_beside.result c.is_beside.ensures w.if-is_beside.true _ s w.write_cell.ensures,
        behind-rest a.words.now l.words _ l.k c.cell_at-d.result v.2 s w.write_cell.ensures,
      )
      | else-is_beside w ↦ rw (w.k-is, w.words-is) (
        omega (arith, v.0),
        beside-past a.cells.now a.n a.r a.c (take (answer_width * a.from) a.words.now) l.words l.k l.i v.1 r c.cell_at-d.result c.cell_at-d.ensures c.is_beside.result c.is_beside.ensures w.if-is_beside.false,
        v.2,
      )
    ]

pub returns : goal.returns
returns c =
    let a = c.args in
    let l = c.loop-i in
    let v = l.invariant in
    let q : c.plane_row-first.result ≤ c.plane_row-end.result =
    omega (arith, c.plane_row-first.ensures ∙ ap (λ (z : ℕ). row_for a.cells.now a.n (plane_start a.c.grid z)) c.saturating_sub.ensures, c.plane_row-end.ensures, planes-order a.cells.now a.n c.requires.0 a.r a.c) in
    let e : l.i ≡ row_for a.cells.now a.n (plane_start a.c.grid (a.c.z + a.r + 1)) = omega (arith, l.auto.i-end q, c.loop-i-test.false, c.plane_row-end.ensures) in (
      omega (arith, v.0, e, plane-within a.cells.now a.n c.requires.0 (plane_start a.c.grid (a.c.z + a.r + 1))),
      v.1
          ∙ ap (λ (m : ℕ). take (answer_width * a.from) a.words.now ++ gather answer_words (keep (beside a.r a.c) (take m (keys (table4 cell_width a.n a.cells.now))))) e
          ∙ ap (λ (l : List Cell). take (answer_width * a.from) a.words.now ++ gather answer_words l) (beside-stop a.cells.now a.n c.requires.0 a.r a.c),
      v.2,
    )
