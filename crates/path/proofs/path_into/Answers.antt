-- The loop writes the next cell of the walk behind those that are written.
-- The row of the loop is there.
-- It is marked.
use Prim.Native.Nat.{ℕ, ◌+◌, ◌*◌, ◌≤◌, ◌<◌}
use native.Mathlib.Omega.{arith}
use mathlib.Core.Path.{◌≡◌, sym, ap, ◌∙◌}
use mathlib.Core.List.{List}
use lib.ListN.{length, get_or}
use borrow.Author.Rules.{rules}
use Rattle.neighbourhood.specs.Rows.{row_cell}
use Rattle.neighbourhood.specs.Answers.{filled}
use Rattle.neighbourhood.proofs.Laws.Filling.{filled_none, filling_step, filling-end}
use Rattle.layout.specs.Widths.{cell_width}
use Rattle.path.specs.Walks.{next_row, row_after, walk_cells, Walkable}
use Rattle.path.specs.Laws.Walking.{walk-count, walk_at, after_none, after_more, after-there, after-mark, shown-cells}
use Rattle.path.proofs.path_into.Goals as goal

there : (words : List ℕ) (n : ℕ) (marks : List ℕ) (from to : ℕ) (answer : List ℕ) → Walkable words n marks from to answer → (k i : ℕ) → i ≡ row_after words n marks k from → i < n
there words n marks from to answer q k i e = omega (arith, after-there words n q.stands.table q.stands.cells marks k from q.starts)

row : (words : List ℕ) (n : ℕ) (marks : List ℕ) (from to : ℕ) (answer : List ℕ) → Walkable words n marks from to answer → (k i : ℕ) → i ≡ row_after words n marks k from → cell_width * i + cell_width ≤ length words
row words n marks from to answer q k i e = omega (arith, there words n marks from to answer q k i e, q.stands.cells.fits)

marked : (words : List ℕ) (n : ℕ) (marks : List ℕ) (from to : ℕ) (answer : List ℕ) → Walkable words n marks from to answer → (k i : ℕ) → i ≡ row_after words n marks k from → k < get_or marks from 0 → 0 < get_or marks i 0
marked words n marks from to answer q k i e h =
    omega (arith, ap (λ (j : ℕ). get_or marks j 0) e, after-mark words n q.stands.table q.stands.cells to q.ends marks q.levels k from q.starts h)

pub loop-k-init : goal.loop-k-init
loop-k-init c =
    let a = c.args in
    (sym (after_none a.cells.now a.n a.marks.now a.from), filled_none a.answer.now (walk_cells a.cells.now a.n a.marks.now a.from))

pub overflow_mul-i : goal.overflow_mul-i
overflow_mul-i c = let f = row _ _ _ _ _ _ c.requires.1 c.loop-k.k c.loop-k.i c.loop-k.invariant.0 in search rules

pub cell_at-c-requires : goal.cell_at-c-requires
cell_at-c-requires c = omega (arith, row _ _ _ _ _ _ c.requires.1 c.loop-k.k c.loop-k.i c.loop-k.invariant.0)

pub next_step-i-requires : goal.next_step-i-requires
next_step-i-requires c =
    let q = c.requires.1 in
    let l = c.loop-k in
    record { stands = q.stands; there = there _ _ _ _ _ _ q l.k l.i l.invariant.0; marked = marked _ _ _ _ _ _ q l.k l.i l.invariant.0 c.loop-k-test.true; fits = q.fits }

pub loop-k-preserved : goal.loop-k-preserved
unfolding row_cell
loop-k-preserved c =
    let a = c.args in
    let l = c.loop-k in
    let h = c.loop-k-test.true in (
      c.next_step-i.ensures
          ∙ ap (next_row a.cells.now a.n a.marks.now) l.invariant.0
          ∙ after_more a.cells.now a.n a.marks.now l.k a.from,
      filling_step a.answer.now (walk_cells a.cells.now a.n a.marks.now a.from) l.k l.answer _ c.cell_at-c.result c.cell_at-c.result l.invariant.1 c.write_cell.ensures
          (c.cell_at-c.ensures ∙ ap (row_cell a.cells.now) l.invariant.0 ∙ sym (walk_at a.cells.now a.n a.marks.now l.k a.from c.cell_at-c.result h)) (omega (arith, walk-count a.cells.now a.n a.marks.now a.from)),
    )

pub returns : goal.returns
returns c =
    let a = c.args in
    let l = c.loop-k in
    let q = c.requires.1 in
    let long = walk-count a.cells.now a.n a.marks.now a.from in
    let f = filling-end a.answer.now (walk_cells a.cells.now a.n a.marks.now a.from) l.k l.answer l.invariant.1 (omega (arith, long, c.loop-k-test.false)) in
    λ kind t k to g w.
    let e = shown-cells a.cells.now a.n t k to g a.marks.now w a.from q.starts in
    record { few = w.few a.from q.starts; number = sym (ap length e ∙ long); written = f ∙ ap (filled a.answer.now) (sym e) }
