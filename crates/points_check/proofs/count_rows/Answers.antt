-- The entities passed are counted.
-- The place of the next one's cell.
use Rattle.layout.specs.Widths.{cell_width}
use lib.Seq.{take_all}
use lib.ListN.{get_or, length-set, length-take}
use mathlib.Core.List.{List}
use borrow.Author.Rules.{rules}
use Rattle.std.proofs.lemmas.List.{length-replicate, get_or-replicate}
use Rattle.model.specs.Cells.{Cell, same, below}
use Rattle.model.specs.Lists.{has, keys, values}
use Rattle.layout.specs.Rows.{entities_in}
use Rattle.std.specs.Prelude.{Result, Ok, Err}
use Rattle.table.specs.Rows.{cell, cell_at, table4, place_of}
use Rattle.table.specs.Laws.Kinds.{cell-lawful}
use Rattle.table.specs.Laws.Answers.{is_among, found_below}
use Rattle.points_check.specs.Laws.Readings.{entity-lines}
use Rattle.points_check.specs.Laws.Lines.{all-no, all-next, all_end}
use Rattle.points_check.specs.Marks.{Counted}
use Rattle.points_check.specs.Laws.Marks.{counted-few, counted-more}
use Prim.Native.Nat.{ℕ, ◌+◌, ◌*◌}
use native.Mathlib.Omega.{arith}
use mathlib.Core.Path.{◌≡◌, refl, sym, ap, ◌∙◌, subst}
use Rattle.points_check.proofs.count_rows.Goals as goal

found : (words : List ℕ) (m : ℕ) (d e : Cell) (p q : Result ℕ ℕ) → p ≡ q → p ≡ place_of below (keys (table4 cell_width m words)) d → d ≡ e → q ≡ place_of below (keys (table4 cell_width m words)) e
found words m d e p q f g h = sym f ∙ g ∙ ap (place_of below (keys (table4 cell_width m words))) h

pub loop-i-init : goal.loop-i-init
loop-i-init c = (length-replicate {A = ℕ} 1024 0, refl, record { is = λ j h. get_or-replicate 1024 j 0 0 (omega (arith, h, c.requires.2)) })

pub offset_bounds-counts-j : goal.offset_bounds-counts-j
offset_bounds-counts-j c =
    let a = c.args in
    let h = found_below cell cell-lawful cell_width a.m a.cells.now _ c.in-Ok.j (found a.cells.now a.m _ _ _ _ c.in-Ok.is c.find.ensures c.cell_at-c.ensures) in
    let g = c.requires.2 in
    search rules

pub bounds-counts-j : goal.bounds-counts-j
bounds-counts-j c =
    let a = c.args in
    omega (arith, c.requires.2, found_below cell cell-lawful cell_width a.m a.cells.now _ c.in-Ok.j (found a.cells.now a.m _ _ _ _ c.in-Ok.is c.find.ensures c.cell_at-c.ensures))

pub overflow_add-counts : goal.overflow_add-counts
overflow_add-counts c =
    let a = c.args in
    let h = found_below cell cell-lawful cell_width a.m a.cells.now _ c.in-Ok.j (found a.cells.now a.m _ _ _ _ c.in-Ok.is c.find.ensures c.cell_at-c.ensures) in
    omega (arith, counted-few c.loop-i.invariant.2 c.in-Ok.j h, length-take c.loop-i.i (values (entities_in a.n a.ents.now)))

pub bounds-counts-j-in-Ok : goal.bounds-counts-j-in-Ok
bounds-counts-j-in-Ok c =
    let a = c.args in
    omega (arith, c.requires.2, found_below cell cell-lawful cell_width a.m a.cells.now _ c.in-Ok.j (found a.cells.now a.m _ _ _ _ c.in-Ok.is c.find.ensures c.cell_at-c.ensures))

pub loop-i-preserved : goal.loop-i-preserved
loop-i-preserved c =
    let a = c.args in
    let l = c.loop-i in
    let j = c.in-Ok.j in
    let e = entity-lines a.n a.ents.now in
    let h = c.loop-i-test.true in
    let f = found a.cells.now a.m _ _ _ _ c.in-Ok.is c.find.ensures c.cell_at-c.ensures in (
      length-set l.counts j (get_or l.counts j 0 + 1) ∙ l.invariant.0,
      l.invariant.1 ∙ all-next e (has same (keys (table4 cell_width a.m a.cells.now))) l.i h (sym (is_among cell cell-lawful cell_width a.m a.cells.now c.requires.0 _ (Ok j) f)),
      counted-more a.cells.now a.m c.requires.0 l.counts l.i j e h (omega (arith, l.invariant.0, c.requires.2)) f l.invariant.2,
    )

pub returns-in-Err : goal.returns-in-Err
returns-in-Err c =
    let a = c.args in
    c.loop-i.invariant.1
    ∙ all-no (entity-lines a.n a.ents.now) (has same (keys (table4 cell_width a.m a.cells.now))) c.loop-i.i c.loop-i-test.true
    (sym (is_among cell cell-lawful cell_width a.m a.cells.now c.requires.0 _ (Err _) (found a.cells.now a.m _ _ _ _ c.in-Err.is c.find.ensures c.cell_at-c.ensures)))

pub returns : goal.returns
returns c =
    let a = c.args in
    let l = c.loop-i in
    let e = entity-lines a.n a.ents.now in
    let g = e.len in
    let h = c.loop-i-test.false in (
      l.invariant.1 ∙ all_end e (has same (keys (table4 cell_width a.m a.cells.now))) l.i h,
      subst (λ (k : List Cell). Counted k (λ j. cell_at a.cells.now (cell_width * j)) a.m l.counts) (take_all l.i (values (entities_in a.n a.ents.now)) (omega arith)) l.invariant.2,
      l.invariant.0,
    )
