-- The loop writes the next cell behind those that are written.
use Prim.Native.Nat.{◌<◌}
use native.Mathlib.Omega.{arith}
use mathlib.Core.Path.{sym, ap, ◌∙◌}
use lib.Seq.{length-take-le}
use Rattle.std.proofs.lemmas.List.{get_or-take}
use Rattle.neighbourhood.specs.Rows.{row_cell}
use Rattle.neighbourhood.specs.Answers.{cells_of_rows}
use Rattle.neighbourhood.proofs.Laws.Filling.{filled_none, filling_step, rows_long, rows_at}
use Rattle.neighbourhood.proofs.flood_into.Goals as goal

pub loop-k-init : goal.loop-k-init
loop-k-init c = let a = c.args in filled_none a.answer.now (cells_of_rows a.cells.now a.rows.now a.count)

pub loop-k-preserved : goal.loop-k-preserved
unfolding row_cell
loop-k-preserved c =
    let a = c.args in
    let l = c.loop-k in
    let h : l.k < a.count = omega (arith, c.loop-k-test.true, length-take-le a.count a.rows.now c.requires.0.few) in
    filling_step a.answer.now (cells_of_rows a.cells.now a.rows.now a.count) l.k l.answer _ c.cell_at-c.result c.cell_at-c.result l.invariant c.write_cell.ensures
    (c.cell_at-c.ensures ∙ ap (row_cell a.cells.now) (get_or-take a.count a.rows.now l.k 0 h) ∙ sym (rows_at a.cells.now a.rows.now a.count c.requires.0.few l.k c.cell_at-c.result h)) (omega (arith, rows_long a.cells.now a.rows.now a.count c.requires.0.few))
