-- `cells_right` meets its contract: each way out is one of point 2'c.
use mathlib.Core.Path.{sym, ◌∙◌}
use Rattle.points_check.specs.Laws.Cells.{cells-uncounted, cells-no-table, ids-no-table, cells-differ, cells-stood-in}
use Rattle.points_check.proofs.cells_right.Goals as goal

pub returns-then-m-k : goal.returns-then-m-k
returns-then-m-k c =
    let a = c.args in
    cells-uncounted a.ents.now a.n a.cells.now a.m a.ids.now a.k c.requires.2 c.requires.3 c.if-m-k.true

pub returns-then-not-is_table : goal.returns-then-not-is_table
returns-then-not-is_table c =
    let a = c.args in
    cells-no-table a.ents.now a.n a.cells.now a.m a.ids.now a.k c.requires.2 c.requires.3 (sym c.is_table.ensures ∙ c.if-not-is_table.true)

pub returns-then-not-is_table-2 : goal.returns-then-not-is_table-2
returns-then-not-is_table-2 c =
    let a = c.args in
    ids-no-table a.ents.now a.n a.cells.now a.m a.ids.now a.k c.requires.2 c.requires.3 c.if-m-k.false (sym c.is_table-2.ensures ∙ c.if-not-is_table-2.true)

pub returns-then-not-same_cells : goal.returns-then-not-same_cells
returns-then-not-same_cells c =
    let a = c.args in
    cells-differ a.ents.now a.n a.cells.now a.m a.ids.now a.k c.requires.2 c.requires.3 c.if-m-k.false (sym c.same_cells.ensures ∙ c.if-not-same_cells.true)

pub returns : goal.returns
returns c =
    let a = c.args in
    c.stood_in.ensures
    ∙ cells-stood-in a.ents.now a.n a.cells.now a.m a.ids.now a.k c.requires.2 c.requires.3 c.if-m-k.false c.requires.1
    (sym c.is_table.ensures ∙ c.if-not-is_table.false)
    (sym c.is_table-2.ensures ∙ c.if-not-is_table-2.false)
    (sym c.same_cells.ensures ∙ c.if-not-same_cells.false)
