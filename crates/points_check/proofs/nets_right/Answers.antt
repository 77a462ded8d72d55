-- `nets_right` meets its contract: each way out is one of point 8'c.
use mathlib.Core.Path.{sym, ◌∙◌}
use Rattle.table.specs.Rows.{cell}
use Rattle.table.specs.Laws.Images.{table-facts}
use Rattle.layout.specs.Widths.{net_width}
use Rattle.points_check.specs.Laws.Nets.{occupied-no-table, emptied-no-table, nets-by-tests}
use Rattle.points_check.proofs.nets_right.Goals as goal

pub returns-then-not-is_table : goal.returns-then-not-is_table
returns-then-not-is_table c =
    let a = c.args in
    occupied-no-table a.cells.now a.m a.occ.now a.k a.emp.now a.l c.requires.1 c.requires.2 (sym c.is_table.ensures ∙ c.if-not-is_table.true)

pub returns-then-not-is_table-2 : goal.returns-then-not-is_table-2
returns-then-not-is_table-2 c =
    let a = c.args in
    emptied-no-table a.cells.now a.m a.occ.now a.k a.emp.now a.l c.requires.1 c.requires.2
    (sym c.is_table.ensures ∙ c.if-not-is_table.false) (sym c.is_table-2.ensures ∙ c.if-not-is_table-2.true)

pub all_held-requires : goal.all_held-requires
all_held-requires c =
    (c.requires.0, (table-facts cell net_width c.args.k c.args.occ.now (sym c.is_table.ensures ∙ c.if-not-is_table.false)).fits)

pub all_held-requires-2 : goal.all_held-requires-2
all_held-requires-2 c =
    (c.requires.0, (table-facts cell net_width c.args.l c.args.emp.now (sym c.is_table-2.ensures ∙ c.if-not-is_table-2.false)).fits)

pub returns : goal.returns
returns c =
    let a = c.args in
    nets-by-tests a.cells.now a.m a.occ.now a.k a.emp.now a.l c.requires.1 c.requires.2
    (sym c.is_table.ensures ∙ c.if-not-is_table.false) (sym c.is_table-2.ensures ∙ c.if-not-is_table-2.false)
    c.all_held.result c.all_held-2.result c.all_held.ensures c.all_held-2.ensures
