-- The row of the cell that the bit tells of.
use Rattle.table.specs.Rows.{cell}
use Rattle.table.specs.Laws.Images.{table-facts}
use Rattle.layout.specs.Widths.{cell_width}
use Rattle.neighbourhood.proofs.next_row.Goals as goal

pub near_cell-requires : goal.near_cell-requires
near_cell-requires c =
    let s = c in
    ((table-facts cell cell_width s.args.n s.args.cells.now s.requires.0).fits, s.requires.1, s.requires.2, s.requires.3)
