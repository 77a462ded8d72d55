-- Point 3, over the words of the occupied cells.
use native.Mathlib.Omega.{arith}
use mathlib.Core.Path.{◌∙◌}
use Rattle.model.specs.Lists.{all, keys}
use Rattle.table.specs.Rows.{table4, is_table4}
use Rattle.layout.specs.Widths.{cell_width}
use Rattle.layout.specs.Rows.{cells_in}
use Rattle.layout.specs.State.{kind_of}
use Rattle.layout.proofs.Laws.Cut.{header-fits}
use Rattle.masks_check.specs.Rows.{row_right}
use Rattle.consistent.specs.Laws.Points.{tables, point3-is}
use Rattle.consistent.proofs.masks_exact.Goals as goal

pub bounds-state-7 : goal.bounds-state-7
bounds-state-7 c = let s = c in omega (arith, header-fits s.args.state.now.words.now s.args.state.now.long)

pub masks_right-requires : goal.masks_right-requires
masks_right-requires c =
    let s = c in
    (λ i. is_table4 cell_width (c.cells-m.ensures.count i) (c.cells-m.ensures.words i)) ∙ (tables s.args.state.now.words.now s.args.state.now.long s.requires).cells-table

pub returns : goal.returns
returns c =
    let m = c.cells-m.ensures.count in
    let f = c.cells-m.ensures.words in
    let w = c.args.state.now.words.now in
    c.masks_right.ensures ∙ (λ i. all (row_right (kind_of w) (keys (table4 cell_width (m i) (f i)))) (cells_in (m i) (f i))) ∙ point3-is w
