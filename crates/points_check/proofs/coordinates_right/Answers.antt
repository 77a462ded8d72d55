-- `coordinates_right` meets its contract: three tests of rows.
use Prim.Native.Nat.{ℕ}
use mathlib.Core.Path.{ap, ◌∙◌}
use Rattle.model.specs.Lists.{all}
use Rattle.model.specs.Cells.{cell_in_range}
use Rattle.layout.specs.Rows.{net_in}
use Rattle.points_check.specs.Laws.Range.{coordinates-by-tests}
use Rattle.points_check.specs.Laws.Readings.{entity-cells, net-cells}
use Rattle.points_check.proofs.coordinates_right.Goals as goal

pub returns : goal.returns
returns c =
    let a = c.args in
    coordinates-by-tests a.ents.now a.n a.occ.now a.k a.emp.now a.l
    c.cells_in_range.result c.cells_in_range-2.result c.cells_in_range-3.result
    (c.cells_in_range.ensures ∙ ap (all cell_in_range) (entity-cells a.n a.ents.now))
    (c.cells_in_range-2.ensures ∙ ap (all cell_in_range) (net-cells c.min.result a.occ.now ∙ ap (λ (n : ℕ). net_in n a.occ.now) c.min.ensures))
    (c.cells_in_range-3.ensures ∙ ap (all cell_in_range) (net-cells c.min-2.result a.emp.now ∙ ap (λ (n : ℕ). net_in n a.emp.now) c.min-2.ensures))
