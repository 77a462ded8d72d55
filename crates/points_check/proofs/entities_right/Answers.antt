-- `entities_right` meets its contract.
use mathlib.Core.Bool.{◌&&◌}
use lib.Dec.{leb}
use Rattle.model.specs.Update.{most_entities, most_cells}
use Rattle.points_check.specs.Points.{entities_right}
use Rattle.points_check.proofs.entities_right.Goals as goal

pub returns : goal.returns
unfolding entities_right
returns c =
    let a = c.args in
    λ i. c.zero_from-zero.ensures i && (leb a.n most_entities && (leb a.m most_cells && c.is_table-rows.ensures i))
