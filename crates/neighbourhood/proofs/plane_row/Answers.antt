-- The row is the number of the place that is found.
use mathlib.Core.Path.{ap, ◌∙◌}
use Rattle.table.specs.Rows.{placed}
use Rattle.neighbourhood.specs.Rows.{row_for}
use Rattle.neighbourhood.proofs.plane_row.Goals as goal

pub returns : goal.returns
unfolding row_for
returns c = c.index.ensures ∙ ap placed c.find.ensures
