-- After i rows the crowd is the tally of the first i entities.
use Rattle.layout.specs.Widths.{crowd_width}
use Rattle.map.specs.Held.{tally}
use Rattle.map.specs.Told.{TableIs}
use Rattle.table.specs.Rows.{cell}
use Rattle.layout.specs.Rows.{id_row, entities_in}
use Rattle.model.specs.Lists.{each}
use lib.ListN.{length}
use mathlib.Core.Path.{◌≡◌}
use Rattle.map.proofs.crowd_of.Given as goal

abbrev pub invariant-loop-i : goal.invariant-loop-i
invariant-loop-i l = (length l.crowd ≡ length l.initial.crowd) × (TableIs cell crowd_width l.m l.crowd (each id_row (tally (entities_in l.i l.ents))))
