-- The cell stands behind the first word of the row that is found.
use Rattle.map.proofs.Lookups.{stand-found, stand-missing}
use Rattle.map.proofs.Playing.{where-is}
use Rattle.map.proofs.Moving.{ents-shows}
use mathlib.Core.Path.{◌∙◌}
use Rattle.map.proofs.Tables.stand.Goals as goal

pub find-requires : goal.find-requires
find-requires c = (ents-shows c.requires.1).table

pub returns-in-Ok : goal.returns-in-Ok
returns-in-Ok c = λ o h. stand-found _ _ (ents-shows h).table _ _ c.in-Ok.ensures _ c.cell_at.ensures ∙ where-is h c.args.e

pub returns-in-Err : goal.returns-in-Err
returns-in-Err c = λ o h. stand-missing _ _ (ents-shows h).table _ _ c.in-Err.ensures ∙ where-is h c.args.e
