-- The number stands behind the four words of the row that is found.
use Rattle.map.proofs.Lookups.{counted-found, counted-missing}
use Rattle.map.proofs.how_many.Goals as goal

pub returns-in-Ok : goal.returns-in-Ok
returns-in-Ok c = counted-found _ _ c.requires _ _ c.in-Ok.ensures

pub returns-in-Err : goal.returns-in-Err
returns-in-Err c = counted-missing _ _ c.requires _ _ c.in-Err.ensures
