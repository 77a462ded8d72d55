-- The same number.
use Rattle.settings.specs.Table.{home_of}
use mathlib.Core.Path.{refl}
use Rattle.settings.proofs.table.home.Goals as goal

pub returns : goal.returns
unfolding home_of
returns c = refl
