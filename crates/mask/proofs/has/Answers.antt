-- The expression is the definition.
use mathlib.Core.Path.{refl}
use Rattle.model.specs.Masks.{bit}
use Rattle.mask.proofs.has.Goals as goal

pub returns : goal.returns
unfolding bit
returns c = refl
