-- One store.
use mathlib.Core.Path.{refl}
use Rattle.little_endian.specs.Laws.Putting.{one}
use Rattle.little_endian.proofs.put_byte.Goals as goal

pub returns : goal.returns
returns c = (one c.args.out.now c.args.at c.args.b c.requires, refl)
