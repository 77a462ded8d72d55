-- `layout::state_len` meets its contract: the number written is the state's length.
use mathlib.Core.Path.{refl}
use Rattle.layout.specs.State.{state_len}
use Rattle.layout.proofs.state_len.Goals as goal

pub returns : goal.returns
unfolding state_len
returns c = refl
