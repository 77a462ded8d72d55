-- The twelve moves on paper go as written.
use Rattle.std.specs.Prelude.{◌≡◌, refl, true}
use Rattle.model.specs.Lists.{all}
use Rattle.model.specs.Cells.{touch_at}
use Rattle.model.specs.Groups.{rule3, regroup}
use Rattle.model.specs.Update.{refusal_by, accepted_by, update_by}
use Rattle.model.proofs.Cases.{cases, holds}

-- Cases A to L, by computation.
pub paper : all holds cases ≡ true
unfolding touch_at update_by refusal_by accepted_by regroup rule3
paper = refl
