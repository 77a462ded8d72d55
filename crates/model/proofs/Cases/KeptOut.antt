-- The slips are kept out.
use Rattle.std.specs.Prelude.{◌≡◌, refl, true}
use Rattle.model.specs.Lists.{all}
use Rattle.model.specs.Cells.{touch_at}
use Rattle.model.specs.Groups.{rule3, regroup}
use Rattle.model.specs.Update.{refusal_by, accepted_by, update_by}
use Rattle.model.proofs.Cases.{holds}
use Rattle.model.proofs.Cases.Slips.{slips}

-- Each of the moves goes as written, by computation.
pub kept_out : all holds slips ≡ true
unfolding touch_at update_by refusal_by accepted_by regroup rule3
kept_out = refl
