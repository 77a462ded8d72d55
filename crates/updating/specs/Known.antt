-- What is known of the words of a consistent state.
use Rattle.std.specs.Prelude.{ℕ, ◌≡◌, true, List, T}
use Rattle.model.specs.Update.{touch_of}
use Rattle.model.specs.Consistent.{kind_known}
use Rattle.model.specs.Facts.{Ok}
use Rattle.layout.specs.State.{decode}
use Rattle.layout.specs.Points.{long_enough}
use Rattle.layout.specs.Facts.{Fits, BeginsWith}

-- The words are long enough, and begin with the image of the consistent state that they stand for.
pub record Known (w : List ℕ) : Type 0 where
  pub long : long_enough w ≡ true
  pub stands : BeginsWith (decode w) w
  pub fits : Fits (decode w)
  pub kind-known : T (kind_known (decode w))
  pub ok : Ok (touch_of (decode w)) (decode w)
