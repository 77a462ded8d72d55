-- What a caller shows of a float, and what a size is.
use Rattle.std.specs.Prelude.{◌≡◌, T, pos, nat_abs, Float}
use Rattle.std.specs.Float.{binary64}
use Rattle.std.specs.Float.Ieee.{fits}
use Rattle.std.specs.Float.Ieee.Scale.{finite}
use Rattle.exact.specs.Units.{exact}

-- A 64-bit float that is no NaN and no infinity.
pub record Finite (x : Float) : Type 0 where
  pub fits : T (fits binary64 x)
  pub finite : T (finite x)

-- y is x without its sign.
pub record Sized (x y : Float) : Type 0 where
  pub known : Finite y
  pub same : exact y ≡ pos (nat_abs (exact x))
