-- What a caller shows of a float, and what the inner functions answer of one.
use Rattle.std.specs.Prelude.{◌≡◌, ℕ, ◌*◌, ◌≤◌, true, T, ℤ, pos, negsuc, ◌*ℤ◌, unsigned_abs, Float}
use Rattle.std.specs.Float.{binary64}
use Rattle.std.specs.Float.Ieee.{fits}
use Rattle.exact.specs.Units.{metre, exact}
use Rattle.exact.specs.Finite.{Finite}
use Rattle.metres.specs.Place.{edge_ok, axis_ok}

-- Finite, and at most 1,048,576 m from zero.
pub record Near (x : Float) : Type 0 where
  pub known : Finite x
  pub near : unsigned_abs (exact x) ≤ 1048576 * metre

-- An edge that is named.
pub record Edge (e : Float) : Type 0 where
  pub fits : T (fits binary64 e)
  pub named : edge_ok e ≡ true

-- The edge e is n metres.
pub record EdgeIs (e : Float) (n : ℕ) : Type 0 where
  pub same : exact e ≡ pos (n * metre)
  pub low : 1 ≤ n
  pub high : n ≤ 64

-- The whole number that lies q whole steps from z rounded down: q from zero on, and -1 - q below zero.
abbrev pub with_sign : ℤ → ℕ → ℤ
with_sign (pos a) q = pos q
with_sign (negsuc a) q = negsuc q

-- r is the lower side of the cell that lies q edges of n metres from z.
pub record SideOf (z : ℤ) (q n : ℕ) (r : Float) : Type 0 where
  pub known : Finite r
  pub same : exact r ≡ with_sign z q *ℤ pos (n * metre)

-- A coordinate and its origin's, both as they should be.
pub record OnAxis (x o : Float) : Type 0 where
  pub fits : T (fits binary64 x)
  pub origin : Finite o
  pub ok : axis_ok x o ≡ true
