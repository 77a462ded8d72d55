-- Frames and places: which are valid, and the cell and the offset on an axis, by exact numbers.
use Rattle.std.specs.Prelude.{ℕ, ◌*◌, ◌%◌, Bool, true, not, ◌&&◌, ◌||◌, ℤ, pos, ◌-ℤ◌, ◌*ℤ◌, ◌==◌, int_lt, nat_le, unsigned_abs, Float, Option, None, Some}
use Rattle.std.specs.Int.Signed.{shr_z}
use Rattle.std.specs.Float.{binary64}
use Rattle.std.specs.Float.Ieee.{eq, of_int}
use Rattle.std.specs.Float.Ieee.Scale.{finite}
use Rattle.exact.specs.Units.{metre, exact, nearest}
use Rattle.metres.specs.declared.Frame.{Frame}
use Rattle.metres.specs.declared.Spot.{Spot}

-- x is n metres.
abbrev pub is_metres : Float → ℕ → Bool
is_metres x n = eq x (of_int binary64 (pos n))

-- The edge is 1, 2, 4, 8, 16, 32 or 64 m.
unfoldable pub edge_ok : Float → Bool
edge_ok e = is_metres e 1 || (is_metres e 2 || (is_metres e 4 || (is_metres e 8 || (is_metres e 16 || (is_metres e 32 || is_metres e 64)))))

-- x is finite and at most 1,048,576 m from zero.
unfoldable pub near : Float → Bool
near x = finite x && nat_le (unsigned_abs (exact x)) (1048576 * metre)

-- An origin's coordinate is whole metres within 1,048,576 of zero.
unfoldable pub origin_ok : Float → Bool
origin_ok x = near x && unsigned_abs (exact x) % metre == 0

-- The edge and the origin are ones named.
unfoldable pub frame_ok : Frame → Bool
frame_ok f = edge_ok f.edge && (origin_ok f.x && (origin_ok f.y && origin_ok f.z))

-- An error is finite and not below zero.
unfoldable pub error_ok : Float → Bool
error_ok x = finite x && not (int_lt (exact x) (pos 0))

-- A margin is not said, or an error that may be.
abbrev pub margin_ok : Option Float → Bool
margin_ok None = true
margin_ok (Some err) = error_ok err

-- p: a coordinate less the origin's, with one rounding.
abbrev pub place_of : Float → Float → Float
place_of x o = nearest (exact x -ℤ exact o)

-- A coordinate is finite and its p is near enough.
unfoldable pub axis_ok : Float → Float → Bool
axis_ok x o = finite x && near (place_of x o)

-- So are all three.
abbrev pub axes_ok : Frame → Float → Float → Float → Bool
axes_ok f x y z = axis_ok x f.x && (axis_ok y f.y && axis_ok z f.z)

-- The cell number c with c times edge at most p and p below c + 1 times edge: the quotient rounded down.
abbrev pub cell_of : Float → Float → ℤ
cell_of p edge = shr_z (exact p) (unsigned_abs (exact edge))

-- The offset: p less c times edge, with one rounding.
abbrev pub offset_of : Float → Float → Float
offset_of p edge = nearest (exact p -ℤ cell_of p edge *ℤ exact edge)

-- Both.
unfoldable pub spot_of : Float → Float → Spot
spot_of p edge = record { cell = cell_of p edge; offset = offset_of p edge }
