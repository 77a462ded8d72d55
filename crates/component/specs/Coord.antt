-- Coordinates: the signed minimum and maximum by axis, and the signed range.
use Rattle.std.specs.Prelude.{ℕ, Bool, cond, ◌&&◌, ℤ, pos, negsuc, int_le, int_lt}
use Rattle.component.specs.declared.CellCoord.{CellCoord}
use Rattle.component.specs.declared.Axis.{Axis}
use Rattle.component.specs.declared.Axis.TheVariants.{X, Y, Z}

-- The smaller of two integers.
unfoldable pub min_z : ℤ → ℤ → ℤ
min_z a b = cond (int_lt b a) b a

-- The larger of two integers.
unfoldable pub max_z : ℤ → ℤ → ℤ
max_z a b = cond (int_lt a b) b a

-- A record built axis by axis.
abbrev pub by_axis : (ℤ → ℤ → ℤ) → CellCoord → CellCoord → CellCoord
by_axis f a b = record { x = f a.x b.x; y = f a.y b.y; z = f a.z b.z }

-- A signed coordinate is from -1,000,000,000 to 1,000,000,000.
abbrev pub axis_in : ℤ → Bool
axis_in n = int_le (negsuc 999999999) n && int_le n (pos 1000000000)

-- The number of an axis.
abbrev pub axis_number : Axis → ℕ
axis_number X = 0
axis_number Y = 1
axis_number Z = 2

-- The first axis that fails, z where x and y pass: x 0, y 1, z 2.
abbrev pub first_bad : Bool → Bool → ℕ
first_bad x y = cond x (cond y 2 1) 0

-- The first axis of coordinates that is out of its range, z where x and y are in theirs.
abbrev pub bad_axis : CellCoord → ℕ
bad_axis c = first_bad (axis_in c.x) (axis_in c.y)

-- Each signed coordinate is in its range.
abbrev pub coord_in_range : CellCoord → Bool
coord_in_range c = axis_in c.x && (axis_in c.y && axis_in c.z)
