-- The range of stored cells.
use Rattle.std.specs.Prelude.{ℕ, ◌<◌, ◌≤◌, Bool, ◌&&◌, ◌⊎◌, nat_le}
use Rattle.component.specs.declared.Cell.{Cell}
use Rattle.component.specs.Coord.{first_bad}

-- A stored coordinate is from -1,000,000,000 to 1,000,000,000, each 2^31 more.
abbrev pub axis_in_range : ℕ → Bool
axis_in_range n = nat_le 1147483648 n && nat_le n 3147483648

-- Each coordinate of a stored cell is in its range.
abbrev pub cell_in_range : Cell → Bool
cell_in_range c = axis_in_range c.x && (axis_in_range c.y && axis_in_range c.z)

-- The first axis of a stored cell that is out of its range, z where x and y are in theirs.
abbrev pub stored_bad_axis : Cell → ℕ
stored_bad_axis c = first_bad (axis_in_range c.x) (axis_in_range c.y)

-- A stored coordinate is in its range, as a statement of the numbers.
abbrev pub AxisIn : ℕ → Type 0
AxisIn n = (1147483648 ≤ n) × (n ≤ 3147483648)

-- A stored coordinate is out of its range.
abbrev pub AxisOut : ℕ → Type 0
AxisOut n = (n < 1147483648) ⊎ (3147483648 < n)

-- Each coordinate is in its range, as a statement of the numbers.
pub record InRange (c : Cell) : Type 0 where
  pub x : AxisIn c.x
  pub y : AxisIn c.y
  pub z : AxisIn c.z
