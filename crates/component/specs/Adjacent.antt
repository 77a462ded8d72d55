-- What `adjacent` answers: a neighbour where there is one and its block has room.
use Rattle.std.specs.Prelude.{ℕ, ◌-◌, ◌≤◌, Bool, cond, ◌&&◌, nat_le, nat_lt, Option, Some, None}
use Rattle.component.specs.Around.{neighbour_at, neighbour_count}
use Rattle.component.specs.declared.Cell.{Cell}

-- The numbers from n - r to n + r are words of 64 bits.
abbrev pub axis_room : ℕ → ℕ → Bool
axis_room r n = nat_le r n && nat_le n (18446744073709551615 - r)

-- The block about a stored cell stays within words of 64 bits.
abbrev pub has_room : ℕ → Cell → Bool
has_room r c = axis_room r c.x && (axis_room r c.y && axis_room r c.z)

-- The k-th neighbour where there is one and the block has room, and else nothing.
abbrev pub adjacent_of : ℕ → Cell → ℕ → Option Cell
adjacent_of r c k = cond (nat_lt k (neighbour_count r) && has_room r c) (Some (neighbour_at r c k)) None

-- An axis has room, as a statement of the numbers.
abbrev pub AxisRoom : ℕ → ℕ → Type 0
AxisRoom r n = (r ≤ n) × (n ≤ 18446744073709551615 - r)

-- Each axis has room, as a statement of the numbers.
pub record Room (r : ℕ) (c : Cell) : Type 0 where
  pub x : AxisRoom r c.x
  pub y : AxisRoom r c.y
  pub z : AxisRoom r c.z
