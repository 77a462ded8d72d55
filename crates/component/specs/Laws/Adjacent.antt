-- The block about each cell in range has room, and there `adjacent` gives every neighbour.
use Rattle.std.specs.Prelude.{◌≡◌, ℕ, ◌-◌, ◌<◌, ◌≤◌, true, cond, ◌&&◌, ◌≢◌, nat_le}
use Rattle.std.proofs.Common.{arith, ap, ◌∙◌, leb-true, le-leb, lt-ltb}
use Rattle.component.specs.Adjacent.{axis_room, has_room, adjacent_of, AxisRoom, Room}
use Rattle.component.specs.Around.{neighbour_at, neighbour_count, Above, Within}
use Rattle.component.specs.Laws.Neighbours.{neighbour-found}
use Rattle.component.specs.Range.{cell_in_range}
use Rattle.component.specs.Laws.Range.{in-range-axes}
use Rattle.component.specs.Laws.Tests.{both}
use Rattle.component.specs.declared.Cell.{Cell}
use Rattle.std.specs.Prelude.{Some, None}

axis-room : (r n : ℕ) → axis_room r n ≡ true → AxisRoom r n
axis-room r n e =
    let p = both (nat_le r n) (nat_le n (18446744073709551615 - r)) e in
    (leb-true r n p.0, leb-true n (18446744073709551615 - r) p.1)

room-axis : (r n : ℕ) → AxisRoom r n → axis_room r n ≡ true
room-axis r n h = simp (le-leb r n h.0, le-leb n (18446744073709551615 - r) h.1)

-- A block that has room has it on each axis.
pub room-axes : (r : ℕ) (c : Cell) → has_room r c ≡ true → Room r c
room-axes r c e =
    let p = both (axis_room r c.x) (axis_room r c.y && axis_room r c.z) e in
    let q = both (axis_room r c.y) (axis_room r c.z) p.1 in
    record { x = axis-room r c.x p.0; y = axis-room r c.y q.0; z = axis-room r c.z q.1 }

-- A block that has room does not fall below zero.
pub room-above : (r : ℕ) (c : Cell) → has_room r c ≡ true → Above r c
room-above r c e = let h = room-axes r c e in record { z = h.z.0; y = h.y.0; x = h.x.0 }

-- A cell in range has room for every radius up to 255.
pub range-room : (r : ℕ) (c : Cell) → r ≤ 255 → cell_in_range c ≡ true → has_room r c ≡ true
range-room r c h e =
    let k = in-range-axes c e in
    simp (room-axis r c.x (omega arith, omega arith), room-axis r c.y (omega arith, omega arith), room-axis r c.z (omega arith, omega arith))

-- And its block does not fall below zero.
pub range-above : (r : ℕ) (c : Cell) → r ≤ 255 → cell_in_range c ≡ true → Above r c
range-above r c h e = room-above r c (range-room r c h e)

-- About a cell in range `adjacent` gives each neighbour.
pub range-adjacent : (r : ℕ) (c : Cell) → r ≤ 255 → cell_in_range c ≡ true → (k : ℕ) → k < neighbour_count r
    → adjacent_of r c k ≡ Some (neighbour_at r c k)
range-adjacent r c h e k l =
    λ i. cond (lt-ltb k (neighbour_count r) l i && range-room r c h e i) (Some (neighbour_at r c k)) None

-- So each cell within r of a cell in range, but that cell, is given: among them all that are in range.
pub range-found : (r : ℕ) (c d : Cell) → r ≤ 255 → cell_in_range c ≡ true → Within r c d → (d ≢ c)
    → (k : ℕ) × ((k < neighbour_count r) × (adjacent_of r c k ≡ Some d))
range-found r c d h e w ne =
    let s = neighbour-found r c d (range-above r c h e) w ne in
    (s.0, (s.1.0, range-adjacent r c h e s.0 s.1.0 ∙ ap Some s.1.1))
