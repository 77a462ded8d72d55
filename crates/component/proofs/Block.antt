-- To a radius of at most 255 the numbers of a block's places are small, and each place is in reach from the block's low corner.
use Rattle.std.proofs.Common.{◌≡◌, ℕ, ◌+◌, ◌-◌, ◌*◌, ◌/◌, ◌%◌, ◌<◌, ◌≤◌, mul-le-mul, arith}
use Rattle.component.specs.Around.{side, centre, step_n, place, neighbour_count, Above}
use Rattle.component.specs.Laws.Neighbours.{step-below, centre-below, quot_below}
use Rattle.component.specs.declared.Cell.{Cell}

module _ (r : ℕ) (h : r ≤ 255) where
  pub square : side r * side r ≤ 511 * 511
  square = mul-le-mul {n₁ = side r} {m₁ = side r} {n₂ = 511} {m₂ = 511} (omega arith) (omega arith)

  pub cube : side r * side r * side r ≤ 511 * 511 * 511
  cube = mul-le-mul {n₁ = side r * side r} {m₁ = side r} {n₂ = 511 * 511} {m₂ = 511} square (omega arith)

  pub row : r * side r ≤ 255 * 511
  row = mul-le-mul {n₁ = r} {m₁ = side r} {n₂ = 255} {m₂ = 511} h (omega arith)

  pub layer : (r * side r + r) * side r ≤ 130560 * 511
  layer = mul-le-mul {n₁ = r * side r + r} {m₁ = side r} {n₂ = 130560} {m₂ = 511} (omega (arith, row)) (omega arith)

-- The first digit of a neighbour's place is a digit.
pub top_digit : (r k j : ℕ) → k < neighbour_count r → j ≡ step_n (centre r) k → j / side r / side r < side r
top_digit r k j h e =
    let s : 0 < side r = omega arith in
    let b = step-below (centre r) (side r * side r * side r) k (centre-below r) h in
    quot_below (side r) (side r) (j / side r) s (quot_below (side r) (side r * side r) j s (omega arith))

-- The cell at the place j, counted from the low corner.
pub from-corner : (r : ℕ) (c : Cell) (j : ℕ) → Above r c
    → record { grid = c.grid; z = c.z - r + j / side r / side r; y = c.y - r + j / side r % side r; x = c.x - r + j % side r } ≡ place r c j
unfolding place
from-corner r c j a =
    let z : c.z - r + j / side r / side r ≡ c.z + j / side r / side r - r = omega arith in
    let y : c.y - r + j / side r % side r ≡ c.y + j / side r % side r - r = omega arith in
    let x : c.x - r + j % side r ≡ c.x + j % side r - r = omega arith in
    λ i. record { grid = c.grid; z = z i; y = y i; x = x i }
