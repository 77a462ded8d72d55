-- The cells around a cell, to a radius: the block about it, x fastest, then y, then z, each upward, the cell itself left out.
use Rattle.std.specs.Prelude.{◌≡◌, ℕ, zero, suc, ◌+◌, ◌-◌, ◌*◌, ◌/◌, ◌%◌, ◌≤◌, cond, List, [], ◌∷◌, nat_lt}
use Rattle.component.specs.declared.Cell.{Cell}

-- How many cells of the block stand along one axis.
abbrev pub side : ℕ → ℕ
side r = 2 * r + 1

-- The place of the cell itself in its block.
abbrev pub centre : ℕ → ℕ
centre r = (r * side r + r) * side r + r

-- The k-th place once the place m is left out.
unfoldable pub step_n : ℕ → ℕ → ℕ
step_n m k = cond (nat_lt k m) k (k + 1)

-- The cell at the place j of the block.
unfoldable pub place : ℕ → Cell → ℕ → Cell
place r c j =
    record {
      grid = c.grid;
      z = c.z + j / side r / side r - r;
      y = c.y + j / side r % side r - r;
      x = c.x + j % side r - r;
    }

-- The k-th neighbour to the radius r.
abbrev pub neighbour_at : ℕ → Cell → ℕ → Cell
neighbour_at r c k = place r c (step_n (centre r) k)

-- How many neighbours there are.
abbrev pub neighbour_count : ℕ → ℕ
neighbour_count r = side r * side r * side r - 1

-- The n values of f from k on.
unfoldable pub listed : {A : Type 0} → (ℕ → A) → ℕ → ℕ → List A
listed f k zero = []
listed f k (suc n) = f k ∷ listed f (suc k) n

-- All neighbours, in order.
unfoldable pub around : ℕ → Cell → List Cell
around r c = listed (neighbour_at r c) 0 (neighbour_count r)

-- The block about c does not fall below zero.
pub record Above (r : ℕ) (c : Cell) : Type 0 where
  pub z : r ≤ c.z
  pub y : r ≤ c.y
  pub x : r ≤ c.x

-- The cell d is of c's grid and differs from c by at most r on each axis.
pub record Within (r : ℕ) (c d : Cell) : Type 0 where
  pub grid : d.grid ≡ c.grid
  pub z : (c.z ≤ d.z + r) × (d.z ≤ c.z + r)
  pub y : (c.y ≤ d.y + r) × (d.y ≤ c.y + r)
  pub x : (c.x ≤ d.x + r) × (d.x ≤ c.x + r)
