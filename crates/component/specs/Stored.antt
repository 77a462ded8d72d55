-- The stored form of a cell, 2^31 more on each axis, and the way back.
use Rattle.std.specs.Prelude.{ℕ, suc, ◌+◌, ◌-◌, ◌%◌, ◌<◌, ℤ, pos, negsuc}
use Rattle.std.proofs.Math.IntN.{sub_ℕ}
use Rattle.std.specs.Int.Signed.{mag}
use Rattle.component.specs.declared.Cell.{Cell}
use Rattle.component.specs.declared.CellCoord.{CellCoord}
use Rattle.component.specs.declared.CellId.{CellId}

-- A signed number as a natural number, b more.
abbrev pub bias_by : ℕ → ℤ → ℕ
bias_by b (pos n) = n + b
bias_by b (negsuc n) = b - suc n

-- The stored form of a coordinate.
abbrev pub biased : ℤ → ℕ
biased n = bias_by 2147483648 n

-- The coordinate that a stored word stands for; of a word of 2^32 and above the remainder by 2^32 counts.
abbrev pub unbiased : ℕ → ℤ
unbiased n = sub_ℕ (n % 4294967296) 2147483648

-- The stored form of a coordinate that a 64-bit word of two's complement gives.
abbrev pub stored_word : ℕ → ℕ
stored_word n = (n + 2147483648) % 18446744073709551616

-- A stored coordinate as a 64-bit word of two's complement: 2^31 less.
abbrev pub signed_word : ℕ → ℕ
signed_word n = (n + 18446744071562067968) % 18446744073709551616

-- A stored cell of a's grid, built axis by axis.
abbrev pub stored_by_axis : (ℕ → ℕ → ℕ) → Cell → Cell → Cell
stored_by_axis f a b = record { grid = a.grid; z = f a.z b.z; y = f a.y b.y; x = f a.x b.x }

-- The stored form of a cell.
abbrev pub stored : CellId → Cell
stored c = record { grid = c.grid; z = biased c.coord.z; y = biased c.coord.y; x = biased c.coord.x }

-- The coordinates that a stored cell stands for.
abbrev pub coord_of : Cell → CellCoord
coord_of c = record { x = unbiased c.x; y = unbiased c.y; z = unbiased c.z }

-- The cell that a stored cell stands for.
abbrev pub cell_id : Cell → CellId
cell_id c = record { grid = c.grid; coord = coord_of c }

-- Each coordinate of a cell is an `i32`.
pub record Holds (c : CellId) : Type 0 where
  pub z : mag c.coord.z < 2147483648
  pub y : mag c.coord.y < 2147483648
  pub x : mag c.coord.x < 2147483648

-- Each coordinate of a stored cell is below 2^32.
pub record Small (c : Cell) : Type 0 where
  pub z : c.z < 4294967296
  pub y : c.y < 4294967296
  pub x : c.x < 4294967296
