-- What is read of the words of the occupied cells: rows of 5 words, a cell and its mask.
use Rattle.std.specs.Prelude.{ℕ, ◌+◌, ◌*◌, ◌≤◌, ◌<◌, List, drop, get_or}
use Rattle.model.specs.Lists.{each, keep, keys, count}
use Rattle.model.specs.Cells.{Cell, Offset, below, shift}
use Rattle.model.specs.Masks.{bit}
use Rattle.model.specs.Places.{offset_at}
use Rattle.table.specs.Rows.{cell_at, placed, place_of, table4}
use Rattle.layout.specs.Widths.{cell_mask, cell_width}

-- The cell of row i.
unfoldable pub row_cell : List ℕ → ℕ → Cell
row_cell s i = cell_at s (cell_width * i)

-- The mask of row i.
unfoldable pub row_mask : List ℕ → ℕ → ℕ
row_mask s i = get_or s (cell_width * i + cell_mask) 0

-- The cell that bit k of the mask of row i tells of.
unfoldable pub row_near : List ℕ → ℕ → ℕ → Cell
row_near s i k = shift (row_cell s i) (offset_at k)

-- The set ones of some bits of the mask of row i.
abbrev pub set_of : List ℕ → ℕ → List ℕ → List ℕ
set_of s i l = keep (bit (row_mask s i)) l

-- The cells that the set bits of row i tell of, in the order of the bits.
unfoldable pub row_list : List ℕ → ℕ → List Cell
row_list s i = each (row_near s i) (set_of s i (count 0 26))

-- The row of an occupied cell.
unfoldable pub row_for : List ℕ → ℕ → Cell → ℕ
row_for s n c = placed (place_of below (keys (table4 cell_width n s)) c)

-- The rows that the set bits of row i lead to, from bit k on.
unfoldable pub onward_from : List ℕ → ℕ → ℕ → ℕ → List ℕ
onward_from s n i k = each (λ j. row_for s n (row_near s i j)) (set_of s i (drop k (count 0 26)))

-- All of them.
unfoldable pub onward : List ℕ → ℕ → ℕ → List ℕ
onward s n i = each (λ k. row_for s n (row_near s i k)) (set_of s i (count 0 26))

-- A step from a cell stays within words of 64 bits.
pub record Lands (c : Cell) (o : Offset) : Type 0 where
  pub x : (0 < c.x + o.dx) × (c.x + o.dx ≤ 18446744073709551616)
  pub y : (0 < c.y + o.dy) × (c.y + o.dy ≤ 18446744073709551616)
  pub z : (0 < c.z + o.dz) × (c.z + o.dz ≤ 18446744073709551616)
