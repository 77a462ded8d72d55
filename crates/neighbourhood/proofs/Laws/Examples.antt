-- Four cells, three of them in a row of touching ones: their words hold them, and their floods, at 26 but where 6 is said.
use Rattle.std.specs.Prelude.{ℕ, ◌≡◌, refl, List, [], ◌∷◌}
use Rattle.std.proofs.Common.{arith}
use Rattle.model.specs.Facts.{Asc}
use Rattle.model.specs.Cells.{Cell, below, touch_at}
use Rattle.model.specs.Masks.{mask_of, masked}
use Rattle.model.proofs.Laws.Sorted.{is_ascending-out}
use Rattle.layout.specs.Rows.{cells_image}
use Rattle.neighbourhood.specs.Standing.{Cells, flood_from}
use Rattle.neighbourhood.proofs.Laws.Reads.{cells_of}

-- A cell of grid 1.
abbrev at : ℕ → ℕ → ℕ → Cell
at z y x = record { grid = 1; z = z; y = y; x = x }

-- The occupied cells.
abbrev four : List Cell
four = at 10 10 10 ∷ at 10 10 11 ∷ at 10 11 12 ∷ at 20 20 20 ∷ []

-- Each with its mask: bit 13 is one up in x, bit 12 one down, bit 16 one up in x and y, bit 9 one down in both.
abbrev table : List (Cell × ℕ)
table = (at 10 10 10, 8192) ∷ (at 10 10 11, 69632) ∷ (at 10 11 12, 512) ∷ (at 20 20 20, 0) ∷ []

ascends : Asc below four
ascends = is_ascending-out four tt

masks-exact : table ≡ masked (touch_at 26) four
unfolding mask_of touch_at
masks-exact = refl

-- The words of the four hold them, with space for one more.
pub four-stand : Cells 26 (cells_image 25 table) 4 table
four-stand = cells_of 26 table masks-exact 25 ascends (omega arith)

-- From the first the three are reached, one behind the other.
pub three-reached : flood_from 26 four (at 10 10 10) ≡ at 10 10 10 ∷ at 10 10 11 ∷ at 10 11 12 ∷ []
unfolding touch_at
three-reached = refl

-- By sides alone the third is not reached: it stands across an edge.
pub sides-only : flood_from 6 four (at 10 10 10) ≡ at 10 10 10 ∷ at 10 10 11 ∷ []
unfolding touch_at
sides-only = refl

-- From the middle those that it touches come in cell order.
pub middle-first : flood_from 26 four (at 10 10 11) ≡ at 10 10 11 ∷ at 10 10 10 ∷ at 10 11 12 ∷ []
unfolding touch_at
middle-first = refl

-- The last is alone.
pub last-alone : flood_from 26 four (at 20 20 20) ≡ at 20 20 20 ∷ []
unfolding touch_at
last-alone = refl

-- Over the others the first is alone too: the middle is a wall then.
pub wall-between : flood_from 26 (at 10 10 10 ∷ at 10 11 12 ∷ at 20 20 20 ∷ []) (at 10 10 10) ≡ at 10 10 10 ∷ []
unfolding touch_at
wall-between = refl
