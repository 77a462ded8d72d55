-- Masks: one number a cell, which tells the touching ones of some cells.
use Rattle.std.specs.Prelude.{ℕ, ◌+◌, ◌-◌, ◌*◌, ◌/◌, ◌%◌, ◌^◌, Bool, cond, ◌&&◌, List, [], ◌∷◌, eqb}
use Rattle.std.specs.Int.Bits.{bit_and, bit_or}
use Rattle.model.specs.Lists.{any, keep, each}
use Rattle.model.specs.Cells.{Cell, Offset, offsets26, leads}

-- The number that has these binary digits, the lowest first.
abbrev pub number : List Bool → ℕ
number [] = 0
number (b ∷ bs) = cond b 1 0 + 2 * number bs

-- Whether the binary digit k of a number is set, the lowest being digit 0.
unfoldable pub bit : ℕ → ℕ → Bool
bit m k = eqb (m / 2 ^ k % 2) 1

-- The number with the bit n set.
abbrev pub with_bit : ℕ → ℕ → ℕ
with_bit m n = bit_or m (2 ^ n)

-- The number with the bit n cleared.
abbrev pub without_bit : ℕ → ℕ → ℕ
without_bit m n = m - bit_and m (2 ^ n)

module _ (touch : Cell → Cell → Bool) where
  -- The touching ones of some cells, in their order.
  abbrev pub touching : List Cell → Cell → List Cell
  touching cells c = keep (touch c) cells

  -- Whether the step o leads from c to a touching one of the cells.
  abbrev pub leads_to : List Cell → Cell → Offset → Bool
  leads_to cells c o = any (λ d. touch c d && leads c d o) cells

  -- The mask of c among some cells: bit k, counted from 0, is set exactly where the k-th of the 26 offsets leads to a touching one.
  unfoldable pub mask_of : List Cell → Cell → ℕ
  mask_of cells c = number (each (leads_to cells c) offsets26)

  -- Some cells, each with its mask among them.
  abbrev pub masked : List Cell → List (Cell × ℕ)
  masked cells = each (λ c. (c, mask_of cells c)) cells
