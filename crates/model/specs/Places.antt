-- Which bit of a mask tells of which neighbour.
use Rattle.std.specs.Prelude.{ℕ, ◌+◌, ◌-◌, ◌*◌, cond, ltb, get_or}
use Rattle.model.specs.Cells.{Cell, Offset, offsets26}

-- The k-th of the 26 offsets, counted from 0; past them the centre.
abbrev pub offset_at : ℕ → Offset
offset_at k = get_or offsets26 k (record { dx = 1; dy = 1; dz = 1 })

-- The place of d in the block of 27 about c.
abbrev pub place_in : Cell → Cell → ℕ
place_in c d = ((d.z + 1 - c.z) * 3 + (d.y + 1 - c.y)) * 3 + (d.x + 1 - c.x)

-- The number of a place of the block, the centre left out.
abbrev pub slot_of : ℕ → ℕ
slot_of j = cond (ltb j 13) j (j - 1)

-- The bit of d in the mask of c.
abbrev pub slot : Cell → Cell → ℕ
slot c d = slot_of (place_in c d)
