-- One record: a mark, `Y1` or `Y2`, a grid, an edge and a touching kind, and in version 2 three origin coordinates; the lowest byte first.
use Rattle.std.specs.Prelude.{Err}
use Rattle.settings.specs.Answers.{Check}
use Rattle.std.specs.Prelude.{ℕ, ◌+◌, ◌%◌, Bool, cond, not, ◌&&◌, List, ◌∷◌, ◌++◌, length, get_or, take, ltb, eqb, ℤ, pos}
use Rattle.component.specs.Stored.{biased, unbiased}
use Rattle.little_endian.specs.Bytes.{number_at, bytes}
use Rattle.settings.specs.Settings.{good_of}
use Rattle.settings.specs.declared.kinds.Settings.{Settings}
use Rattle.settings.specs.declared.kinds.Fault.TheVariants.{NewerRecord, BadMark, CutEnd}

-- The signed number whose two's complement in 32 bits is n.
abbrev pub signed_of : ℕ → ℤ
signed_of n = unbiased (n + 2147483648)

-- The two's complement of a signed number in 32 bits.
unfoldable pub bits_of : ℤ → ℕ
bits_of n = (biased n + 2147483648) % 4294967296

-- The length of the record that bytes start with, by its mark: 12 for `Y1`, 24 for `Y2`, 0 for any other.
unfoldable pub size_of : List ℕ → ℕ
size_of b = cond (eqb (get_or b 0 0) 89) (cond (eqb (get_or b 1 0) 49) 12 (cond (eqb (get_or b 1 0) 50) 24 0)) 0

-- The grid of a record.
unfoldable pub grid_of : List ℕ → ℕ
grid_of r = number_at r 2 8

-- An origin coordinate of a record; 0 in one of version 1, which has fewer than 24 bytes.
unfoldable pub axis_of : List ℕ → ℕ → ℤ
axis_of r at = cond (ltb (length r) 24) (pos 0) (signed_of (number_at r at 4))

-- The settings that a record says.
unfoldable pub settings_of : List ℕ → Settings
settings_of r = record { edge = get_or r 10 0; kind = get_or r 11 0; x = axis_of r 12; y = axis_of r 16; z = axis_of r 20 }

-- The mark of version 2, and a grid.
abbrev pub head_of : ℕ → List ℕ
head_of g = 89 ∷ 50 ∷ bytes 8 g

-- Three numbers of 32 bits.
abbrev pub axes_of : ℕ → ℕ → ℕ → List ℕ
axes_of x y z = bytes 4 x ++ (bytes 4 y ++ bytes 4 z)

-- The bytes of a record of version 2.
unfoldable pub record_of : ℕ → Settings → List ℕ
record_of g s = head_of g ++ (s.edge ∷ s.kind ∷ axes_of (bits_of s.x) (bits_of s.y) (bits_of s.z))

-- What is wrong with the record that bytes start with, to a reader of version 2 or of version 1: a lone byte, mark, cut end, settings, in that order.
unfoldable pub check_of : Bool → List ℕ → Check
check_of two b =
    cond (ltb (length b) 2) (Err CutEnd)
    (cond (eqb (size_of b) 0) (Err BadMark)
    (cond (not two && eqb (size_of b) 24) (Err NewerRecord)
    (cond (ltb (length b) (size_of b)) (Err CutEnd)
    (good_of (settings_of (take (size_of b) b))))))
