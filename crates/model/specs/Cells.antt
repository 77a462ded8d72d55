-- Cells and touching. A coordinate is kept as the number x + 2^31, so cell order is the order of numbers; the cell, its order and
-- its range are those of the crate `component`.
use Rattle.std.specs.Prelude.{ℕ, suc, ◌+◌, ◌-◌, Bool, true, cond, ◌&&◌, ◌||◌, not, List, [], ◌∷◌, ◌++◌, eqb, leb}
use Rattle.model.specs.Lists.{keep, any, all, each}
pub use Rattle.component.specs.declared.Cell.{Cell}
pub use Rattle.component.specs.Order.{same, below}
pub use Rattle.component.specs.Range.{cell_in_range}

-- What is added to a coordinate to store it.
abbrev pub bias : ℕ
bias = 2147483648

-- An offset is a step on each axis: 0 for one down, 1 for staying, 2 for one up.
pub record Offset : Type 0 where
  pub dx : ℕ
  pub dy : ℕ
  pub dz : ℕ

-- The three offsets with one step in y and z, x upward.
abbrev pub row : ℕ → ℕ → List Offset
row dy dz = record { dx = 0; dy = dy; dz = dz } ∷ record { dx = 1; dy = dy; dz = dz } ∷ record { dx = 2; dy = dy; dz = dz } ∷ []

-- The nine offsets with one step in z, x fastest, then y.
abbrev pub plane : ℕ → List Offset
plane dz = row 0 dz ++ row 1 dz ++ row 2 dz

-- An offset moves unless it stays on all three axes.
abbrev pub moves : Offset → Bool
moves o = not (eqb o.dx 1 && (eqb o.dy 1 && eqb o.dz 1))

-- The 26 offsets: x fastest, then y, then z, each upward, the centre left out.
abbrev pub offsets26 : List Offset
offsets26 = keep moves (plane 0 ++ plane 1 ++ plane 2)

-- A set of offsets is a test on the 26.
abbrev pub Offsets : Type 0
Offsets = Offset → Bool

-- The set of all 26.
abbrev pub all26 : Offsets
all26 o = true

-- On how many axes a step moves.
abbrev pub axes : Offset → ℕ
axes o = cond (eqb o.dx 1) 0 1 + (cond (eqb o.dy 1) 0 1 + cond (eqb o.dz 1) 0 1)

-- On how many axes two cells differ.
abbrev pub apart_on : Cell → Cell → ℕ
apart_on a b = cond (eqb a.x b.x) 0 1 + (cond (eqb a.y b.y) 0 1 + cond (eqb a.z b.z) 0 1)

-- A kind of touching is 6, 18 or 26.
abbrev pub is_kind : ℕ → Bool
is_kind kind = eqb kind 6 || (eqb kind 18 || eqb kind 26)

-- Whether a step that moves on n axes is of the kind: at 6 on one axis, at 18 on at most two, at 26 on any.
abbrev pub kind_allows : ℕ → ℕ → Bool
kind_allows kind n = cond (eqb kind 6) (eqb n 1) (cond (eqb kind 18) (leb n 2) true)

-- The set of a kind.
abbrev pub offsets_of : ℕ → Offsets
offsets_of kind o = kind_allows kind (axes o)

-- The step the other way on each axis.
abbrev pub opposite : Offset → Offset
opposite o = record { dx = 2 - o.dx; dy = 2 - o.dy; dz = 2 - o.dz }

-- Whether a set holds the opposite of each of its members.
abbrev pub holds_opposites : Offsets → Bool
holds_opposites s = all (λ o. not (s o) || s (opposite o)) offsets26

-- Whether the step o leads from a to b.
abbrev pub leads : Cell → Cell → Offset → Bool
leads a b o = eqb (a.x + o.dx) (suc b.x) && (eqb (a.y + o.dy) (suc b.y) && eqb (a.z + o.dz) (suc b.z))

-- Two cells touch if they are of one grid and an offset of the set leads from one to the other.
abbrev pub touch_by : Offsets → Cell → Cell → Bool
touch_by s a b = eqb a.grid b.grid && any (λ o. s o && leads a b o) offsets26

-- Touching of a kind.
unfoldable pub touch_at : ℕ → Cell → Cell → Bool
touch_at kind = touch_by (offsets_of kind)

-- Touching by all 26.
abbrev pub touch26 : Cell → Cell → Bool
touch26 = touch_by all26

-- The cell that the step o leads to.
abbrev pub shift : Cell → Offset → Cell
shift c o = record { grid = c.grid; z = c.z + o.dz - 1; y = c.y + o.dy - 1; x = c.x + o.dx - 1 }

-- The neighbours of a cell by a set of offsets, in order.
abbrev pub neighbours : Offsets → Cell → List Cell
neighbours s c = each (shift c) (keep s offsets26)
