-- What is shown of a group.
use Rattle.std.specs.Prelude.{List, [], ◌∷◌, ℤ}
use Rattle.component.specs.declared.CellCoord.{CellCoord}
use Rattle.component.specs.Stored.{unbiased}
use Rattle.model.specs.Groups.{Corner, Group}
use Rattle.lookups.specs.declared.Shown.{Shown}

-- The signed coordinates of a stored corner.
abbrev pub corner_of : Corner → CellCoord
corner_of p = record { x = unbiased p.x; y = unbiased p.y; z = unbiased p.z }

-- What is shown of a group: its grid, its cell count, its entity count, and both corners by their signed coordinates.
abbrev pub shown_of : Group → Shown
shown_of g = record { grid = g.grid; count = g.count; entities = g.entities; low = corner_of g.low; high = corner_of g.high }

-- The coordinates of a corner: x, y, z.
abbrev pub axes : CellCoord → List ℤ
axes p = p.x ∷ p.y ∷ p.z ∷ []

-- The low and the high corner of what is shown.
abbrev pub corners_of : Shown → List (List ℤ)
corners_of g = axes g.low ∷ axes g.high ∷ []
