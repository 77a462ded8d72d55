-- How the rows of the model's tables stand in words, and how they are read back.
use Rattle.std.specs.Prelude.{ℕ, suc, ◌+◌, ◌-◌, List, [], ◌∷◌, get_or, Option, Some, None}
use Rattle.component.specs.Adjacent.{adjacent_of}
use Rattle.model.specs.Lists.{each, keys}
use Rattle.model.specs.Places.{slot}
use Rattle.model.specs.Cells.{Cell}
use Rattle.model.specs.Groups.{Corner, Group}
use Rattle.layout.specs.Widths.{entity_width, cell_width, net_width, id_width, group_width}
use Rattle.table.specs.Rows.{cell_at, cell_words, table1, table4, image1, image4}

-- An entity's row: the entity, then the words of the cell where it stands; 5 words.
abbrev pub entity_row : ℕ × Cell → ℕ × List ℕ
entity_row p = (p.0, cell_words p.1)

abbrev pub entity_of : ℕ × List ℕ → ℕ × Cell
entity_of p = (p.0, cell_at p.1 0)

-- The number of a neighbour of c, 1 to 26: its place among the neighbours, from 1.
abbrev pub number_of : Cell → Cell → ℕ
number_of c d = suc (slot c d)

-- A neighbour that is there; c itself, which touches no other cell of its own, where there is none.
abbrev pub or_self : Cell → Option Cell → Cell
or_self c (Some d) = d
or_self c None = c

-- The neighbour of c with a number.
abbrev pub neighbour_of : Cell → ℕ → Cell
neighbour_of c n = or_self c (adjacent_of 1 c (n - 1))

-- A net list's row: the cell; 4 words.
abbrev pub net_row : Cell → Cell × List ℕ
net_row c = (c, [])

-- The row of an occupied cell with its mask, or of a cell with an id: the cell, then the number; 5 words.
abbrev pub id_row : Cell × ℕ → Cell × List ℕ
id_row p = (p.0, p.1 ∷ [])

abbrev pub id_of : Cell × List ℕ → Cell × ℕ
id_of p = (p.0, get_or p.1 0 0)

-- A group's row: the id, then grid, cell count, entity count, low x, y, z, high x, y, z; 10 words.
abbrev pub group_row : ℕ × Group → ℕ × List ℕ
group_row p = (
  p.0,
  p.1.grid ∷ p.1.count ∷ p.1.entities ∷ p.1.low.x ∷ p.1.low.y ∷ p.1.low.z ∷ p.1.high.x ∷ p.1.high.y ∷ p.1.high.z ∷ [],
)

-- The corner whose words stand at a place.
abbrev pub corner_in : List ℕ → ℕ → Corner
corner_in s at = record { x = get_or s at 0; y = get_or s (at + 1) 0; z = get_or s (at + 2) 0 }

abbrev pub group_of : ℕ × List ℕ → ℕ × Group
group_of p = (p.0, record { grid = get_or p.1 0 0; count = get_or p.1 1 0; entities = get_or p.1 2 0; low = corner_in p.1 3; high = corner_in p.1 6 })

-- The words of each table in len words: its rows, then zeros.
unfoldable pub entities_image : ℕ → List (ℕ × Cell) → List ℕ
entities_image len t = image1 len (each entity_row t)

unfoldable pub cells_image : ℕ → List (Cell × ℕ) → List ℕ
cells_image len t = image4 len (each id_row t)

unfoldable pub net_image : ℕ → List Cell → List ℕ
net_image len l = image4 len (each net_row l)

unfoldable pub ids_image : ℕ → List (Cell × ℕ) → List ℕ
ids_image len t = image4 len (each id_row t)

unfoldable pub groups_image : ℕ → List (ℕ × Group) → List ℕ
groups_image len t = image1 len (each group_row t)

-- The tables that words stand for, n rows of them.
unfoldable pub entities_in : ℕ → List ℕ → List (ℕ × Cell)
entities_in n s = each entity_of (table1 entity_width n s)

unfoldable pub cells_in : ℕ → List ℕ → List (Cell × ℕ)
cells_in n s = each id_of (table4 cell_width n s)

unfoldable pub net_in : ℕ → List ℕ → List Cell
net_in n s = keys (table4 net_width n s)

unfoldable pub ids_in : ℕ → List ℕ → List (Cell × ℕ)
ids_in n s = each id_of (table4 id_width n s)

unfoldable pub groups_in : ℕ → List ℕ → List (ℕ × Group)
groups_in n s = each group_of (table1 group_width n s)
