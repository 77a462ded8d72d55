-- How wide each row is, and what stands where in it and in the header.
use Rattle.std.specs.Prelude.{ℕ}

-- The header: how many rows each table has, the next id, and what touching means; from `spare` on zeros.
abbrev pub header_len : ℕ
header_len = 16

abbrev pub next_id_at : ℕ
next_id_at = 6

abbrev pub kind_at : ℕ
kind_at = 7

abbrev pub spare : ℕ
spare = 8

-- An entity's row: the entity, then its cell.
abbrev pub entity_width : ℕ
entity_width = 5

abbrev pub entity_cell : ℕ
entity_cell = 1

-- An occupied cell's row: the cell, then its mask.
abbrev pub cell_width : ℕ
cell_width = 5

abbrev pub cell_mask : ℕ
cell_mask = 4

-- A net list's row: the cell.
abbrev pub net_width : ℕ
net_width = 4

-- The row of a cell with an id: the cell, then the id.
abbrev pub id_width : ℕ
id_width = 5

abbrev pub cell_id : ℕ
cell_id = 4

-- A group's row: the id, the grid, the cell count, the entity count, the low corner and the high corner, x, y, z each.
abbrev pub group_width : ℕ
group_width = 10

abbrev pub group_grid : ℕ
group_grid = 1

abbrev pub group_cells : ℕ
group_cells = 2

abbrev pub group_entities : ℕ
group_entities = 3

abbrev pub group_low : ℕ
group_low = 4

abbrev pub group_high : ℕ
group_high = 7

-- A row of the crowd, which an update keeps beside the state: the cell, then how many stand in it.
abbrev pub crowd_width : ℕ
crowd_width = 5

abbrev pub crowd_count : ℕ
crowd_count = 4

-- A cell in an answer: the grid, x, y, z.
abbrev pub answer_width : ℕ
answer_width = 4

-- A move's row in a batch: the entity, the grid, x, y, z.
abbrev pub move_width : ℕ
move_width = 5
