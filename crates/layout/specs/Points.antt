-- Consistency of words: point 9, which is tried first, and the eight points, each with the layout faults that fall under it.
use Rattle.std.specs.Prelude.{ℕ, ◌*◌, min, Bool, cond, ◌&&◌, List, [], ◌∷◌, eqb, leb, length, drop}
use Rattle.model.specs.Lists.{all, values}
use Rattle.model.specs.Cells.{cell_in_range}
use Rattle.model.specs.Update.{most_entities, most_cells, touch_of}
use Rattle.model.specs.Consistent.{within_number, cells_exact, masks_exact, ids_shared, records_exact, ids_below_next, nets_in_order, kind_known}
use Rattle.table.specs.Rows.{are_zero}
use Rattle.layout.specs.Widths.{entity_width, cell_width, net_width, id_width, group_width}
use Rattle.layout.specs.Rows.{net_in}
use Rattle.layout.specs.State.{decode, state_len, spare_words, entity_words, cell_words, occupied_words, emptied_words, id_words, group_words, entity_count, cell_count, occupied_count, emptied_count, id_count, group_count}

-- Whether a table of rows of width w counts at most `most` rows and has zeros behind them.
abbrev pub tidy : ℕ → ℕ → ℕ → List ℕ → Bool
tidy w most n s = leb n most && are_zero (drop (w * n) s)

-- 1. Entities distinct, they and the occupied cells within number. Here too: the entity rows and the header's spare words.
unfoldable pub point1 : List ℕ → Bool
point1 w =
    are_zero (spare_words w)
    && (tidy entity_width most_entities (entity_count w) (entity_words w)
    && (leb (cell_count w) most_cells && within_number (decode w)))

-- 2. The cells with an id, each held once, are exactly those an entity stands in. Here too: the rows of cells and of ids.
unfoldable pub point2 : List ℕ → Bool
point2 w =
    tidy cell_width most_cells (cell_count w) (cell_words w)
    && (tidy id_width most_cells (id_count w) (id_words w) && cells_exact (decode w))

-- 3. Each mask has exactly the bits of touching occupied cells.
unfoldable pub point3 : List ℕ → Bool
point3 w = masks_exact (touch_of (decode w)) (decode w)

-- 4. Ids shared exactly by joined cells.
unfoldable pub point4 : List ℕ → Bool
point4 w = ids_shared (touch_of (decode w)) (decode w)

-- 5. One group record for each id that a cell has and no other, its grid, corners and counts exact. Here too: the group rows.
unfoldable pub point5 : List ℕ → Bool
point5 w = tidy group_width most_cells (group_count w) (group_words w) && records_exact (decode w)

-- 6. Every id below the next id.
unfoldable pub point6 : List ℕ → Bool
point6 w = ids_below_next (decode w)

-- 7. Coordinates in range: of the entities, and of the rows that each net list has, at most as many as its table.
unfoldable pub point7 : List ℕ → Bool
point7 w =
    all cell_in_range (values (decode w).occupancy.entities)
    && (all cell_in_range (net_in (min (occupied_count w) most_cells) (occupied_words w)) && all cell_in_range (net_in (min (emptied_count w) most_cells) (emptied_words w)))

-- 8. Net lists strictly ascending, at most 1,024 cells each, the first occupied, the second not. Here too: their rows.
unfoldable pub point8 : List ℕ → Bool
point8 w =
    tidy net_width most_cells (occupied_count w) (occupied_words w)
    && (tidy net_width most_cells (emptied_count w) (emptied_words w) && nets_in_order (decode w))

-- 9. The stored kind of touching is 6, 18 or 26.
unfoldable pub point9 : List ℕ → Bool
point9 w = kind_known (decode w)

-- Whether the words are long enough for a state.
abbrev pub long_enough : List ℕ → Bool
long_enough w = leb state_len (length w)

-- The points in the order in which they are tried, each with its number: 9, then 1 to 8.
abbrev pub points : List ℕ → List (ℕ × Bool)
points w = (9, point9 w) ∷ (1, point1 w) ∷ (2, point2 w) ∷ (3, point3 w) ∷ (4, point4 w) ∷ (5, point5 w) ∷ (6, point6 w) ∷ (7, point7 w) ∷ (8, point8 w) ∷ []

-- The number of the first that does not hold; 0 where all hold.
abbrev pub first_of : List (ℕ × Bool) → ℕ
first_of [] = 0
first_of (p ∷ ps) = cond p.1 (first_of ps) p.0

-- The first broken point: 9 before 1 to 8; 0 where none is.
unfoldable pub first_broken : List ℕ → ℕ
first_broken w = first_of (points w)

-- Whether the words of a state are consistent: no point is broken.
abbrev pub consistent_words : List ℕ → Bool
consistent_words w = eqb (first_broken w) 0
