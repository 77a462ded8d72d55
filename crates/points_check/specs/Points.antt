-- The points of consistency that go along rows, each over the tables that it speaks of.
use Rattle.std.specs.Prelude.{ℕ, min, Bool, ◌&&◌, not, List, leb, length}
use Rattle.model.specs.Lists.{all, has, equal, keys, values, ascending, is_ascending}
use Rattle.model.specs.Cells.{Cell, same, below, cell_in_range}
use Rattle.model.specs.Groups.{records}
use Rattle.model.specs.Update.{most_entities, most_cells}
use Rattle.model.specs.Consistent.{same_record}
use Rattle.table.specs.Rows.{are_zero, is_table1}
use Rattle.layout.specs.Widths.{entity_width, cell_width, net_width, id_width, group_width}
use Rattle.layout.specs.Rows.{entities_in, cells_in, net_in, ids_in, groups_in}
use Rattle.layout.specs.Points.{tidy}

-- 1. n entities in their rows, within number as the m occupied cells are, and no spare word of the header set.
unfoldable pub entities_right : List ℕ → List ℕ → ℕ → ℕ → Bool
entities_right spare ents n m = are_zero spare && (leb n most_entities && (leb m most_cells && is_table1 entity_width n ents))

-- The cells that n entities stand in, ascending.
abbrev pub standing_in : ℕ → List ℕ → List Cell
standing_in n ents = ascending below (values (entities_in n ents))

-- 2. The rows of k cells with an id, and those of m occupied cells, are exactly the cells that n entities stand in.
unfoldable pub cells_right : List ℕ → ℕ → List ℕ → ℕ → List ℕ → ℕ → Bool
cells_right ents n cells m ids k =
    tidy cell_width most_cells m cells
    && (tidy id_width most_cells k ids
    && (equal same (keys (ids_in k ids)) (standing_in n ents) && equal same (keys (cells_in m cells)) (standing_in n ents)))

-- 5. The rows of g groups are the records of k cells with an id, in which n entities stand.
unfoldable pub records_right : List ℕ → ℕ → List ℕ → ℕ → List ℕ → ℕ → Bool
records_right ents n ids k groups g = tidy group_width most_cells g groups && equal same_record (groups_in g groups) (records (entities_in n ents) (ids_in k ids))

-- 7. The cells of n entities, and of the rows that each net list has, are in range.
unfoldable pub coordinates_right : List ℕ → ℕ → List ℕ → ℕ → List ℕ → ℕ → Bool
coordinates_right ents n occ k emp l =
    all cell_in_range (values (entities_in n ents))
    && (all cell_in_range (net_in (min k most_cells) occ) && all cell_in_range (net_in (min l most_cells) emp))

-- 8. Both net lists ascend, have at most 1,024 cells, the first occupied, the second not.
unfoldable pub nets_right : List ℕ → ℕ → List ℕ → ℕ → List ℕ → ℕ → Bool
nets_right cells m occ k emp l =
    tidy net_width most_cells k occ
    && (tidy net_width most_cells l emp
    && (is_ascending below (net_in k occ)
    && (is_ascending below (net_in l emp)
    && (leb (length (net_in k occ)) most_cells
    && (leb (length (net_in l emp)) most_cells
    && (all (has same (keys (cells_in m cells))) (net_in k occ)
    && all (λ c. not (has same (keys (cells_in m cells)) c)) (net_in l emp)))))))
