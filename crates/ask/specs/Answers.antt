-- What each question tells for the words of a state: the refusals are tried in order, and else the model's question is asked of the
-- state that the words stand for.
use Rattle.std.specs.Prelude.{ℕ, Bool, cond, List}
use Rattle.std.proofs.Math.Option.{Option}
use Rattle.component.specs.declared.CellId.{CellId}
use Rattle.component.specs.Stored.{stored, cell_id}
use Rattle.component.specs.Coord.{coord_in_range, bad_axis}
use Rattle.refusal.specs.Forms.{Refused}
use Rattle.refusal.specs.Forms.{none, out_of_range}
use Rattle.model.specs.Lists.{has}
use Rattle.model.specs.Cells.{same}
use Rattle.model.specs.Occupancy.{occupied}
use Rattle.model.specs.Questions.{where_is, neighbour_count, group_by, entities_in, id_list, nearby, cube, path_between}
use Rattle.model.specs.Questions as question
use Rattle.layout.specs.State.{decode}
use Rattle.told.specs.Told.{Told, done, refused, unless, seen, unless_refused}
use Rattle.lookups.specs.declared.Shown.{Shown}
use Rattle.lookups.specs.Told.{shown_of}
use Rattle.lists.specs.Told.{listed_numbers, listed_cells, there, path_from}
use Rattle.floods.specs.declared.Visited.{Visited}
use Rattle.floods.specs.Told.{Depth, flooded, depth_of}
use Rattle.consistent.specs.Answer.{state_refusal}

-- The state's refusal, and then 4 for a cell that is out of range: a question's cell is at position 0, and told is its first bad axis.
unfoldable pub cell_refusal : List ℕ → CellId → Refused
cell_refusal w c = unless (state_refusal w) (λ r. r) (cond (coord_in_range c.coord) none (out_of_range 0 (bad_axis c.coord)))

-- The same, and then 4 for a second cell that is out of range, at position 1.
unfoldable pub cells_refusal : List ℕ → CellId → CellId → Refused
cells_refusal w a b = unless (cell_refusal w a) (λ r. r) (cond (coord_in_range b.coord) none (out_of_range 1 (bad_axis b.coord)))

-- What touching means in the state: 6, 18 or 26.
unfoldable pub kind_of : List ℕ → Told ℕ
kind_of w = unless (state_refusal w) refused (done (decode w).kind)

-- Where an entity stands.
unfoldable pub where_of : List ℕ → ℕ → Told (Option CellId)
where_of w e = unless (state_refusal w) refused (done (seen cell_id (where_is (decode w) e)))

-- The id of a cell.
unfoldable pub id_of : List ℕ → CellId → Told (Option ℕ)
id_of w c = unless (cell_refusal w c) refused (done (question.id_of (decode w) (stored c)))

-- The neighbour count of a cell.
unfoldable pub count_of : List ℕ → CellId → Told (Option ℕ)
count_of w c = unless (cell_refusal w c) refused (done (neighbour_count (decode w) (stored c)))

-- A group by id.
unfoldable pub group_of : List ℕ → ℕ → Told (Option Shown)
group_of w g = unless (state_refusal w) refused (done (seen shown_of (group_by (decode w) g)))

-- The ids, ascending.
unfoldable pub ids_of : List ℕ → List ℕ → Told (Bool × ℕ) × List ℕ
ids_of w answer = unless_refused (state_refusal w) answer (listed_numbers (there (id_list (decode w))) answer)

-- The newly occupied cells, ascending.
unfoldable pub occupied_of : List ℕ → List ℕ → Told (Bool × ℕ) × List ℕ
occupied_of w answer = unless_refused (state_refusal w) answer (listed_cells (there (decode w).occupancy.newly_occupied) answer)

-- The newly emptied cells, ascending.
unfoldable pub emptied_of : List ℕ → List ℕ → Told (Bool × ℕ) × List ℕ
emptied_of w answer = unless_refused (state_refusal w) answer (listed_cells (there (decode w).occupancy.newly_emptied) answer)

-- The entities of a cell, ascending.
unfoldable pub entities_of : List ℕ → CellId → List ℕ → Told (Bool × ℕ) × List ℕ
entities_of w c answer = unless_refused (cell_refusal w c) answer (listed_numbers (entities_in (decode w) (stored c)) answer)

-- A cell, then the occupied cells that it touches, in cell order.
unfoldable pub nearby_of : List ℕ → CellId → List ℕ → Told (Bool × ℕ) × List ℕ
nearby_of w c answer = unless_refused (cell_refusal w c) answer (listed_cells (nearby (decode w) (stored c)) answer)

-- The centre first, then its neighbours of a radius in order, occupied ones only.
unfoldable pub cube_of : List ℕ → CellId → ℕ → List ℕ → Told (Bool × ℕ) × List ℕ
cube_of w c r answer = unless_refused (cell_refusal w c) answer (listed_cells (cube (decode w) (stored c) r) answer)

-- A flood from a seed to a depth, up to a budget.
unfoldable pub flood_of : List ℕ → CellId → Depth → ℕ → List ℕ → Told (Bool × Visited) × List ℕ
flood_of w c depth budget answer =
    unless_refused (cell_refusal w c) answer
    (flooded (has same (occupied (decode w).occupancy) (stored c)) (question.flood_of (decode w) (stored c) (depth_of depth) budget) answer)

-- The path from one cell to another.
unfoldable pub path_of : List ℕ → CellId → CellId → List ℕ → Told (Bool × ℕ) × List ℕ
path_of w a b answer =
    unless_refused (cells_refusal w a b) answer
    (path_from (path_between (decode w) (stored a) (stored b)) answer)
