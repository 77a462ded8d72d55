-- The walk over rows of occupied cells, each step to the first row that is one step nearer, and what the functions that take it are asked
-- and promise.
use Rattle.std.specs.Prelude.{ℕ, zero, suc, ◌-◌, ◌*◌, ◌≤◌, ◌<◌, ◌≡◌, Bool, List, [], ◌∷◌, eqb, length, get_or}
use Rattle.std.proofs.Math.Option.{Option, none, some}
use Rattle.model.specs.Lists.{keep, each, keys}
use Rattle.model.specs.Cells.{Cell, touch_at}
use Rattle.model.specs.Shortest.{shown_path}
use Rattle.neighbourhood.specs.Rows.{row_cell, onward}
use Rattle.neighbourhood.specs.Standing.{HasTable, Levels}
use Rattle.neighbourhood.specs.Answers.{filled}
use Rattle.layout.specs.Widths.{answer_width}

-- The first of some rows, or the given row if there is none.
abbrev pub first_row : ℕ → List ℕ → ℕ
first_row i [] = i
first_row i (j ∷ l) = j

-- Whether the mark of row j is one less than that of row i.
abbrev pub is_nearer : List ℕ → ℕ → ℕ → Bool
is_nearer marks i j = eqb (get_or marks j 0) (get_or marks i 0 - 1)

-- The first row that the mask of row i leads to and that is one step nearer.
unfoldable pub next_row : List ℕ → ℕ → List ℕ → ℕ → ℕ
next_row words n marks i = first_row i (keep (is_nearer marks i) (onward words n i))

module _ (words : List ℕ) (n : ℕ) (marks : List ℕ) where
  -- The row after k steps from row i.
  unfoldable pub row_after : ℕ → ℕ → ℕ
  row_after zero i = i
  row_after (suc k) i = next_row words n marks (row_after k i)

  -- The first k rows of the walk from row i.
  unfoldable pub walk_rows : ℕ → ℕ → List ℕ
  walk_rows zero i = []
  walk_rows (suc k) i = i ∷ walk_rows k (next_row words n marks i)

-- The cells of the walk from row i, as many as its mark says.
unfoldable pub walk_cells : List ℕ → ℕ → List ℕ → ℕ → List Cell
walk_cells words n marks i = each (row_cell words) (walk_rows words n marks (get_or marks i 0) i)

-- What a step from row i asks: the occupied cells, a row that is there and marked, and a mark for each row.
pub record Steppable (words : List ℕ) (n : ℕ) (marks : List ℕ) (i : ℕ) : Type 0 where
  pub stands : HasTable words n
  pub there : i < n
  pub marked : 0 < get_or marks i 0
  pub fits : n ≤ length marks

-- What the walk from one row to another asks: the occupied cells, the marks of a wave from the other row, and space.
pub record Walkable (words : List ℕ) (n : ℕ) (marks : List ℕ) (from to : ℕ) (answer : List ℕ) : Type 0 where
  pub stands : HasTable words n
  pub starts : from < n
  pub ends : to < n
  pub levels : Levels words n to marks
  pub fits : n ≤ length marks
  pub space : answer_width * get_or marks from 0 ≤ length answer

-- The cells of a path, and none of no path.
abbrev pub cells_of : Option (List Cell) → List Cell
cells_of none = []
cells_of (some p) = p

-- The path shown from one row's cell to another's, by touching of a kind.
abbrev pub shown_rows : ℕ → List ℕ → List (Cell × ℕ) → ℕ → ℕ → Option (List Cell)
shown_rows kind words t from to = shown_path (touch_at kind) (keys t) (row_cell words from) (row_cell words to)

-- The cells of the path are written, nothing behind them is, and the answer is their number, at most that of the rows.
pub record Walked (kind : ℕ) (words : List ℕ) (n from to : ℕ) (answer : List ℕ) (r : ℕ) (answer' : List ℕ) (t : List (Cell × ℕ)) : Type 0 where
  pub few : r ≤ n
  pub number : r ≡ length (cells_of (shown_rows kind words t from to))
  pub written : answer' ≡ filled answer (cells_of (shown_rows kind words t from to))
