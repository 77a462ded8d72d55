-- What a flood over rows speaks of.
use Rattle.std.specs.Prelude.{ℕ, ◌≤◌, ◌<◌, ◌≡◌, List, length, get_or}
use Rattle.model.specs.Cells.{Cell}
use Rattle.model.specs.Update.{most_cells}
use Rattle.layout.specs.Rows.{cells_in}
use Rattle.neighbourhood.specs.Standing.{Cells}
use Rattle.neighbourhood.specs.Answers.{Queued, cells_of_rows}

-- None of n rows is marked.
abbrev pub NoneMarked : ℕ → List ℕ → Type 0
NoneMarked n marks = (j : ℕ) → j < n → get_or marks j 0 ≡ 0

-- What a flood asks: a row that is there, rows of which none is marked, and space.
pub record FloodAsked (words : List ℕ) (n seed : ℕ) (marks queue : List ℕ) : Type 0 where
  pub kind : ℕ
  pub cells : Cells kind words n (cells_in n words)
  pub seeded : seed < n
  pub few : n ≤ most_cells
  pub clear : NoneMarked n marks
  pub marks_fit : n ≤ length marks
  pub queue_fits : n ≤ length queue

-- The first r rows of a queue are there, and theirs are these cells.
pub record Visits (words : List ℕ) (n : ℕ) (queue : List ℕ) (r : ℕ) (l : List Cell) : Type 0 where
  pub rows : Queued words n queue r
  pub few : r ≤ n
  pub order : cells_of_rows words queue r ≡ l
