-- How cells stand in the words of an answer, and what the functions that write answers are asked and promise.
use Rattle.std.specs.Prelude.{ℕ, suc, ◌*◌, ◌≤◌, ◌<◌, ◌≡◌, List, [], ◌∷◌, length, take, get_or}
use Rattle.component.specs.Stored.{signed_word}
use Rattle.model.specs.Lists.{gather, each, keys}
use Rattle.model.specs.Cells.{Cell, touch_at}
use Rattle.model.specs.Masks.{touching}
use Rattle.table.specs.Moves.{over}
use Rattle.layout.specs.Widths.{answer_width, cell_width}
use Rattle.neighbourhood.specs.Rows.{row_cell}
use Rattle.neighbourhood.specs.Standing.{Cells}

-- The words of a cell in an answer: grid, x, y, z.
abbrev pub answer_words : Cell → List ℕ
answer_words c = c.grid ∷ signed_word c.x ∷ signed_word c.y ∷ signed_word c.z ∷ []

-- The words of some cells stand from the first word on, and the rest is as it was.
unfoldable pub filled : List ℕ → List Cell → List ℕ
filled s l = over s 0 (gather answer_words l)

-- What the answer of a cell and its touching ones asks: a row that is there, and space.
pub record NearbyAsked (words : List ℕ) (n row : ℕ) (answer : List ℕ) : Type 0 where
  pub kind : ℕ
  pub table : List (Cell × ℕ)
  pub cells : Cells kind words n table
  pub there : row < n
  pub space : answer_width * suc (length (touching (touch_at kind) (keys table) (row_cell words row))) ≤ length answer

-- The cell of a row and the touching ones are written, and the answer is their number.
pub record Nearby (kind : ℕ) (words : List ℕ) (row : ℕ) (answer : List ℕ) (r : ℕ) (answer' : List ℕ) (t : List (Cell × ℕ)) : Type 0 where
  pub number : r ≡ suc (length (touching (touch_at kind) (keys t) (row_cell words row)))
  pub written : answer' ≡ filled answer (row_cell words row ∷ touching (touch_at kind) (keys t) (row_cell words row))

-- The first count of some rows are there.
pub record Queued (words : List ℕ) (n : ℕ) (rows : List ℕ) (count : ℕ) : Type 0 where
  pub fits : cell_width * n ≤ length words
  pub few : count ≤ length rows
  pub there : (k : ℕ) → k < count → get_or rows k 0 < n

-- The cells of the first count of some rows.
abbrev pub cells_of_rows : List ℕ → List ℕ → ℕ → List Cell
cells_of_rows words rows count = each (row_cell words) (take count rows)
