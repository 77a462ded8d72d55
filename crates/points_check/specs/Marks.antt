-- Rows that are counted.
use Rattle.std.specs.Prelude.{ℕ, ◌*◌, ◌≤◌, ◌<◌, ◌≡◌, true, List, ltb, length, get_or}
use Rattle.model.specs.Lists.{has, keep}
use Rattle.model.specs.Cells.{Cell, same}
use Rattle.table.specs.Rows.{is_table4}
use Rattle.layout.specs.Widths.{entity_width, cell_width}

-- Of the first m rows each has the number of times that its cell is in a list.
pub record Counted (l : List Cell) (at : ℕ → Cell) (m : ℕ) (counts : List ℕ) : Type 0 where
  pub is : (j : ℕ) → j < m → get_or counts j 0 ≡ length (keep (same (at j)) l)

-- Of the first m rows those have a number other than 0 whose cell is in a list.
pub record Marked (l : List Cell) (at : ℕ → Cell) (m : ℕ) (marks : List ℕ) : Type 0 where
  pub is : (j : ℕ) → j < m → ltb 0 (get_or marks j 0) ≡ has same l (at j)

-- What counting rows asks: a table of m rows, the rows of n entities, and m numbers that are 0.
pub record Countable (ents : List ℕ) (n : ℕ) (words : List ℕ) (m : ℕ) (counts : List ℕ) : Type 0 where
  pub table : is_table4 cell_width m words ≡ true
  pub there : entity_width * n ≤ length ents
  pub space : m ≤ length counts
  pub clear : (j : ℕ) → j < m → get_or counts j 0 ≡ 0
