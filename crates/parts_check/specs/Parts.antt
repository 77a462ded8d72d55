-- Rows marked by connected parts: each row is marked with one more than the first row of its part.
use Rattle.std.specs.Prelude.{ℕ, suc, ◌<◌, ◌≡◌, List, get_or}
use Rattle.model.specs.Lists.{keys}
use Rattle.model.specs.Cells.{Cell, touch_at}
use Rattle.model.specs.Paths.{Joined}
use Rattle.neighbourhood.specs.Rows.{row_cell}

-- Whether a path of occupied cells joins row i to row j, by touching of a kind.
abbrev pub Linked : ℕ → List ℕ → List (Cell × ℕ) → ℕ → ℕ → Type 0
Linked kind words t i j = Joined (touch_at kind) (keys t) (row_cell words i) (row_cell words j)

-- After the first i rows: a row that is not marked is linked to none of them; a mark is one more than a row that is linked to it,
-- and to none before it.
pub record Labelled (kind : ℕ) (words : List ℕ) (n : ℕ) (t : List (Cell × ℕ)) (i : ℕ) (marks : List ℕ) : Type 0 where
  pub none : (j : ℕ) → j < n → get_or marks j 0 ≡ 0 → (k : ℕ) → k < i → Linked kind words t k j → ⊥
  pub some : (j k : ℕ) → j < n → get_or marks j 0 ≡ suc k → (k < i) × Linked kind words t k j × ((l : ℕ) → l < k → Linked kind words t l k → ⊥)
