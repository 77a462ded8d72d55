-- When ids agree with the marks of connected parts, and what marking the parts asks.
use Rattle.std.specs.Prelude.{ℕ, ◌+◌, ◌*◌, ◌≤◌, ◌<◌, ◌≡◌, Bool, ◌||◌, not, List, eqb, length, get_or}
use Rattle.model.specs.Lists.{all, count}
use Rattle.model.specs.Consistent.{agree}
use Rattle.layout.specs.Widths.{id_width, cell_id}
use Rattle.neighbourhood.specs.Standing.{HasTable}

-- The id of row i.
abbrev pub id_at : List ℕ → ℕ → ℕ
id_at ids i = get_or ids (id_width * i + cell_id) 0

-- Whether two rows have one id exactly if they have one mark.
abbrev pub agree_at : List ℕ → List ℕ → ℕ → ℕ → Bool
agree_at ids marks i j = agree (eqb (id_at ids i) (id_at ids j)) (eqb (get_or marks i 0) (get_or marks j 0))

-- Whether row i, where it is the first of its part, agrees with each row.
abbrev pub first_agrees : List ℕ → ℕ → List ℕ → ℕ → Bool
first_agrees ids m marks i = not (eqb (get_or marks i 0) (i + 1)) || all (agree_at ids marks i) (count 0 m)

-- What marking the parts asks: some table in the words, space, and marks that are not set.
pub record Partable (words : List ℕ) (n : ℕ) (marks queue : List ℕ) : Type 0 where
  pub stands : HasTable words n
  pub marks_fit : n ≤ length marks
  pub queue_fits : n ≤ length queue
  pub clear : (j : ℕ) → j < n → get_or marks j 0 ≡ 0
