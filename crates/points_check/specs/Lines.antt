-- Lists whose members are read one after the other.
use Rattle.std.specs.Prelude.{ℕ, suc, ◌+◌, ◌*◌, ◌<◌, ◌≡◌, List, ◌∷◌, length, drop}
use Rattle.model.specs.Lists.{each, count}
use Rattle.model.specs.Cells.{Cell}
use Rattle.table.specs.Rows.{cell_at}

-- The list has n members, and member i is at i.
pub record Lines {A : Type 0} (l : List A) (n : ℕ) (at : ℕ → A) : Type 0 where
  pub len : length l ≡ n
  pub is : (i : ℕ) → i < n → drop i l ≡ at i ∷ drop (suc i) l

-- The cells that stand at one place of n rows of width w.
unfoldable pub cells_at : List ℕ → ℕ → ℕ → ℕ → List Cell
cells_at s w at n = each (λ (i : ℕ). cell_at s (w * i + at)) (count 0 n)
