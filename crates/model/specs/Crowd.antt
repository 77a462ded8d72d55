-- How many entities stand in each cell.
use Rattle.std.specs.Prelude.{ℕ, List, length}
use Rattle.model.specs.Lists.{keep, each}
use Rattle.model.specs.Cells.{Cell, same}

-- How many entities stand in the cell.
unfoldable pub how_many : List (ℕ × Cell) → Cell → ℕ
how_many t c = length (keep (λ (p : ℕ × Cell). same c p.1) t)

-- Some cells, each with what a rule gives for it.
abbrev pub tallied : (Cell → ℕ) → List Cell → List (Cell × ℕ)
tallied f = each (λ c. (c, f c))
