-- Which cells a cube takes, and where their planes begin.
use Rattle.std.specs.Prelude.{ℕ, ◌+◌, Bool, ◌&&◌, not, eqb, leb}
use Rattle.model.specs.Cells.{Cell, same}

-- Whether two numbers are at most r apart.
abbrev pub are_near : ℕ → ℕ → ℕ → Bool
are_near r m n = leb m (n + r) && leb n (m + r)

-- Whether d is of c's grid, at most r from it on each axis, and another cell.
abbrev pub beside : ℕ → Cell → Cell → Bool
beside r c d =
    eqb d.grid c.grid && (are_near r c.z d.z && (are_near r c.y d.y && (are_near r c.x d.x && not (same c d))))

-- No cell of the plane z of a grid comes before this one, and every cell before that plane does.
abbrev pub plane_start : ℕ → ℕ → Cell
plane_start grid z = record { grid = grid; z = z; y = 0; x = 0 }
