-- Equality and order of stored cells.
use Rattle.std.specs.Prelude.{ℕ, Bool, ◌&&◌, ◌||◌, ◌==◌, nat_lt}
use Rattle.component.specs.declared.Cell.{Cell}

-- Two cells are the same if they agree on grid, z, y and x.
abbrev pub same : Cell → Cell → Bool
same a b = a.grid == b.grid && (a.z == b.z && (a.y == b.y && a.x == b.x))

-- By the first number, and where it is equal by what follows.
abbrev pub before : ℕ → ℕ → Bool → Bool
before m n rest = nat_lt m n || (m == n && rest)

-- Cell order: grid, then z, then y, then x.
abbrev pub below : Cell → Cell → Bool
below a b = before a.grid b.grid (before a.z b.z (before a.y b.y (nat_lt a.x b.x)))
