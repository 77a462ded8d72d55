-- Cells that touch.
use Rattle.std.specs.Prelude.{ℕ, suc, Bool, not, ◌&&◌, ◌==◌, nat_le}
use Rattle.component.specs.Order.{same}
use Rattle.component.specs.declared.Cell.{Cell}

-- Two numbers are at most 1 apart.
abbrev pub close : ℕ → ℕ → Bool
close m n = nat_le m (suc n) && nat_le n (suc m)

-- Two cells touch if they are of one grid, at most 1 apart on each axis, and not the same.
abbrev pub touches : Cell → Cell → Bool
touches a b = a.grid == b.grid && (close a.x b.x && (close a.y b.y && (close a.z b.z && not (same a b))))
