-- What the numbers stand for that a call for C is given.
use Rattle.std.specs.Prelude.{ℕ, Bool, cond, ℤ, Some, None}
use Rattle.component.specs.declared.CellId.{CellId}
use Rattle.floods.specs.Told.{Depth}

-- The cell of a grid number and three coordinates.
abbrev pub cell_of : ℕ → ℤ → ℤ → ℤ → CellId
cell_of grid x y z = record { grid = grid; coord = record { x = x; y = y; z = z } }

-- How far a flood goes: to a depth if one is given.
abbrev pub depth_given : Bool → ℤ → Depth
depth_given deep depth = cond deep (Some depth) None
