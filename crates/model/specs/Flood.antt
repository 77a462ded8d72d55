-- Flood: first in, first out, each cell marked when queued, touching cells taken in cell order.
use Rattle.std.specs.Prelude.{ℕ, zero, suc, ◌+◌, Bool, cond, ◌&&◌, not, List, [], ◌∷◌, ◌++◌, leb, length, take}
use Rattle.std.proofs.Math.Option.{Option, none, some}
use Rattle.model.specs.Lists.{keep, has}
use Rattle.model.specs.Cells.{Cell, same, bias}
use Rattle.model.specs.Masks.{touching}
use Rattle.model.specs.Occupancy.{Occupancy, occupied}

-- Visit the first of the queue, and queue and mark those of its list that are not marked; n is the most cells to visit.
abbrev pub visit : (Cell → List Cell) → ℕ → List Cell → List Cell → List Cell
visit list zero queue marked = []
visit list (suc n) [] marked = []
visit list (suc n) (c ∷ queue) marked =
    let new : List Cell = keep (λ d. not (has same marked d)) (list c) in
    c ∷ visit list n (queue ++ new) (marked ++ new)

-- The whole flood over some cells: each cell's list has the touching ones of them; a seed that is not among them gives nothing.
abbrev pub whole_flood : (Cell → Cell → Bool) → List Cell → Cell → List Cell
whole_flood touch among seed =
    cond (has same among seed) (visit (touching touch among) (length among) (seed ∷ []) (seed ∷ [])) []

-- A depth is no depth, or a signed 32-bit number d, kept as d + 2^31.
abbrev pub Depth : Type 0
Depth = Option ℕ

-- Whether two coordinates differ by at most the depth, either sign.
abbrev pub near_on : ℕ → ℕ → ℕ → Bool
near_on d m n = leb (m + bias) (n + d) && leb (n + bias) (m + d)

-- Whether a cell is within the depth of the seed on every axis.
abbrev pub within_depth : ℕ → Cell → Cell → Bool
within_depth d seed c = near_on d seed.x c.x && (near_on d seed.y c.y && near_on d seed.z c.z)

-- The cells that a flood goes over: with no depth all, with a depth those within it; a negative depth leaves out even the seed.
abbrev pub flood_cells : Depth → Cell → List Cell → List Cell
flood_cells none seed cells = cells
flood_cells (some d) seed cells = keep (within_depth d seed) cells

-- The flood over the occupied cells within the depth, before the budget.
abbrev pub flood_within : (Cell → Cell → Bool) → Occupancy → Cell → Depth → List Cell
flood_within touch o seed depth = whole_flood touch (flood_cells depth seed (occupied o)) seed

-- What a flood gives: cells, their number, and whether that was all of it.
pub record Flood : Type 0 where
  pub cells : List Cell
  pub number : ℕ
  pub was_all : Bool

-- The first cells of the flood within the depth, up to the budget.
abbrev pub flood : (Cell → Cell → Bool) → Occupancy → Cell → Depth → ℕ → Flood
flood touch o seed depth budget =
    let l : List Cell = flood_within touch o seed depth in
    record { cells = take budget l; number = length (take budget l); was_all = leb (length l) budget }
