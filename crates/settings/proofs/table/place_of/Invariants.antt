-- The invariant: all places from the home up to k are taken by other grids.
use Rattle.settings.specs.Table.{places_of, mark_at, grid_at, home_of}
use mathlib.Core.Path.{◌≡◌}
use Prim.Native.Nat.{ℕ, ◌<◌, ◌≤◌}
use Rattle.settings.proofs.table.place_of.Given as goal

abbrev pub invariant-loop-k : goal.invariant-loop-k
invariant-loop-k l =
    (l.places ≡ places_of l.t) × (home_of l.grid (places_of l.t) ≤ l.k) × (l.k ≤ places_of l.t)
    × ((i : ℕ) → home_of l.grid (places_of l.t) ≤ i → i < l.k → (0 < mark_at l.t i) × (grid_at l.t i ≡ l.grid → ⊥))
