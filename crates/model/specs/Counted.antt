-- How many entities the groups count together, and whom a history has placed.
use Rattle.std.specs.Prelude.{ℕ, ◌+◌, Bool, List, [], ◌∷◌, eqb, ltb}
use Rattle.model.specs.Lists.{without, each, add, run}
use Rattle.model.specs.Cells.{Cell}
use Rattle.model.specs.Occupancy.{Event, remove, move_to, events}
use Rattle.model.specs.Groups.{Group}
use Rattle.model.specs.Update.{State}
use Rattle.model.specs.Runs.{ReachedBy, Reached, start, next}

-- The sum of some numbers.
abbrev pub total : List ℕ → ℕ
total [] = 0
total (n ∷ l) = n + total l

-- The entities that all groups count together.
abbrev pub entities_counted : State → ℕ
entities_counted s = total (each (λ (p : ℕ × Group). p.1.entities) s.records)

-- Who is placed and not since removed after one event more, ascending.
abbrev pub placed : List ℕ → Event → List ℕ
placed l (remove e) = without eqb e l
placed l (move_to e c) = add ltb e l

module _ (touch : Cell → Cell → Bool) where
  -- The entities that a history has placed and not since removed, ascending.
  abbrev pub placed_by : {s : State} → ReachedBy touch s → List ℕ
  placed_by (start first kind) = []
  placed_by (next b r e) = run placed (placed_by r) (events b)

-- The same of a history with touching as the fresh state chose it.
abbrev pub placed_of : {s : State} → Reached s → List ℕ
placed_of (start first kind t) = []
placed_of (next b r e) = run placed (placed_of r) (events b)
