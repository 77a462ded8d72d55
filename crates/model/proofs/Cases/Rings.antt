-- A small yard where a slip in the shown path would show, by computation.
use Rattle.std.specs.Prelude.{◌≡◌, refl, List, [], ◌∷◌}
use Rattle.std.proofs.Math.Option.{none, some}
use Rattle.model.specs.Lists.{ascending}
use Rattle.model.specs.Cells.{Cell, below, touch26}
use Rattle.model.specs.Shortest.{shown_path}
use Rattle.model.proofs.Cases.{at, cell}

-- Two ways round the empty cell (1,1,0), and a longer one at the least cells.
abbrev pub ring : List Cell
ring = ascending below (at 0 ∷ at 1 ∷ at 2 ∷ cell 1 0 1 0 ∷ cell 1 2 1 0 ∷ cell 1 1 2 0 ∷ cell 2 1 1 0 ∷ [])

-- From (0,1,0) to (2,1,0) both (1,0,0) and (1,2,0) lead in two steps: the lesser is taken.
pub ring-lesser : shown_path touch26 ring (cell 1 0 1 0) (cell 1 2 1 0) ≡ some (cell 1 0 1 0 ∷ at 1 ∷ cell 1 2 1 0 ∷ [])
ring-lesser = refl

-- From (0,0,0) to (1,2,0) the least touching cell (1,0,0) leads farther: (0,1,0) is taken.
pub ring-fewest : shown_path touch26 ring (at 0) (cell 1 1 2 0) ≡ some (at 0 ∷ cell 1 0 1 0 ∷ cell 1 1 2 0 ∷ [])
ring-fewest = refl

-- Back again the lesser is taken too.
pub ring-back : shown_path touch26 ring (cell 1 2 1 0) (cell 1 0 1 0) ≡ some (cell 1 2 1 0 ∷ at 1 ∷ cell 1 0 1 0 ∷ [])
ring-back = refl

-- A cell and itself, occupied and not, an unoccupied end, two grids.
pub ring-self : shown_path touch26 ring (at 0) (at 0) ≡ some (at 0 ∷ [])
ring-self = refl

pub ring-nowhere : shown_path touch26 ring (cell 1 1 1 0) (cell 1 1 1 0) ≡ none
ring-nowhere = refl

pub ring-empty : shown_path touch26 ring (at 0) (cell 1 1 1 0) ≡ none
ring-empty = refl

pub ring-grids : shown_path touch26 ring (cell 1 0 1 0) (cell 2 1 1 0) ≡ none
ring-grids = refl
