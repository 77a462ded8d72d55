-- Smallest moves at which a slip would show, as one list.
use Rattle.std.specs.Prelude.{List, [], ◌∷◌}
use Rattle.std.proofs.Math.Option.{none, some}
use Rattle.model.specs.Occupancy.{Batch}
use Rattle.model.proofs.Cases.{Case, ids, corners, nets, floods, at, minus, cell, corner, moving, removing, fill, depth}

-- (0,0,0) to (3,0,0), one group, filled in one batch.
abbrev pub row : Batch
row = moving ((0, at 0) ∷ (1, at 1) ∷ (2, at 2) ∷ (3, at 3) ∷ [])

abbrev pub slips : List Case
slips =
    -- A removal that runs after the moves would take the entity away from its new cell.
    record {
      batches = fill 0 ∷ record { removals = 0 ∷ []; moves = (0, at 1) ∷ [] } ∷ [];
      seen = ids ((at 1, 0) ∷ []) ∷ nets (at 1 ∷ []) (at 0 ∷ []) ∷ [];
    } ∷
    -- A cell emptied and refilled in one batch would stay in the net lists.
    record { batches = fill 0 ∷ record { removals = 0 ∷ []; moves = (1, at 0) ∷ [] } ∷ []; seen = nets [] [] ∷ [] } ∷
    -- A regrouping in the first batch only would leave (1,0,0) without an id.
    record { batches = fill 0 ∷ fill 1 ∷ []; seen = ids ((at 0, 0) ∷ (at 1, 0) ∷ []) ∷ [] } ∷
    -- Corners that only grow would still reach (0,0,0).
    record { batches = row ∷ removing 0 ∷ []; seen = corners 0 (corner 1) (corner 3) ∷ [] } ∷
    -- The smallest piece would keep the id.
    record { batches = row ∷ removing 1 ∷ []; seen = ids ((at 0, 1) ∷ (at 2, 0) ∷ (at 3, 0) ∷ []) ∷ [] } ∷
    -- Equal pieces: the one with the least cell would lose the id.
    record { batches = fill 0 ∷ fill 1 ∷ fill 2 ∷ removing 1 ∷ []; seen = ids ((at 0, 0) ∷ (at 2, 1) ∷ []) ∷ [] } ∷
    -- A cell marked when visited would come twice, before (2,1,0).
    record {
      batches = moving ((0, at 0) ∷ (1, at 1) ∷ (2, cell 1 0 1 0) ∷ (3, cell 1 2 1 0) ∷ []) ∷ [];
      seen = floods (at 0) none (at 0 ∷ at 1 ∷ cell 1 0 1 0 ∷ cell 1 2 1 0 ∷ []) ∷ [];
    } ∷
    -- A depth to one side only would let (-1,0,0) pass; a negative depth would give the seed.
    record { batches = fill 0 ∷ moving ((1, minus 1) ∷ []) ∷ []; seen = floods (at 0) (depth 0) (at 0 ∷ []) ∷ floods (at 0) (some 2147483647) [] ∷ [] } ∷
    -- A cell outside the depth, (1,3,1): one that ends the flood for good would leave out (2,2,2), one that is followed lead to (1,2,0).
    record {
      batches = moving ((0, cell 1 1 0 2) ∷ (1, cell 1 0 1 2) ∷ (2, cell 1 1 2 2) ∷ (3, cell 1 1 3 1) ∷ (4, cell 1 2 2 2) ∷ (5, cell 1 1 2 0) ∷ []) ∷ [];
      seen = floods (cell 1 1 0 2) (depth 2) (cell 1 1 0 2 ∷ cell 1 0 1 2 ∷ cell 1 1 2 2 ∷ cell 1 2 2 2 ∷ []) ∷ [];
    } ∷ []
