-- The place that a refused batch tells.
use Rattle.std.specs.Prelude.{ℕ, suc, Bool, cond, List, [], ◌∷◌, eqb}
use Rattle.component.specs.Range.{cell_in_range, stored_bad_axis}
use Rattle.refusal.specs.Forms.{Refused}
use Rattle.refusal.specs.Forms.{plain, none, out_of_range}
use Rattle.model.specs.Cells.{Cell}
use Rattle.model.specs.Occupancy.{Batch}

-- Whether a move goes to a cell in range.
abbrev pub ranged : ℕ × Cell → Bool
ranged m = cell_in_range m.1

-- 4 by the first move that goes out of range, the first of them being at position n; none where all are in range.
abbrev pub first_out : ℕ → List (ℕ × Cell) → Refused
first_out n [] = none
first_out n (m ∷ ms) = cond (ranged m) (first_out (suc n) ms) (out_of_range n (stored_bad_axis m.1))

-- The number of a batch with its place: 4 tells the first move that goes out of range and its first axis that does.
unfoldable pub batch_refusal : Batch → ℕ → Refused
batch_refusal b n = cond (eqb n 4) (first_out 0 b.moves) (plain n)
