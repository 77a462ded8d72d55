-- A batch in words: the removals first, one word each, then the moves, five words each: entity, grid, x, y, z.
use Rattle.std.specs.Prelude.{ℕ, ◌+◌, ◌*◌, Bool, cond, ◌||◌, not, List, length, take, drop, get_or, ltb}
use Rattle.component.specs.Stored.{stored_word}
use Rattle.model.specs.Lists.{each}
use Rattle.model.specs.Cells.{Cell}
use Rattle.model.specs.Occupancy.{Batch}
use Rattle.model.specs.Update.{too_many_events, out_of_range, few_ids}
use Rattle.table.specs.Rows.{rows_of}
use Rattle.layout.specs.Widths.{move_width}
use Rattle.layout.specs.Points.{long_enough}

-- The move whose five words stand at a place.
abbrev pub move_at : List ℕ → ℕ → ℕ × Cell
move_at s at = (
  get_or s at 0,
  record {
    grid = get_or s (at + 1) 0;
    z = stored_word (get_or s (at + 4) 0);
    y = stored_word (get_or s (at + 3) 0);
    x = stored_word (get_or s (at + 2) 0);
  },
)

-- The moves that words stand for, n of them.
unfoldable pub moves_in : ℕ → List ℕ → List (ℕ × Cell)
moves_in n s = each (λ (row : List ℕ). move_at row 0) (rows_of move_width n s)

-- The batch that words stand for.
unfoldable pub batch_of : List ℕ → ℕ → ℕ → Batch
batch_of s removals moves = record { removals = take removals s; moves = moves_in moves (drop removals s) }

-- 1: the state's words are too few, or the batch's are fewer than its stated number of events needs.
unfoldable pub too_short : List ℕ → List ℕ → ℕ → ℕ → Bool
too_short w s removals moves = not (long_enough w) || ltb (length s) (removals + move_width * moves)

-- 3, 4 and 5 in that order, 0 if none of them holds.
unfoldable pub early : ℕ → Batch → ℕ
early next b = cond (too_many_events b) 3 (cond (out_of_range b) 4 (cond (few_ids next) 5 0))
