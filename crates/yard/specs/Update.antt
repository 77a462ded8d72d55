-- What `update` answers and leaves.
use Rattle.std.specs.Prelude.{ℕ, cond, not, List}
use Rattle.refusal.specs.Forms.{Refused}
use Rattle.refusal.specs.Forms as form
use Rattle.refusal.specs.Forms.{broken}
use Rattle.model.specs.Occupancy.{Batch}
use Rattle.model.specs.Update.{update}
use Rattle.layout.specs.State.{decode}
use Rattle.layout.specs.Points.{first_broken, consistent_words}
use Rattle.batch.specs.Words.{batch_of, too_short}
use Rattle.batch.specs.Places.{batch_refusal}
use Rattle.updating.specs.Done.{done}

-- The number of an update with its place in the batch, and the words it leaves.
abbrev pub placed_in : Batch → ℕ × List ℕ → Refused × List ℕ
placed_in b p = (batch_refusal b p.0, p.1)

-- 1 where the words are too few, 2 with the first broken point where the state is not consistent, and both leave the words as found; else
-- the number of the model's update with its place, and what it leaves.
unfoldable pub update_of : List ℕ → List ℕ → ℕ → ℕ → Refused × List ℕ
update_of w b removals moves =
    cond (too_short w b removals moves) (form.too_short, w)
    (cond (not (consistent_words w)) (broken (first_broken w), w)
    (placed_in (batch_of b removals moves) (done w (update (decode w) (batch_of b removals moves)))))
