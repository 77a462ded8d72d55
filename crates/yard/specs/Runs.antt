-- Runs of calls on words.
use Rattle.std.specs.Prelude.{ℕ, ◌≡◌, List}
use Rattle.model.specs.Update.{touch_of}
use Rattle.model.specs.Runs.{passages_on}
use Rattle.layout.specs.State.{decode}
use Rattle.batch.specs.Words.{batch_of}
use Rattle.fresh.specs.Answer.{fresh_of}
use Rattle.yard.specs.Update.{update_of}

-- Two runs of calls from fresh words with one kind of touching that agree, one call that is done after the other, on the grid's enter and leave events; calls that are
-- refused may stand anywhere in either.
pub data AlikeWords (grid : ℕ) : List ℕ → List ℕ → Type 0 where
  start : (w v : List ℕ) (first first' kind : ℕ) → (fresh_of w first kind).0.number ≡ 0 → (fresh_of v first' kind).0.number ≡ 0 → AlikeWords grid (fresh_of w first kind).1 (fresh_of v first' kind).1
  next : {w v : List ℕ} (b : List ℕ) (removals moves : ℕ) (d : List ℕ) (removals' moves' : ℕ) → AlikeWords grid w v
      → (update_of w b removals moves).0.number ≡ 0 → (update_of v d removals' moves').0.number ≡ 0
      → passages_on (touch_of (decode w)) grid (decode w) (batch_of b removals moves) ≡ passages_on (touch_of (decode v)) grid (decode v) (batch_of d removals' moves')
      → AlikeWords grid (update_of w b removals moves).1 (update_of v d removals' moves').1
  refused : {w v : List ℕ} (b : List ℕ) (removals moves : ℕ) → AlikeWords grid w v → ((update_of w b removals moves).0.number ≡ 0 → ⊥) → AlikeWords grid (update_of w b removals moves).1 v
  refused' : {w v : List ℕ} (d : List ℕ) (removals moves : ℕ) → AlikeWords grid w v → ((update_of v d removals moves).0.number ≡ 0 → ⊥) → AlikeWords grid w (update_of v d removals moves).1
