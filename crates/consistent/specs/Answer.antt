-- What the test of a state answers.
use Rattle.std.specs.Prelude.{ℕ, cond, not, List, Option, Some, None, Result, Ok, Err}
use Rattle.refusal.specs.Forms.{Refused}
use Rattle.refusal.specs.declared.Point.{Point}
use Rattle.refusal.specs.declared.Refusal.{Refusal}
use Rattle.refusal.specs.Forms.{form, none, too_short, broken, point_number}
use Rattle.layout.specs.Points.{long_enough, first_broken, consistent_words}

-- The number of a point that is broken; 0 where none is.
abbrev pub broken_number : Option Point → ℕ
broken_number None = 0
broken_number (Some p) = point_number p

-- 1 for words that are too few for a state, 2 with their first broken point for words that are not consistent, else none.
unfoldable pub state_refusal : List ℕ → Refused
state_refusal w = cond (not (long_enough w)) too_short (cond (consistent_words w) none (broken (first_broken w)))

-- What a call that gives something tells of its refusal alone.
abbrev pub passed : {A : Type 0} → Result A Refusal → Refused
passed (Ok _) = none
passed (Err r) = form r
