-- What a flood tells, and its answer.
use Rattle.std.specs.Prelude.{ℕ, Bool, List, ℤ, Result, Ok, Err, Some, None}
use Rattle.std.specs.Prelude.{Option as Given}
use Rattle.std.proofs.Math.Option.{none, some}
use Rattle.component.specs.Stored.{biased}
use Rattle.model.specs.Lists.{gather}
use Rattle.model.specs.Flood.{Flood}
use Rattle.model.specs.Flood as asked
use Rattle.neighbourhood.specs.Answers.{answer_words}
use Rattle.refusal.specs.declared.Refusal.{Refusal}
use Rattle.refusal.specs.Forms.{form}
use Rattle.told.specs.Told.{Told, done, failed, fitted}
use Rattle.floods.specs.declared.Visited.{Visited}
use Rattle.floods.specs.declared.Flooded.{Flooded}

-- A flood: 0, whether its seed was found, the number of its cells and whether that was all; 8 and the words needed; or the refusal.
abbrev pub flooding_told : Result Flooded Refusal → Told (Bool × Visited)
flooding_told (Ok l) = done (l.found, l.visited)
flooding_told (Err r) = failed (form r)

-- A depth as a call is given it, or none.
abbrev pub Depth : Type 0
Depth = Given ℤ

-- A depth that is given, 2^31 more, or none.
abbrev pub depth_of : Depth → asked.Depth
depth_of None = none
depth_of (Some d) = some (biased d)

-- What a flood tells beside its cells: their number, and whether that was all of it.
abbrev pub visited : Flood → Visited
visited f = record { number = f.number; was_all = f.was_all }

-- A flood's answer: found or not, what it tells, and the words of its cells.
abbrev pub flooded : Bool → Flood → List ℕ → Told (Bool × Visited) × List ℕ
flooded found f answer = fitted (found, visited f) (gather answer_words f.cells) answer
