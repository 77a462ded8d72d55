-- Where reading and writing stand in their buffers.
use Rattle.std.specs.Prelude.{ℕ, ◌≤◌}
use Rattle.script_reader.specs.Places.{Reads}
use Rattle.player.specs.declared.playing.Progress.{Progress}

-- Reading stands in a buffer of n bytes, and writing in one of m.
abbrev pub Plays : ℕ → ℕ → Progress → Type 0
Plays n m p = Reads n p.reader × (p.used ≤ m)
