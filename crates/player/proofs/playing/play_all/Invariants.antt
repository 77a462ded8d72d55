-- Reading and writing stay in their buffers.
use Rattle.std.proofs.Common.{◌≡◌, length}
use Rattle.script_reader.specs.Places.{MovesOn}
use Rattle.script_writer.specs.Written.{Grows}
use Rattle.player.specs.Places.{Plays}
use Rattle.player.proofs.playing.play_all.Given as goal

abbrev pub invariant-loop-turns : goal.invariant-loop-turns
invariant-loop-turns g l =
    (length l.input ≡ length l.initial.input) × (length l.output ≡ length l.initial.output) × Plays (length l.input) (length l.output) l.p × MovesOn (g.R.Read.remaining l.initial.from) (g.R.Read.remaining l.from)
    × Grows (g.W.Write.contents l.initial.to) (g.W.Write.contents l.to)
