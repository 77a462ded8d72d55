-- The used bytes stay within the buffer, and the writer grows.
use Rattle.std.proofs.Common.{◌≡◌, ◌≤◌, length}
use Rattle.script_writer.specs.Written.{Grows}
use Rattle.script_writer.proofs.answering.put_ids.Given as goal

abbrev pub invariant-loop-i : goal.invariant-loop-i
invariant-loop-i g l = (l.u ≤ length l.output) × (length l.output ≡ length l.initial.output) × Grows (g.W.Write.contents l.initial.to) (g.W.Write.contents l.to)
