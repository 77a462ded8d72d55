-- Each turn leaves the reader in its buffer and the counts within their limit.
use Rattle.std.proofs.Common.{◌≡◌, length}
use Rattle.script_reader.specs.Places.{Gathers, MovesOn}
use Rattle.script_reader.proofs.gather.Given as goal

abbrev pub invariant-loop-turns : goal.invariant-loop-turns
invariant-loop-turns g l =
    Gathers (length l.input) l.g × (length l.input ≡ length l.initial.input) × MovesOn (g.R.Read.remaining l.initial.from) (g.R.Read.remaining l.from)
