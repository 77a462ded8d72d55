-- The loop writes the next cell behind those that are written.
use mathlib.Core.Path.{◌≡◌}
use lib.ListN.{take}
use Rattle.layout.specs.Rows.{net_in}
use Rattle.neighbourhood.specs.Answers.{filled}
use Rattle.lists.proofs.net_into.Given as goal

abbrev pub invariant-loop-i : goal.invariant-loop-i
invariant-loop-i l = l.words ≡ filled l.initial.words (take l.i (net_in l.n l.rows))
