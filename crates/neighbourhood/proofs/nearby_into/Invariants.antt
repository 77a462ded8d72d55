-- The loop writes the cell of the next set bit behind those that are written.
use mathlib.Core.Path.{◌≡◌}
use lib.ListN.{length}
use Rattle.neighbourhood.proofs.Laws.Listing.{near_up_to}
use Rattle.neighbourhood.proofs.Laws.Filling.{Written}
use Rattle.neighbourhood.proofs.nearby_into.Given as goal

abbrev pub invariant-loop-k : goal.invariant-loop-k
invariant-loop-k l = (l.e ≡ length (near_up_to l.cells l.row l.k)) × Written l.initial.answer (near_up_to l.cells l.row l.k) l.answer
