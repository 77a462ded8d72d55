-- The part of the words of a state.
use native.Mathlib.Omega.{arith}
use Rattle.layout.specs.State.{entities_from, entities_len, cells_from, state_len}
use Rattle.layout.proofs.Laws.Lengths.{entities-end}
use Rattle.layout.proofs.Laws.Cut.{whole, part_of}
use Rattle.layout.proofs.entity_words.Goals as goal

pub slice_bounds-result-end : goal.slice_bounds-result-end
unfolding state_len
slice_bounds-result-end c = omega (arith, whole c.args.state.now c.requires)

pub returns : goal.returns
unfolding entities_from entities_len cells_from state_len
returns c = let s = c in part_of s.args.state.now entities_from entities_len cells_from entities-end (omega (arith, whole s.args.state.now s.requires))
