-- The part of the words of a state.
use native.Mathlib.Omega.{arith}
use Rattle.layout.specs.State.{groups_from, groups_len, state_len}
use Rattle.layout.proofs.Laws.Lengths.{groups-end}
use Rattle.layout.proofs.Laws.Cut.{whole, part_of}
use Rattle.layout.proofs.group_words.Goals as goal

pub slice_bounds-result-end : goal.slice_bounds-result-end
unfolding state_len
slice_bounds-result-end c = omega (arith, whole c.args.state.now c.requires)

pub returns : goal.returns
unfolding groups_from groups_len state_len
returns c = let s = c in part_of s.args.state.now groups_from groups_len state_len groups-end (omega (arith, whole s.args.state.now s.requires))
