-- The part of the words of a state.
use native.Mathlib.Omega.{arith}
use Prim.Native.Nat.{◌-◌}
use Rattle.layout.specs.Widths.{header_len, spare}
use Rattle.layout.specs.State.{entities_from, state_len}
use Rattle.layout.proofs.Laws.Lengths.{header-end}
use Rattle.layout.proofs.Laws.Cut.{whole, part_of}
use Rattle.layout.proofs.spare_words.Goals as goal

pub slice_bounds-result-end : goal.slice_bounds-result-end
unfolding state_len
slice_bounds-result-end c = omega (arith, whole c.args.state.now c.requires)

pub returns : goal.returns
unfolding entities_from state_len
returns c = let s = c in part_of s.args.state.now spare (header_len - spare) entities_from header-end (omega (arith, whole s.args.state.now s.requires))
