-- Point 9, over the word of the header.
use native.Mathlib.Omega.{arith}
use mathlib.Core.Path.{◌∙◌}
use Rattle.layout.proofs.Laws.Cut.{header-fits}
use Rattle.consistent.specs.Laws.Points.{point9-is}
use Rattle.consistent.proofs.kind_known.Goals as goal

pub bounds-state-7 : goal.bounds-state-7
bounds-state-7 c = let s = c in omega (arith, header-fits s.args.state.now.words.now s.args.state.now.long)

pub returns : goal.returns
returns c = c.is_kind.ensures ∙ point9-is c.args.state.now.words.now
