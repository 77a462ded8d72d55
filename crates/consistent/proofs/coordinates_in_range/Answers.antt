-- Point 7, over the words of the entities and of both net lists.
use native.Mathlib.Omega.{arith}
use mathlib.Core.Path.{ap, ◌∙◌}
use lib.ListN.{length}
use Rattle.points_check.specs.Points.{coordinates_right}
use Rattle.layout.specs.State.{net_len}
use Rattle.layout.proofs.Laws.Cut.{occupied-long, emptied-long}
use Rattle.consistent.specs.Laws.Points.{asks-cells, point7-is}
use Rattle.consistent.proofs.coordinates_in_range.Goals as goal

pub coordinates_right-requires : goal.coordinates_right-requires
unfolding net_len
coordinates_right-requires c =
    let s = c in
    let w = s.args.state.now.words.now in
    let a = asks-cells w s.args.state.now.long s.requires in
    let e = ap length c.entities-n.ensures.words in
    let n = c.entities-n.ensures.count in
    (omega (arith, a.0, e, n), ap length c.occupied-k.ensures.words ∙ occupied-long w s.args.state.now.long, ap length c.emptied-l.ensures.words ∙ emptied-long w s.args.state.now.long)

pub returns : goal.returns
returns c =
    let w = c.args.state.now.words.now in
    c.coordinates_right.ensures
    ∙ (λ i. coordinates_right (c.entities-n.ensures.words i) (c.entities-n.ensures.count i) (c.occupied-k.ensures.words i)
    (c.occupied-k.ensures.count i) (c.emptied-l.ensures.words i) (c.emptied-l.ensures.count i))
    ∙ point7-is w
