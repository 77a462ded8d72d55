-- Point 2, over the words of the entities, of the occupied cells and of the cells with an id.
use native.Mathlib.Omega.{arith}
use mathlib.Core.Path.{ap, ◌∙◌}
use lib.ListN.{length}
use Rattle.points_check.specs.Points.{cells_right}
use Rattle.consistent.specs.Laws.Points.{asks-cells, point2-is}
use Rattle.consistent.proofs.cells_exact.Goals as goal

pub cells_right-requires : goal.cells_right-requires
cells_right-requires c =
    let s = c in
    let a = asks-cells s.args.state.now.words.now s.args.state.now.long s.requires in
    let e = ap length c.entities-n.ensures.words in
    let n = c.entities-n.ensures.count in
    let f = ap length c.cells-m.ensures.words in
    let m = c.cells-m.ensures.count in
    let g = ap length c.ids-k.ensures.words in
    (omega (arith, a.0, e, n), omega (arith, a.1, m), omega (arith, a.2, f), omega (arith, a.3, g))

pub returns : goal.returns
returns c =
    let w = c.args.state.now.words.now in
    c.cells_right.ensures
    ∙ (λ i. cells_right (c.entities-n.ensures.words i) (c.entities-n.ensures.count i) (c.cells-m.ensures.words i)
    (c.cells-m.ensures.count i) (c.ids-k.ensures.words i) (c.ids-k.ensures.count i))
    ∙ point2-is w
