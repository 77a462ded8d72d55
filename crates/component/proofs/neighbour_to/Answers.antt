-- `component::neighbour_to` meets its contract: it counts from the block's low corner, so that no sum leaves the block.
use Rattle.std.proofs.Common.{◌≤◌, ap, ◌∙◌, arith}
use Rattle.component.specs.Around.{place}
use Rattle.component.specs.Adjacent.{Room}
use Rattle.component.specs.Laws.Adjacent.{room-axes, room-above}
use Rattle.component.proofs.Block.{top_digit, from-corner}
use Rattle.component.proofs.neighbour_to.Goals as goal
use Rattle.component.proofs.neighbour_to.Tie as tie
use Rattle.component.proofs.neighbour_to.Lts as lts
use Rattle.component.proofs.neighbour_to.Reads as reads

small : (s : lts.Start tie.the-claims reads.Pre reads.Post) → s.args.r ≤ 255
small s = omega arith

room : (s : lts.Start tie.the-claims reads.Pre reads.Post) → Room s.args.r s.args.c
room s = room-axes s.args.r s.args.c s.requires.1

pub overflow_add-result : goal.overflow_add-result
overflow_add-result c =
    let s = c.before.before in
    omega (arith, small s, (room s).z, top_digit s.args.r s.args.k c.before.step-j.result s.requires.0 c.before.step-j.ensures)

pub returns : goal.returns
returns c =
    let j = c.before.before.before in
    let s = j.before in
    let r = s.args.r in
    let p = s.args.c in
    from-corner r p j.step-j.result (room-above r p s.requires.1) ∙ ap (place r p) j.step-j.ensures
