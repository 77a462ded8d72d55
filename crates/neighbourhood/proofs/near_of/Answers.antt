-- The step on each axis is a digit of the place.
-- The offset by the place in the block.
use mathlib.Core.Path.{◌≡◌, sym, ap, ◌∙◌, subst}
use Rattle.model.specs.Cells.{shift}
use Rattle.model.specs.Places.{offset_at}
use Rattle.model.proofs.Laws.Slots.{offset_of, offset-is}
use Rattle.neighbourhood.specs.Rows.{Lands}
use Rattle.neighbourhood.proofs.near_of.Goals as goal
use Rattle.neighbourhood.proofs.near_of.Lts as lts
use Rattle.neighbourhood.proofs.near_of.Tie as tie
use Rattle.neighbourhood.proofs.near_of.Reads as reads

at_place : (a : lts.After-step tie.the-claims reads.Pre reads.Post) → offset_at a.args.k ≡ offset_of a.step-j.result
at_place a = offset-is a.args.k a.requires.0 ∙ ap offset_of (sym a.step-j.ensures)

landed : (a : lts.After-step tie.the-claims reads.Pre reads.Post) → Lands a.args.c (offset_of a.step-j.result)
landed a = subst (Lands a.args.c) (at_place a) a.requires.1

pub axis_to-requires : goal.axis_to-requires
axis_to-requires c = (landed c).z

pub axis_to-requires-2 : goal.axis_to-requires-2
axis_to-requires-2 c = (landed c.before).y

pub axis_to-requires-3 : goal.axis_to-requires-3
axis_to-requires-3 c = (landed c.before.before).x

pub returns : goal.returns
returns c =
    let a = c.before.before.before in
    let s = a in
    (λ i. record { grid = s.args.c.grid; z = c.axis_to.ensures i; y = c.axis_to-2.ensures i; x = c.axis_to-3.ensures i })
    ∙ ap (shift s.args.c) (sym (at_place a))
