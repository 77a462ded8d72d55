-- `metres::ValidFrame::axis_spot` meets its contract.
use Rattle.std.proofs.Common.{T, ap, ◌∙◌, rules}
use Rattle.std.specs.Prelude.{Float}
use Rattle.std.specs.Float.{binary64}
use Rattle.std.specs.Float.Ieee.{fits}
use Rattle.metres.specs.Place.{near, spot_of}
use Rattle.metres.proofs.Laws.Near.{near-known}
use Rattle.metres.proofs.Laws.Answer.{axis-finite, axis-near}
use Rattle.metres.proofs.ValidFrame.axis_spot.Goals as goal

pub less-requires-clause-a_finite : goal.less-requires-clause-a_finite
less-requires-clause-a_finite c =
    let k = c.requires in
    record { fits = k.fits; finite = axis-finite c.args.x c.args.o k.ok }

pub invariant_of-place : goal.invariant_of-place
invariant_of-place c =
    let t : T (fits binary64 c.less.result) = search rules in
    record { near = near-known c.less.result t (ap near c.less.ensures ∙ axis-near c.args.x c.args.o c.requires.ok) }

pub returns : goal.returns
returns c = c.spot_at.ensures ∙ ap (λ (p : Float). spot_of p c.args.self.frame.edge) c.less.ensures
