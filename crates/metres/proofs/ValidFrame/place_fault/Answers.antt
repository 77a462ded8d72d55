-- `metres::ValidFrame::place_fault` meets its contract.
use Rattle.std.proofs.Common.{sym, ◌∙◌}
use Rattle.component.specs.Coord.{first_bad}
use Rattle.metres.proofs.Laws.Answer.{place-by-error, place-by-axis}
use Rattle.metres.proofs.ValidFrame.place_fault.Goals as goal

pub returns-then-axes_ok : goal.returns-then-axes_ok
returns-then-axes_ok c = let p = c.args.p in place-by-error c.args.self.frame p.x p.y p.z (sym c.axes_ok.ensures ∙ c.if-axes_ok.true)

pub returns : goal.returns
returns c =
    let p = c.args.p in
    place-by-axis c.args.self.frame p.x p.y p.z _ (sym c.axes_ok.ensures ∙ c.if-axes_ok.false)
    (c.first_bad.ensures ∙ (λ i. first_bad (c.axis_ok.ensures i) (c.axis_ok-2.ensures i)))
