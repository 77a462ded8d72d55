-- `metres::frame_fault` meets its contract.
use Rattle.std.proofs.Common.{sym, ◌∙◌}
use Rattle.component.specs.Coord.{first_bad}
use Rattle.metres.proofs.Laws.Answer.{frame-by-edge, frame-by-origin}
use Rattle.metres.proofs.frame_fault.Goals as goal

pub returns-then-not-edge_ok : goal.returns-then-not-edge_ok
returns-then-not-edge_ok c = frame-by-edge c.args.f (sym c.edge_ok.ensures ∙ c.if-not-edge_ok.true)

pub returns : goal.returns
returns c =
    frame-by-origin c.args.f _ (sym c.edge_ok.ensures ∙ c.if-not-edge_ok.false)
    (c.first_bad.ensures ∙ (λ i. first_bad (c.origin_ok.ensures i) (c.origin_ok-2.ensures i)))
