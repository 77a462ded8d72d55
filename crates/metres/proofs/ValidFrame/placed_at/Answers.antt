-- `metres::ValidFrame::placed_at` meets its contract.
use Rattle.std.proofs.Common.{◌≡◌, ◌&&◌, Bool, sym, ◌∙◌}
use Rattle.metres.proofs.Laws.Answer.{placed_off, placed_on}
use Rattle.metres.proofs.ValidFrame.placed_at.Goals as goal

-- What both tests said.
said : {a b p q t : Bool} → p ≡ a → q ≡ b → (p && q) ≡ t → (a && b) ≡ t
said e f h = (λ i. sym e i && sym f i) ∙ h

pub returns-then-not-axes_ok-margin_ok : goal.returns-then-not-axes_ok-margin_ok
returns-then-not-axes_ok-margin_ok c =
    let p = c.args.p in
    placed_off c.args.self.frame p.x p.y p.z c.args.margin c.args.entity c.args.grid _
    (said c.axes_ok.ensures c.margin_ok.ensures c.if-not-axes_ok-margin_ok.true) c.place_fault.ensures

pub returns : goal.returns
returns c =
    let p = c.args.p in
    placed_on c.args.self.frame p.x p.y p.z c.args.margin c.args.entity c.args.grid c.event_at.result
    (said c.axes_ok.ensures c.margin_ok.ensures c.if-not-axes_ok-margin_ok.false) c.event_at.ensures
