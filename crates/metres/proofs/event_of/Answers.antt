-- `metres::event_of` meets its contract.
use Rattle.std.proofs.Common.{sym, ◌∙◌, rules}
use Rattle.metres.proofs.Laws.Answer.{frame-edge, frame-x, frame-y, frame-z, answer-11, answer-made}
use Rattle.metres.proofs.event_of.Goals as goal

pub returns-then-not-frame_ok : goal.returns-then-not-frame_ok
returns-then-not-frame_ok c =
    answer-11 c.args.frame c.args.report c.args.entity c.args.grid _
    (sym c.frame_ok.ensures ∙ c.if-not-frame_ok.true) c.frame_fault.ensures

pub invariant_of-valid : goal.invariant_of-valid
invariant_of-valid c =
    let v = sym c.frame_ok.ensures ∙ c.if-not-frame_ok.false in
    let f = c.args.frame in
    record {
      valid = v;
      edge_named = record { fits = search rules; named = frame-edge f v };
      x_finite = record { fits = search rules; finite = frame-x f v };
      y_finite = record { fits = search rules; finite = frame-y f v };
      z_finite = record { fits = search rules; finite = frame-z f v };
    }

pub returns : goal.returns
returns c =
    answer-made c.args.frame c.args.report c.args.entity c.args.grid _
    (sym c.frame_ok.ensures ∙ c.if-not-frame_ok.false) c.made.ensures
