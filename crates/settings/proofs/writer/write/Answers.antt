-- Each way out is a law.
use Rattle.settings.proofs.Answering.{err-of}
use Rattle.settings.proofs.WritingSteps.{overlong, refused, no_room, written}
use mathlib.Core.Path.{sym, ◌∙◌}
use Rattle.settings.proofs.writer.write.Goals as goal

pub returns-then-s-n : goal.returns-then-s-n
returns-then-s-n c = let a = c.args in overlong a.s.now a.n a.grid a.settings c.if-s-n.true

pub returns-in_err-good : goal.returns-in_err-good
returns-in_err-good c =
    let a = c.args in
    (λ j. (err-of c.from_residual.ensures.1 j, a.s.now)) ∙ refused a.s.now a.n a.grid a.settings c.if-s-n.false (sym c.good.ensures ∙ c.in_err-good.was)

pub returns-then-s-n-lt24 : goal.returns-then-s-n-lt24
returns-then-s-n-lt24 c =
    let a = c.args in
    no_room a.s.now a.n a.grid a.settings c.if-s-n.false (sym c.good.ensures ∙ c.in_ok-good.was) c.if-s-n-lt24.true

pub returns : goal.returns
returns c =
    let a = c.args in
    written a.s.now a.n a.grid a.settings c.if-s-n.false (sym c.good.ensures ∙ c.in_ok-good.was) c.if-s-n-lt24.false c.put_record.ensures
