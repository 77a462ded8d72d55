-- `metres::ValidFrame::made` meets its contract: each report by its case.
use Rattle.std.proofs.Common.{sym, ap, ◌∙◌}
use Rattle.std.proofs.lemmas.Result.{err_from_is_err_and}
use Rattle.metres.specs.Answer.{made}
use Rattle.metres.specs.declared.Report.{Report}
use Rattle.metres.proofs.ValidFrame.made.Goals as goal

pub returns-in_err-placed_at-in-Fix : goal.returns-in_err-placed_at-in-Fix
unfolding made
returns-in_err-placed_at-in-Fix c =
    let p = err_from_is_err_and c.from_residual.result c.from_residual.ensures.1 in
    rw (p.1, p.2) (c.in_err-placed_at-in-Fix.ensures ∙ ap (λ (x : Report). made c.args.self.frame x c.args.entity c.args.grid) (sym c.in-Fix.is))

pub returns-in_ok-placed_at-in-Fix : goal.returns-in_ok-placed_at-in-Fix
unfolding made
returns-in_ok-placed_at-in-Fix c = c.in_ok-placed_at-in-Fix.ensures ∙ ap (λ (x : Report). made c.args.self.frame x c.args.entity c.args.grid) (sym c.in-Fix.is)

pub returns-in_err-placed_at-in-Reckoned : goal.returns-in_err-placed_at-in-Reckoned
unfolding made
returns-in_err-placed_at-in-Reckoned c =
    let p = err_from_is_err_and c.from_residual-in_err-placed_at-in-Reckoned.result c.from_residual-in_err-placed_at-in-Reckoned.ensures.1 in
    rw (p.1, p.2) (c.in_err-placed_at-in-Reckoned.ensures ∙ ap (λ (x : Report). made c.args.self.frame x c.args.entity c.args.grid) (sym c.in-Reckoned.is))

pub returns-in_ok-placed_at-in-Reckoned : goal.returns-in_ok-placed_at-in-Reckoned
unfolding made
returns-in_ok-placed_at-in-Reckoned c = c.in_ok-placed_at-in-Reckoned.ensures ∙ ap (λ (x : Report). made c.args.self.frame x c.args.entity c.args.grid) (sym c.in-Reckoned.is)

pub returns-in-Nothing : goal.returns-in-Nothing
unfolding made
returns-in-Nothing c = ap (λ (x : Report). made c.args.self.frame x c.args.entity c.args.grid) (sym c.in-Nothing.is)
