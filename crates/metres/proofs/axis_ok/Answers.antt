-- `metres::axis_ok` meets its contract.
use Rattle.std.proofs.Common.{sym, ap, ◌∙◌}
use Rattle.metres.specs.Place.{near}
use Rattle.metres.proofs.Laws.Answer.{axis-off, axis-on}
use Rattle.metres.proofs.axis_ok.Goals as goal

pub returns-then-is_finite : goal.returns-then-is_finite
returns-then-is_finite c = c.is_near.ensures ∙ ap near c.less.ensures ∙ axis-on c.args.x c.args.o (sym c.is_finite.ensures ∙ c.if-is_finite.true)

pub returns-else-is_finite : goal.returns-else-is_finite
returns-else-is_finite c = c.if-is_finite.false ∙ axis-off c.args.x c.args.o (sym c.is_finite.ensures ∙ c.if-is_finite.false)
