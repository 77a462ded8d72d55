use Rattle.map.proofs.Steps.{set_is, clear-is}
use mathlib.Core.Path.{◌∙◌}
use Rattle.map.proofs.revised.Goals as goal

pub returns-then-joins : goal.returns-then-joins
returns-then-joins c = c.set.ensures ∙ set_is c.args.w c.args.m c.args.joins c.if-joins.true

pub returns-else-joins : goal.returns-else-joins
returns-else-joins c = c.clear.ensures ∙ clear-is c.args.w c.args.m c.args.joins c.if-joins.false
