-- Each way out is one of `Steps`.
use Rattle.layout.specs.Widths.{net_width}
use Rattle.map.proofs.Steps.{cross-leaves, cross-joins}
use Rattle.table.specs.Laws.Next.{room-space}
use Rattle.table.specs.Rows.{cell}
use mathlib.Core.Path.{sym, ◌∙◌}
use Rattle.map.proofs.cross.Goals as goal

pub returns-then-contains : goal.returns-then-contains
returns-then-contains c = cross-leaves _ _ _ _ _ c.requires.0 c.requires.1 (sym c.if-contains.true ∙ c.contains.ensures) _ _ c.remove-k.ensures

pub put-k-requires : goal.put-k-requires
put-k-requires c = (c.requires.1, room-space cell net_width c.args.m c.args.to.now c.args.c c.requires.2)

pub returns : goal.returns
returns c = cross-joins _ _ _ _ _ c.requires.0 c.requires.1 (sym c.if-contains.false ∙ c.contains.ensures) _ _ c.put-k.ensures
