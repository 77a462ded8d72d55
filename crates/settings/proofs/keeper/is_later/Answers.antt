-- A mark that the table knows tells; else the records are asked.
use Rattle.settings.proofs.Laws.Marks.{mark-later}
use Rattle.settings.proofs.Laws.Table.{known-mark}
use native.Mathlib.Omega.{arith}
use mathlib.Core.Path.{◌∙◌}
use Rattle.settings.proofs.keeper.is_later.Goals as goal

pub returns-then-mark-ne0 : goal.returns-then-mark-ne0
returns-then-mark-ne0 c = λ f rs known w e.
    let a = c.args in
    mark-later a.grid _ w (known-mark known c.place_of-k.ensures c.if-k-t.true (omega (arith, c.if-mark-ne0.true)) ∙ e)
