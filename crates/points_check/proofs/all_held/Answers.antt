use native.Mathlib.Omega.{arith}
use mathlib.Core.Path.{refl, ◌∙◌}
use Prim.Native.Nat.{◌*◌}
use Rattle.std.proofs.Common.{rules, tests}
use Rattle.std.proofs.lemmas.Iterator.{YieldsList-from_range}
use Rattle.std.proofs.lemmas.Iterator.Search.{all_from_yields_List}
use mathlib.Core.Bool.{cond, not}
use Rattle.model.specs.Cells.{Cell, same}
use Rattle.model.specs.Lists.{has, keys}
use Rattle.table.specs.Rows.{cell_at, table4}
use Rattle.layout.specs.Widths.{cell_width, net_width}
use Rattle.points_check.specs.Laws.Readings.{net-lines}
use Rattle.points_check.specs.Laws.Lines.{lines-all}
use Rattle.points_check.proofs.all_held.Goals as goal

pub returns : goal.returns
returns c =
    let a = c.args in
    let held = λ (d : Cell). cond a.wanted (has same (keys (table4 cell_width a.m a.cells.now)) d) (not (has same (keys (table4 cell_width a.m a.cells.now)) d)) in
    all_from_yields_List (λ i. held (cell_at a.net.now (net_width * i))) _ _ _ c.all.ensures.ran (YieldsList-from_range 0 a.n a.n refl (omega arith)) (λ x b q k. search (rules, tests))
    ∙ lines-all (net-lines a.n a.net.now) held _ (λ i h. refl)
