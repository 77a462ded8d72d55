use native.Mathlib.Omega.{arith}
use mathlib.Core.Path.{refl, ◌∙◌}
use Prim.Native.Nat.{◌+◌, ◌*◌}
use Rattle.std.proofs.Common.{rules, tests}
use Rattle.std.proofs.lemmas.Iterator.{YieldsList-from_range}
use Rattle.std.proofs.lemmas.Iterator.Search.{all_from_yields_List}
use Rattle.model.specs.Cells.{cell_in_range}
use Rattle.table.specs.Rows.{cell_at}
use Rattle.points_check.specs.Laws.Lines.{at-lines, lines-all}
use Rattle.points_check.proofs.cells_in_range.Goals as goal

pub returns : goal.returns
returns c =
    let a = c.args in
    all_from_yields_List (λ i. cell_in_range (cell_at a.s.now (a.w * i + a.at))) _ _ _ c.all.ensures.ran (YieldsList-from_range 0 a.n a.n refl (omega arith)) (λ x b q k. search (rules, tests))
    ∙ lines-all (at-lines a.s.now a.w a.at a.n) cell_in_range _ (λ i h. refl)
