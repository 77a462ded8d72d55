use native.Mathlib.Omega.{arith}
use mathlib.Core.Path.{refl, ◌∙◌}
use Prim.Native.Nat.{◌*◌}
use Rattle.std.proofs.Common.{rules, tests}
use Rattle.std.proofs.lemmas.Iterator.{YieldsList-from_range}
use Rattle.std.proofs.lemmas.Iterator.Search.{all_from_yields_List}
use Rattle.model.specs.Cells.{same}
use Rattle.table.specs.Rows.{cell_at}
use Rattle.layout.specs.Widths.{cell_width, id_width}
use Rattle.points_check.specs.Laws.Readings.{key-lines}
use Rattle.points_check.specs.Laws.Lines.{lines-equal}
use Rattle.points_check.proofs.same_cells.Goals as goal

pub returns : goal.returns
returns c =
    let a = c.args in
    all_from_yields_List (λ i. same (cell_at a.ids.now (id_width * i)) (cell_at a.cells.now (cell_width * i))) _ _ _ c.all.ensures.ran (YieldsList-from_range 0 a.n a.n refl (omega arith)) (λ x b q k. search (rules, tests))
    ∙ lines-equal same (key-lines id_width a.n a.ids.now (omega arith)) (key-lines cell_width a.n a.cells.now (omega arith)) _ (λ i h. refl)
