use native.Mathlib.Omega.{arith}
use mathlib.Core.Path.{refl, ◌∙◌}
use Prim.Native.Nat.{◌+◌, ◌*◌}
use lib.Dec.{ltb}
use lib.ListN.{get_or}
use Rattle.std.proofs.Common.{rules, tests}
use Rattle.std.proofs.lemmas.Iterator.{YieldsList-from_range}
use Rattle.std.proofs.lemmas.Iterator.Search.{all_from_yields_List}
use Rattle.layout.specs.Widths.{id_width, cell_id}
use Rattle.points_check.specs.Laws.Readings.{id-lines}
use Rattle.points_check.specs.Laws.Lines.{lines-all}
use Rattle.points_check.proofs.ids_below.Goals as goal

pub returns : goal.returns
returns c =
    let a = c.args in
    all_from_yields_List (λ i. ltb (get_or a.ids.now (id_width * i + cell_id) 0) a.next) _ _ _ c.all.ensures.ran (YieldsList-from_range 0 a.n a.n refl (omega arith)) (λ x b q k. search (rules, tests))
    ∙ lines-all (id-lines a.n a.ids.now) (λ g. ltb g a.next) _ (λ i h. refl)
