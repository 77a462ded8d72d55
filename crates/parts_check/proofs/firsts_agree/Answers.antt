use native.Mathlib.Omega.{arith}
use mathlib.Core.Path.{refl, ◌∙◌}
use Rattle.std.proofs.Common.{rules, tests}
use Rattle.std.proofs.lemmas.Iterator.{YieldsList-from_range}
use Rattle.std.proofs.lemmas.Iterator.Search.{all_from_yields_List}
use Rattle.parts_check.specs.Agree.{first_agrees}
use Rattle.points_check.specs.Laws.Lines.{counted-lines, lines-all}
use Rattle.parts_check.proofs.firsts_agree.Goals as goal

pub returns : goal.returns
returns c =
    let a = c.args in
    let agrees = first_agrees a.ids.now a.m a.marks.now in
    all_from_yields_List agrees _ _ _ c.all.ensures.ran (YieldsList-from_range 0 a.m a.m refl (omega arith)) (λ x b q k. search (rules, tests))
    ∙ lines-all (counted-lines a.m) agrees _ (λ i h. refl)
