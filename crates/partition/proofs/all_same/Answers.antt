-- `all` of the standard library and of the model are one.
use Rattle.std.proofs.Common.{refl, rules, tests, ◌&&◌, eqb, get_or}
use Rattle.std.specs.List.{list_all}
use Rattle.std.proofs.lemmas.Iterator.{YieldsList-from_slice}
use Rattle.std.proofs.lemmas.Iterator.Search.{all_from_yields_List}
use Rattle.std.proofs.lemmas.List.Recursion.{same_from_clauses}
use Rattle.model.specs.Lists.{all}
use mathlib.Core.Path.{◌∙◌}
use Rattle.partition.proofs.all_same.Goals as goal

pub returns : goal.returns
returns c =
    let found = c.args.found.now in
    let same = eqb (get_or found 0 0) in
    all_from_yields_List same _ _ _ c.all.ensures.ran (YieldsList-from_slice found cc) (λ x b q k. search (rules, tests))
    ∙ same_from_clauses (list_all same) (all same) (λ x b. same x && b) refl (λ _ _. refl) (λ _ _. refl) found
