-- The entities of each row are counted, or some entity's cell has no row.
use Prim.Native.Nat.{ℕ, zero, suc}
use native.Mathlib.Omega.{arith}
use mathlib.Core.Bool.{not, ◌&&◌, ◌||◌}
use mathlib.Core.List.{List, [], ◌∷◌}
use mathlib.Core.Path.{◌≡◌, refl, sym, ap, ◌∙◌}
use borrow.Author.Tests.{lt-ltb}
use lib.Dec.{eqb, ltb}
use lib.ListN.{take}
use Rattle.std.specs.List.{list_any}
use Rattle.std.proofs.Math.Dec.{eqb-suc-zero}
use Rattle.model.specs.Lists.{all, values}
use Rattle.model.specs.Update.{most_cells}
use Rattle.layout.specs.Rows.{entities_in}
use Rattle.points_check.specs.Laws.Marks.{counted-marked, stood-no, stood-yes}
use Rattle.points_check.proofs.stood_in.Goals as goal

none_zero : (l : List ℕ) → not (list_any (λ k. eqb k 0) l) ≡ all (ltb 0) l
none_zero [] = refl
none_zero (zero ∷ l) = refl
none_zero (suc k ∷ l) = (λ i. not (eqb-suc-zero k i || list_any (λ n. eqb n 0) l)) ∙ none_zero l ∙ (λ i. sym (lt-ltb 0 (suc k) (omega arith)) i && all (ltb 0) l)

pub returns-in-Some : goal.returns-in-Some
returns-in-Some c =
    let a = c.args in
    let q = c.in-Some.ensures in
    stood-yes a.cells.now a.m c.requires.0 most_cells q.0 q.2 c.requires.2 (counted-marked q.1) (ap not c.contains.ensures.value ∙ none_zero (take a.m c.in-Some.counts))

pub returns-in-None : goal.returns-in-None
returns-in-None c = let a = c.args in sym (stood-no a.cells.now a.m c.requires.0 (values (entities_in a.n a.ents.now)) c.in-None.ensures)
