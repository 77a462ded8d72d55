-- The cells of the path are written aside and given, or there is none.
use Prim.Native.Nat.{ℕ, ◌*◌, ◌≤◌, ◌<◌}
use native.Mathlib.Omega.{arith}
use mathlib.Core.Path.{◌≡◌, ◌∙◌}
use mathlib.Core.List.{List}
use lib.ListN.{length, replicate}
use Rattle.std.specs.Prelude.{Some}
use Rattle.std.proofs.lemmas.Option.{MatchOption-at_some}
use Rattle.model.specs.Update.{most_cells}
use Rattle.layout.specs.Rows.{cells_in}
use Rattle.layout.specs.Widths.{answer_width}
use Rattle.neighbourhood.specs.Standing.{Cells}
use Rattle.path.specs.Walks.{Walked}
use Rattle.lists.proofs.Laws.Paths.{path-yes}
use Rattle.lists.proofs.path_between.Goals as goal

pub returns : goal.returns
returns c =
    let a = c.args in
    let t = cells_in a.n a.cells.now in
    let k : ℕ = c.in_ok-k.k in
    let space : List ℕ = replicate (answer_width * most_cells) 0 in
    let e : c.path_rows.result ≡ Some k = c.in_ok-k.ensures.ok_part in
    let walked : (kind : ℕ) → Cells kind a.cells.now a.n t → Walked kind a.cells.now a.n a.from a.to space k c.path_rows.new.answer t × (0 < k) = λ kind stands. MatchOption-at_some _ _ k e (c.path_rows.ensures kind t stands) in
    let few = (walked c.requires.0.0 c.requires.0.1).0.few in
    let long : answer_width * k ≤ length c.path_rows.new.answer = omega (arith, few, c.requires.3, c.path_rows.auto.answer) in
    λ kind stands.
    let w = walked kind stands in
    c.give.ensures ∙ path-yes a.cells.now a.n t stands a.from a.to space _ k w.0 a.answer.now (λ z. omega (arith, z, w.1)) long
