-- The centre, then the cells beside it, are its neighbours in order.
use Prim.Native.Nat.{◌+◌, ◌*◌, ◌≤◌}
use native.Mathlib.Omega.{arith}
use mathlib.Core.Bool.{Bool, cond}
use mathlib.Core.List.{List, [], ◌∷◌, ◌++◌}
use mathlib.Core.Path.{◌≡◌, refl, sym, ap, ◌∙◌}
use lib.ListN.{length, take, replicate}
use Rattle.component.specs.Laws.Adjacent.{range-above}
use Rattle.component.specs.Laws.Range.{in-range-axes}
use Rattle.model.specs.Questions.{cube}
use Rattle.model.specs.Cells.{Cell, same}
use Rattle.model.specs.Lists.{keep, keys, gather, has}
use Rattle.model.specs.Update.{most_cells}
use Rattle.layout.specs.Rows.{cells_in}
use Rattle.layout.specs.Widths.{answer_width}
use Rattle.neighbourhood.proofs.Laws.Reads.{cells-table, cells-keys}
use Rattle.neighbourhood.specs.Answers.{answer_words}
use Rattle.neighbourhood.specs.Beside.{beside}
use Rattle.lists.proofs.Laws.Cubes.{cube-words, first-words}
use Rattle.lists.proofs.Laws.Gives.{cells-listed}
use Rattle.lists.specs.Parts.{having}
use Rattle.lists.proofs.give_cube.Goals as goal
use Rattle.lists.proofs.give_cube.Goals.{then-found, else-found}

pub contains-found-requires : goal.contains-found-requires
contains-found-requires c = cells-table c.args.cells.now c.args.n (cells_in c.args.n c.args.cells.now) c.requires.0.1

pub cube_into-k-requires : goal.cube_into-k-requires
cube_into-k-requires c =
    let few : c.if-found.from ≤ 1 = elim c.if-found.branch [ then-found w ↦ omega (arith, w.from-is) | else-found w ↦ omega (arith, w.from-is) ] in (
      cells-table c.args.cells.now c.args.n (cells_in c.args.n c.args.cells.now) c.requires.0.1,
      omega (arith, (in-range-axes c.args.c c.requires.1).z.1, c.ranges.radius),
      omega (arith, c.requires.2, few, c.if-found.array_long),
    )

pub returns : goal.returns
returns c =
    let cells = c.args.cells.now in
    let r = c.args.radius in
    let t = cells_in c.args.n cells in
    let stands = c.requires.0.1 in
    let f = c.contains-found.result in
    let j = c.if-found in
    let k = c.cube_into-k in
    let front : take (answer_width * j.from) j.words ≡ gather answer_words (cond f (c.args.c ∷ []) []) =
    elim j.branch [
      | then-found w ↦
          (λ i. take (answer_width * w.from-is i) (w.words-is i))
          ∙ first-words (replicate (answer_width * most_cells + answer_width) 0) w.write_cell.new.answer c.args.c w.write_cell.ensures
          ∙ ap (λ (b : Bool). gather answer_words (cond b (c.args.c ∷ []) [])) (sym w.if-found.true)
      | else-found w ↦
          (λ i. take (answer_width * w.from-is i) j.words)
          ∙ ap (λ (b : Bool). gather answer_words (cond b (c.args.c ∷ []) [])) (sym w.if-found.false)
    ] in
    let here : f ≡ has same (keys t) c.args.c = c.contains-found.ensures ∙ ap (λ (l : List Cell). has same l c.args.c) (cells-keys cells c.args.n t stands) in
    let few : j.from ≤ 1 = elim j.branch [ then-found w ↦ omega (arith, w.from-is) | else-found w ↦ omega (arith, w.from-is) ] in
    let long : answer_width * k.result ≤ length k.new.words = omega (arith, k.auto.words, j.array_long, k.ensures.0, few, c.requires.2) in
    c.give.ensures
    ∙ cells-listed f k.result (answer_width * k.result) k.new.words (cube (having t) c.args.c r) c.args.answer.now here
    (k.ensures.1
    ∙ (λ i. front i ++ gather answer_words (keep (beside r c.args.c) (cells-keys cells c.args.n t stands i)))
    ∙ cube-words r c.args.c (range-above r c.args.c (omega (arith, c.ranges.radius)) c.requires.1) t stands.asc f (sym here))
    long refl
