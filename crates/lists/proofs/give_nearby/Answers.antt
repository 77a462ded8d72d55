-- The row that is found has the cell and its list; they are few.
use Prim.Native.Nat.{ℕ, ◌*◌, ◌≤◌}
use native.Mathlib.Omega.{arith}
use mathlib.Core.Bool.{true, false}
use mathlib.Core.List.{List, []}
use mathlib.Core.Path.{refl, sym, ◌∙◌}
use lib.ListN.{length, replicate, length-replicate}
use lib.Seq.{length-take-le}
use borrow.Author.Rules.{rules}
use Rattle.model.specs.Questions.{nearby_by}
use Rattle.model.specs.Cells.{touch_at}
use Rattle.model.specs.Update.{most_cells}
use Rattle.layout.specs.Rows.{cells_in}
use Rattle.layout.specs.Widths.{answer_width}
use Rattle.neighbourhood.proofs.Laws.Reads.{cells-table}
use Rattle.lists.proofs.Laws.Occupied.{found-has, missing_has, nearby-asked, nearby-few, nearby-words, missing-words}
use Rattle.lists.proofs.Laws.Gives.{cells-listed}
use Rattle.lists.specs.Parts.{having}
use Rattle.lists.proofs.give_nearby.Goals as goal

pub find-requires : goal.find-requires
find-requires c = cells-table c.args.cells.now c.args.n (cells_in c.args.n c.args.cells.now) c.requires.1

pub nearby_into-k-requires : goal.nearby_into-k-requires
nearby_into-k-requires c =
    nearby-asked c.args.cells.now c.args.n (cells_in c.args.n c.args.cells.now) c.requires.1 c.args.c c.in-Ok.i (sym c.in-Ok.is ∙ c.find.ensures) (replicate (answer_width * most_cells) 0) (omega (arith, length-replicate {A = ℕ} (answer_width * most_cells) 0))

pub overflow_mul-words : goal.overflow_mul-words
overflow_mul-words c =
    let h = nearby-few c.args.cells.now c.args.n (cells_in c.args.n c.args.cells.now) c.requires.1 c.args.c c.in-Ok.i (sym c.in-Ok.is ∙ c.find.ensures) (replicate (answer_width * most_cells) 0) c.nearby_into-k.new.answer c.nearby_into-k.result (c.nearby_into-k.ensures c.requires.0 (cells_in c.args.n c.args.cells.now) c.requires.1) in
    search rules

pub slice_bounds-words-end : goal.slice_bounds-words-end
slice_bounds-words-end c =
    let h = nearby-few c.args.cells.now c.args.n (cells_in c.args.n c.args.cells.now) c.requires.1 c.args.c c.in-Ok.i (sym c.in-Ok.is ∙ c.find.ensures) (replicate (answer_width * most_cells) 0) c.nearby_into-k.new.answer c.nearby_into-k.result (c.nearby_into-k.ensures c.requires.0 (cells_in c.args.n c.args.cells.now) c.requires.1) in
    omega (arith, h, c.nearby_into-k.auto.answer)

pub slice_bounds-give-end : goal.slice_bounds-give-end
slice_bounds-give-end c =
    let h = nearby-few c.args.cells.now c.args.n (cells_in c.args.n c.args.cells.now) c.requires.1 c.args.c c.in-Ok.i (sym c.in-Ok.is ∙ c.find.ensures) (replicate (answer_width * most_cells) 0) c.nearby_into-k.new.answer c.nearby_into-k.result (c.nearby_into-k.ensures c.requires.0 (cells_in c.args.n c.args.cells.now) c.requires.1) in
    let long : answer_width * c.nearby_into-k.result ≤ length c.nearby_into-k.new.answer = omega (arith, h, c.nearby_into-k.auto.answer) in
    sym (length-take-le (answer_width * c.nearby_into-k.result) c.nearby_into-k.new.answer long)

pub returns-in-Ok : goal.returns-in-Ok
returns-in-Ok c =
    let w = c.args.cells.now in
    let t = cells_in c.args.n w in
    let i = c.in-Ok.i in
    let at = sym c.in-Ok.is ∙ c.find.ensures in
    let space : List ℕ = replicate (answer_width * most_cells) 0 in
    let k = c.nearby_into-k in
    let h : answer_width * k.result ≤ 108 = nearby-few w c.args.n t c.requires.1 c.args.c i at space k.new.answer k.result (k.ensures c.requires.0 t c.requires.1) in
    let long : answer_width * k.result ≤ length k.new.answer = omega (arith, h, k.auto.answer) in
    λ kind stands.
    c.give.ensures
    ∙ cells-listed true k.result (answer_width * k.result) k.new.answer (nearby_by (touch_at kind) (having t) c.args.c) c.args.answer.now
    (sym (found-has w c.args.n t stands c.args.c i at))
    (nearby-words w c.args.n t stands c.args.c i at space k.new.answer k.result (k.ensures kind t stands))
    long refl

pub returns-in-Err : goal.returns-in-Err
returns-in-Err c =
    let w = c.args.cells.now in
    let t = cells_in c.args.n w in
    let at = sym c.in-Err.is ∙ c.find.ensures in
    λ kind stands.
    c.give-in-Err.ensures
    ∙ cells-listed false 0 0 [] (nearby_by (touch_at kind) (having t) c.args.c) c.args.answer.now
    (sym (missing_has w c.args.n t stands c.args.c c.in-Err.field-0 at))
    (missing-words w c.args.n t stands c.args.c c.in-Err.field-0 at) (omega arith) refl
