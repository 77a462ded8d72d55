-- Both cells are found, and the path is that between their rows.
use mathlib.Core.Path.{sym, ◌∙◌}
use Rattle.model.specs.Lists.{keys}
use Rattle.model.specs.Cells.{touch_at}
use Rattle.model.specs.Shortest.{shown_path}
use Rattle.layout.specs.Rows.{cells_in}
use Rattle.neighbourhood.proofs.Laws.Reads.{cells-table}
use Rattle.lists.specs.Told.{path_from}
use Rattle.lists.proofs.Laws.Occupied.{found-there, found-cell}
use Rattle.lists.proofs.Laws.Paths.{path-from-missing, path-to-missing}
use Rattle.lists.proofs.give_path.Goals as goal

pub find-requires : goal.find-requires
find-requires c = cells-table c.args.cells.now c.args.n (cells_in c.args.n c.args.cells.now) c.requires.0.1

pub find-requires-2 : goal.find-requires-2
find-requires-2 c = cells-table c.args.cells.now c.args.n (cells_in c.args.n c.args.cells.now) c.requires.0.1

pub returns-in_default : goal.returns-in_default
returns-in_default c = λ kind stands. path-to-missing c.args.cells.now c.args.n (cells_in c.args.n c.args.cells.now) stands c.args.a c.args.b c.in_default.field-0-1 (sym c.in_default.is-1 ∙ c.find-2.ensures) c.args.answer.now

pub returns-in_default-2 : goal.returns-in_default-2
returns-in_default-2 c = λ kind stands. path-from-missing c.args.cells.now c.args.n (cells_in c.args.n c.args.cells.now) stands c.args.a c.args.b c.in_default.field-0-0 (sym c.in_default.is-0 ∙ c.find.ensures) c.args.answer.now

pub path_between-requires : goal.path_between-requires
path_between-requires c =
    let w = c.args.cells.now in
    let t = cells_in c.args.n w in
    let stands = c.requires.0.1 in (
      c.requires.0,
      found-there w c.args.n t stands c.args.a c.in-Ok-Ok.from (sym c.in-Ok-Ok.is-0 ∙ c.find.ensures),
      found-there w c.args.n t stands c.args.b c.in-Ok-Ok.to (sym c.in-Ok-Ok.is-1 ∙ c.find-2.ensures),
      c.requires.1,
    )

pub returns : goal.returns
returns c =
    let w = c.args.cells.now in
    let t = cells_in c.args.n w in
    λ kind stands.
    let from = found-cell w c.args.n t stands c.args.a c.in-Ok-Ok.from (sym c.in-Ok-Ok.is-0 ∙ c.find.ensures) in
    let to = found-cell w c.args.n t stands c.args.b c.in-Ok-Ok.to (sym c.in-Ok-Ok.is-1 ∙ c.find-2.ensures) in
    c.path_between.ensures kind stands ∙ (λ k. path_from (shown_path (touch_at kind) (keys t) (from k) (to k)) c.args.answer.now)
