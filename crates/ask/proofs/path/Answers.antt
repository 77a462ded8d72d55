-- The refusals in order, then the rows of the occupied cells.
use Rattle.component.specs.Stored.{stored}
use Rattle.model.specs.Questions.{path_between}
use Rattle.layout.specs.State.{decode, cell_count, cell_words}
use Rattle.lists.specs.Told.{path_from}
use Rattle.ask.specs.Answers.{cells_refusal, path_of}
use Rattle.ask.specs.Laws.Listings.{path-answered}
use Rattle.ask.specs.Laws.Ways.{listing-ends, cells-not8}
use Rattle.layout.specs.Rows.{cells_in}
use Rattle.neighbourhood.specs.Standing.{Cells}
use mathlib.Core.Path.{subst, ap, ◌∙◌}
use Rattle.ask.proofs.path.Goals as goal

pub returns-in_err-state : goal.returns-in_err-state
unfolding path_of
returns-in_err-state c =
    let w = c.args.state.now in
    let a = c.args.from in
    let b = c.args.to in
    listing-ends (cells_refusal w a b) _ c.in_err-state.ensures.answer (cells-not8 w a b) c.args.answer.now (path_from (path_between (decode w) (stored a) (stored b)) c.args.answer.now) c.from_residual.result c.from_residual.ensures.1

pub returns : goal.returns
returns c =
    let t = c.cells-n in
    path-answered c.args.state.now c.args.from c.args.to c.args.answer.now c.in_ok-state.ensures.answer t.result.1 t.result.0.now c.stored.result c.stored-2.result _ (t.ensures.count ∙ ap cell_count c.in_ok-state.ensures.same) (t.ensures.words ∙ ap cell_words c.in_ok-state.ensures.same) c.stored.ensures c.stored-2.ensures
    (c.give_path.ensures (decode c.args.state.now).kind
    (subst (λ w. Cells (decode w).kind t.result.0.now t.result.1 (cells_in t.result.1 t.result.0.now)) c.in_ok-state.ensures.same t.ensures.stand))
