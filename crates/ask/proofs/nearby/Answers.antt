-- The refusals in order, then the rows of the occupied cells.
use Rattle.component.specs.Stored.{stored}
use Rattle.model.specs.Questions.{nearby}
use Rattle.layout.specs.State.{decode, cell_count, cell_words}
use Rattle.lists.specs.Told.{listed_cells}
use Rattle.ask.specs.Answers.{cell_refusal, nearby_of}
use Rattle.ask.specs.Laws.Listings.{nearby-answered}
use Rattle.ask.specs.Laws.Ways.{listing-ends, cell-not8}
use Rattle.layout.specs.Rows.{cells_in}
use Rattle.neighbourhood.specs.Standing.{Cells}
use mathlib.Core.Path.{subst, ap, ◌∙◌}
use Rattle.ask.proofs.nearby.Goals as goal

pub returns-in_err-state : goal.returns-in_err-state
unfolding nearby_of
returns-in_err-state c =
    let w = c.args.state.now in
    listing-ends (cell_refusal w c.args.cell) _ c.in_err-state.ensures.answer (cell-not8 w c.args.cell) c.args.answer.now (listed_cells (nearby (decode w) (stored c.args.cell)) c.args.answer.now) c.from_residual.result c.from_residual.ensures.1

pub returns : goal.returns
returns c =
    let t = c.cells-n in
    nearby-answered c.args.state.now c.args.cell c.args.answer.now c.in_ok-state.ensures.answer t.result.1 t.result.0.now c.stored.result _ (t.ensures.count ∙ ap cell_count c.in_ok-state.ensures.same) (t.ensures.words ∙ ap cell_words c.in_ok-state.ensures.same) c.stored.ensures
    (c.give_nearby.ensures (decode c.args.state.now).kind
    (subst (λ w. Cells (decode w).kind t.result.0.now t.result.1 (cells_in t.result.1 t.result.0.now)) c.in_ok-state.ensures.same t.ensures.stand))
