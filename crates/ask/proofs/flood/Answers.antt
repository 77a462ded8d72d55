-- The refusals in order, then the rows of the occupied cells.
use Rattle.component.specs.Stored.{stored}
use Rattle.model.specs.Lists.{has}
use Rattle.model.specs.Cells.{same}
use Rattle.model.specs.Occupancy.{occupied}
use Rattle.model.specs.Questions.{flood_of as question}
use Rattle.layout.specs.State.{decode, cell_count, cell_words}
use Rattle.floods.specs.Told.{flooded, depth_of}
use Rattle.ask.specs.Answers.{cell_refusal, flood_of}
use Rattle.ask.specs.Laws.Listings.{flood-answered}
use Rattle.ask.specs.Laws.Ways.{flooding-ends, cell-not8}
use Rattle.layout.specs.Rows.{cells_in}
use Rattle.neighbourhood.specs.Standing.{Cells}
use mathlib.Core.Path.{subst, ap, ◌∙◌}
use Rattle.ask.proofs.flood.Goals as goal

pub returns-in_err-state : goal.returns-in_err-state
unfolding flood_of
returns-in_err-state c =
    let w = c.args.state.now in
    let a = c.args.answer.now in
    flooding-ends (cell_refusal w c.args.seed) _ c.in_err-state.ensures.answer (cell-not8 w c.args.seed) a
    (flooded (has same (occupied (decode w).occupancy) (stored c.args.seed)) (question (decode w) (stored c.args.seed) (depth_of c.args.depth) c.args.budget) a) c.from_residual.result c.from_residual.ensures.1

pub returns : goal.returns
returns c =
    let t = c.cells-n in
    flood-answered c.args.state.now c.args.seed c.args.answer.now c.in_ok-state.ensures.answer c.args.depth c.args.budget
    t.result.1 t.result.0.now c.stored.result _ (t.ensures.count ∙ ap cell_count c.in_ok-state.ensures.same) (t.ensures.words ∙ ap cell_words c.in_ok-state.ensures.same) c.stored.ensures (c.give_flood.ensures (decode c.args.state.now).kind
    (subst (λ w. Cells (decode w).kind t.result.0.now t.result.1 (cells_in t.result.1 t.result.0.now)) c.in_ok-state.ensures.same t.ensures.stand))
