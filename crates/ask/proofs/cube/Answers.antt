-- The refusals in order, then the rows of the occupied cells; the cell is in range.
use mathlib.Core.Path.{refl}
use mathlib.Core.Path.{ap, ◌∙◌}
use Rattle.component.specs.Stored.{stored}
use Rattle.component.specs.Range.{cell_in_range}
use Rattle.model.specs.Questions.{cube}
use Rattle.layout.specs.State.{decode, cell_count, cell_words}
use Rattle.lists.specs.Told.{listed_cells}
use Rattle.ask.specs.Answers.{cell_refusal, cube_of}
use Rattle.ask.specs.Laws.Listings.{cube-answered}
use Rattle.ask.specs.Laws.Ways.{listing-ends, cell-not8, range-by}
use Rattle.ask.proofs.cube.Goals as goal

pub returns-in_err-state : goal.returns-in_err-state
unfolding cube_of
returns-in_err-state c =
    let w = c.args.state.now in
    listing-ends (cell_refusal w c.args.cell) _ c.in_err-state.ensures.answer (cell-not8 w c.args.cell) c.args.answer.now (listed_cells (cube (decode w) (stored c.args.cell) c.args.radius) c.args.answer.now) c.from_residual.result c.from_residual.ensures.1

pub give_cube-requires : goal.give_cube-requires
give_cube-requires c =
    let t = c.cells-n.ensures in
    (((decode c.in_ok-state.state.words.now).kind, t.stand), ap cell_in_range c.stored.ensures ∙ (range-by c.args.state.now c.args.cell _ c.in_ok-state.ensures.answer refl).1, t.few)

pub returns : goal.returns
returns c =
    let t = c.cells-n in
    cube-answered c.args.state.now c.args.cell c.args.answer.now c.in_ok-state.ensures.answer c.args.radius t.result.1 t.result.0.now c.stored.result _ (t.ensures.count ∙ ap cell_count c.in_ok-state.ensures.same) (t.ensures.words ∙ ap cell_words c.in_ok-state.ensures.same) c.stored.ensures c.give_cube.ensures
