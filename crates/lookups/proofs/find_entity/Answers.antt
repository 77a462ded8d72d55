-- The entity stands in the cell of the row that is found.
use mathlib.Core.Path.{◌∙◌, sym, ap}
use mathlib.Core.Option.{some}
use borrow.Author.Rules.{rules}
use Rattle.component.specs.declared.CellId.{CellId}
use Rattle.component.specs.Stored.{cell_id}
use Rattle.told.specs.Told.{maybe, seen}
use Rattle.lookups.specs.Laws.Finds.{row-found, row-missing, entity-inside, entity-found, entity-missing}
use Rattle.lookups.proofs.find_entity.Goals as goal

pub returns-in_err-i : goal.returns-in_err-i
returns-in_err-i c =
    let m = row-missing c.find.result c.ok.result c.ok.ensures.value c.in_err-i.was in
    ap maybe c.from_residual.ensures
    ∙ ap (seen cell_id) (sym (entity-missing c.args.n c.args.rows.now c.args.entity m.0 c.requires (m.1 ∙ c.find.ensures)))

pub overflow_mul-i : goal.overflow_mul-i
overflow_mul-i c = let f = entity-inside c.args.n c.args.rows.now c.args.entity c.in_ok-i.i c.requires (row-found c.find.result c.ok.result c.in_ok-i.i c.ok.ensures.value c.in_ok-i.was ∙ c.find.ensures) in search rules

pub overflow_add-i : goal.overflow_add-i
overflow_add-i c = let f = entity-inside c.args.n c.args.rows.now c.args.entity c.in_ok-i.i c.requires (row-found c.find.result c.ok.result c.in_ok-i.i c.ok.ensures.value c.in_ok-i.was ∙ c.find.ensures) in search rules

pub cell_at-c-requires : goal.cell_at-c-requires
cell_at-c-requires c = let f = entity-inside c.args.n c.args.rows.now c.args.entity c.in_ok-i.i c.requires (row-found c.find.result c.ok.result c.in_ok-i.i c.ok.ensures.value c.in_ok-i.was ∙ c.find.ensures) in search rules

pub returns : goal.returns
returns c =
    ap (λ (d : CellId). some d) (c.cell_id.ensures ∙ ap cell_id c.cell_at-c.ensures)
    ∙ ap (seen cell_id) (sym (entity-found c.args.n c.args.rows.now c.args.entity c.in_ok-i.i c.requires (row-found c.find.result c.ok.result c.in_ok-i.i c.ok.ensures.value c.in_ok-i.was ∙ c.find.ensures)))
