-- The number stands in the row that is found.
use mathlib.Core.Path.{◌∙◌, sym, ap}
use borrow.Author.Rules.{rules}
use Rattle.told.specs.Told.{maybe}
use Rattle.lookups.specs.Laws.Finds.{row-found, row-missing, cell-inside, number-found, number-missing}
use Rattle.lookups.proofs.number_under.Goals as goal

pub returns-in_err-i : goal.returns-in_err-i
returns-in_err-i c =
    let m = row-missing c.find.result c.ok.result c.ok.ensures.value c.in_err-i.was in
    ap maybe c.from_residual.ensures ∙ sym (number-missing c.args.n c.args.rows.now c.args.c m.0 c.requires (m.1 ∙ c.find.ensures))

pub overflow_mul-result : goal.overflow_mul-result
overflow_mul-result c = let f = cell-inside c.args.n c.args.rows.now c.args.c c.in_ok-i.i c.requires (row-found c.find.result c.ok.result c.in_ok-i.i c.ok.ensures.value c.in_ok-i.was ∙ c.find.ensures) in search rules

pub overflow_add-result : goal.overflow_add-result
overflow_add-result c = let f = cell-inside c.args.n c.args.rows.now c.args.c c.in_ok-i.i c.requires (row-found c.find.result c.ok.result c.in_ok-i.i c.ok.ensures.value c.in_ok-i.was ∙ c.find.ensures) in search rules

pub offset_bounds-rows-i : goal.offset_bounds-rows-i
offset_bounds-rows-i c = let f = cell-inside c.args.n c.args.rows.now c.args.c c.in_ok-i.i c.requires (row-found c.find.result c.ok.result c.in_ok-i.i c.ok.ensures.value c.in_ok-i.was ∙ c.find.ensures) in search rules

pub bounds-rows-i : goal.bounds-rows-i
bounds-rows-i c = let f = cell-inside c.args.n c.args.rows.now c.args.c c.in_ok-i.i c.requires (row-found c.find.result c.ok.result c.in_ok-i.i c.ok.ensures.value c.in_ok-i.was ∙ c.find.ensures) in search rules

pub returns : goal.returns
returns c = sym (number-found c.args.n c.args.rows.now c.args.c c.in_ok-i.i c.requires (row-found c.find.result c.ok.result c.in_ok-i.i c.ok.ensures.value c.in_ok-i.was ∙ c.find.ensures))
