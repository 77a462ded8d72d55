-- The group is that of the row that is found.
use mathlib.Core.Path.{◌∙◌, sym, ap}
use mathlib.Core.Option.{some}
use borrow.Author.Rules.{rules}
use Rattle.told.specs.Told.{maybe, seen}
use Rattle.lookups.specs.declared.Shown.{Shown}
use Rattle.lookups.specs.Told.{shown_of}
use Rattle.lookups.specs.Laws.Finds.{row-found, row-missing, group-inside, group-found, group-missing}
use Rattle.lookups.proofs.find_group.Goals as goal

pub returns-in_err-i : goal.returns-in_err-i
returns-in_err-i c =
    let m = row-missing c.find.result c.ok.result c.ok.ensures.value c.in_err-i.was in
    ap maybe c.from_residual.ensures
    ∙ ap (seen shown_of) (sym (group-missing c.args.n c.args.rows.now c.args.id m.0 c.requires (m.1 ∙ c.find.ensures)))

pub overflow_mul-i : goal.overflow_mul-i
overflow_mul-i c = let f = group-inside c.args.n c.args.rows.now c.args.id c.in_ok-i.i c.requires (row-found c.find.result c.ok.result c.in_ok-i.i c.ok.ensures.value c.in_ok-i.was ∙ c.find.ensures) in search rules

pub shown_at-requires : goal.shown_at-requires
shown_at-requires c = group-inside c.args.n c.args.rows.now c.args.id c.in_ok-i.i c.requires (row-found c.find.result c.ok.result c.in_ok-i.i c.ok.ensures.value c.in_ok-i.was ∙ c.find.ensures)

pub returns : goal.returns
returns c =
    ap (λ (g : Shown). some g) c.shown_at.ensures
    ∙ ap (seen shown_of) (sym (group-found c.args.n c.args.rows.now c.args.id c.in_ok-i.i c.requires (row-found c.find.result c.ok.result c.in_ok-i.i c.ok.ensures.value c.in_ok-i.was ∙ c.find.ensures)))
