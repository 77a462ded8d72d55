use Rattle.parts_check.specs.Laws.Agreement.{agreement, unmarked}
use Rattle.model.specs.Update.{most_cells}
use Rattle.neighbourhood.proofs.Laws.Reads.{cells-keys}
use mathlib.Core.Path.{◌∙◌}
use Rattle.parts_check.proofs.parts_right.Goals as goal

pub mark_parts-requires : goal.mark_parts-requires
mark_parts-requires c = let s = c in unmarked s.args.cells.now s.args.m most_cells s.requires.0 s.requires.3

pub returns : goal.returns
returns c =
    let s = c in
    λ kind t k.
    c.firsts_agree.ensures
    ∙ agreement s.args.cells.now s.args.m t k s.args.ids.now _ (s.requires.1 ∙ cells-keys s.args.cells.now s.args.m t k)
    (c.mark_parts.ensures kind t k)
