-- Each row's mask is compared with that of its cell.
use native.Mathlib.Omega.{arith}
use mathlib.Core.Path.{refl, ◌∙◌}
use Prim.Native.Nat.{◌+◌, ◌*◌}
use lib.Dec.{eqb}
use lib.ListN.{get_or}
use Rattle.std.proofs.Common.{rules, tests}
use Rattle.std.proofs.lemmas.Iterator.{YieldsList-from_range, serves_from_Range}
use Rattle.std.proofs.lemmas.Iterator.Search.{all_from_yields_List}
use Rattle.model.specs.Lists.{keys}
use Rattle.model.specs.Cells.{touch_at}
use Rattle.model.specs.Masks.{mask_of}
use Rattle.table.specs.Rows.{cell, cell_at, table4}
use Rattle.table.specs.Laws.Images.{table-facts}
use Rattle.layout.specs.Widths.{cell_width, cell_mask}
use Rattle.points_check.specs.Laws.Lines.{lines-all}
use Rattle.masks_check.specs.Rows.{row_right}
use Rattle.masks_check.specs.Laws.{mask-lines}
use Rattle.masks_check.proofs.masks_right.Goals as goal

pub all-requires-clause-callable : goal.all-requires-clause-callable
all-requires-clause-callable c = let f = (table-facts cell cell_width c.args.m c.args.cells.now c.requires).fits in serves_from_Range (λ x q k. search (rules, tests)) (λ x low high. search rules)

pub returns : goal.returns
returns c =
    let a = c.args in
    let k = keys (table4 cell_width a.m a.cells.now) in
    all_from_yields_List (λ i. eqb (get_or a.cells.now (cell_width * i + cell_mask) 0) (mask_of (touch_at a.kind) k (cell_at a.cells.now (cell_width * i)))) _ _ _ c.all.ensures.ran (YieldsList-from_range 0 a.m a.m refl (omega arith)) (λ x b q k. search (rules, tests))
    ∙ lines-all (mask-lines a.m a.cells.now) (row_right a.kind k) _ (λ i h. refl)
