-- The number under the cell is its mask.
use Prim.Native.Nat.{ℕ}
use mathlib.Core.List.{List}
use mathlib.Core.Path.{◌∙◌, sym, ap}
use Rattle.model.specs.Cells.{Cell, same}
use Rattle.model.specs.Lists.{get}
use Rattle.model.specs.Questions.{ones_of}
use Rattle.lookups.specs.Laws.Finds.{cells-rows, count-found}
use Rattle.lookups.proofs.find_count.Goals as goal

pub returns : goal.returns
returns c =
    count-found c.number_under.result c.map.result c.map.ensures.cases
    ∙ ap ones_of (c.number_under.ensures ∙ ap (λ (t : List (Cell × ℕ)). get same t c.args.c) (sym (cells-rows c.args.n c.args.rows.now)))
