-- The number under the cell is its id.
use mathlib.Core.List.{List}
use mathlib.Core.Path.{◌∙◌, sym, ap}
use Prim.Native.Nat.{ℕ}
use Rattle.model.specs.Cells.{Cell, same}
use Rattle.model.specs.Lists.{get}
use Rattle.lookups.specs.Laws.Finds.{ids-rows}
use Rattle.lookups.proofs.find_id.Goals as goal

pub returns : goal.returns
returns c = c.number_under.ensures ∙ ap (λ (t : List (Cell × ℕ)). get same t c.args.c) (sym (ids-rows c.args.n c.args.rows.now))
