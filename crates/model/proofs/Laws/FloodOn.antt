-- A flood from a cell of a grid depends only on what stands on that grid.
use Rattle.std.specs.Prelude.{ℕ, ◌≡◌, refl, Bool, List, T, leb, length, take}
use Rattle.std.proofs.Common.{sym, ◌∙◌, ap}
use Rattle.std.proofs.Math.Option.{none, some}
use Rattle.model.specs.Lists.{keep}
use Rattle.model.specs.Cells.{Cell}
use Rattle.model.specs.Occupancy.{Occupancy, occupied}
use Rattle.model.specs.Flood.{whole_flood, Depth, within_depth, flood_cells, flood_within, flood}
use Rattle.model.specs.Runs.{on_grid}
use Rattle.model.proofs.Laws.Members.{keep-swap}
use Rattle.model.proofs.Laws.Touching.{Touching}
use Rattle.model.specs.Facts.{Sound}
use Rattle.model.proofs.Laws.Floods.{flood-cells-once}
use Rattle.model.proofs.Laws.Reaching.{whole-on}
use Rattle.model.proofs.Laws.OnGrid.{viewed, stays_on, occupied-on}

-- The cells of a set that a flood goes over are those that a flood over the set goes over.
cells-on : (set : Cell → Bool) (depth : Depth) (seed : Cell) (l : List Cell) → keep set (flood_cells depth seed l) ≡ flood_cells depth seed (keep set l)
cells-on set none seed l = refl
cells-on set (some d) seed l = keep-swap set (within_depth d seed) l

-- A flood from a cell of the grid.
pub flood-on : (touch : Cell → Cell → Bool) → Touching touch → (grid : ℕ) (o : Occupancy) → Sound touch o → (seed : Cell) → T (on_grid grid seed) → (depth : Depth) (budget : ℕ) → flood touch o seed depth budget ≡ flood touch (viewed grid o) seed depth budget
flood-on touch laws grid o ok seed u depth budget =
    let e : flood_within touch o seed depth ≡ flood_within touch (viewed grid o) seed depth =
    whole-on touch (on_grid grid) (stays_on laws grid) (flood_cells depth seed (occupied o)) (flood-cells-once touch o ok depth seed) seed u
    ∙ ap (λ l. whole_flood touch l seed) (cells-on (on_grid grid) depth seed (occupied o) ∙ ap (flood_cells depth seed) (sym (occupied-on grid o))) in
    λ i. record { cells = take budget (e i); number = length (take budget (e i)); was_all = leb (length (e i)) budget }
