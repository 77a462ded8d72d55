-- How the occupied cells stand in words, and what a flood of rows is asked and promises.
use Rattle.std.specs.Prelude.{ℕ, suc, ◌+◌, ◌*◌, ◌≤◌, ◌<◌, ◌≡◌, cond, length, take, drop, get_or}
use mathlib.Core.List.{List, [], ◌∷◌, Memᴰ as Mem}
use Rattle.model.specs.Lists.{has, each, keep, keys, count}
use Rattle.model.specs.Cells.{Cell, same, below, touch_at}
use Rattle.model.specs.Masks.{touching, masked}
use Rattle.model.specs.Flood.{visit, within_depth}
use Rattle.model.specs.Facts.{Asc}
use Rattle.layout.specs.Widths.{cell_width}
use Rattle.layout.specs.Rows.{cells_image}
use Rattle.neighbourhood.specs.Rows.{row_cell, onward}
use Rattle.neighbourhood.specs.Fronts.{is_open}

-- The words hold n rows, the table t: its cells ascend, and each mask is exact for touching of the kind.
pub record Cells (kind : ℕ) (words : List ℕ) (n : ℕ) (t : List (Cell × ℕ)) : Type 0 where
  pub image : words ≡ cells_image (length words) t
  pub number : n ≡ length t
  pub fits : cell_width * n ≤ length words
  pub asc : Asc below (keys t)
  pub exact : t ≡ masked (touch_at kind) (keys t)

-- Some table stands in the words, for touching of some kind.
pub record HasTable (words : List ℕ) (n : ℕ) : Type 0 where
  pub kind : ℕ
  pub table : List (Cell × ℕ)
  pub cells : Cells kind words n table

-- The cells of the unmarked ones of n rows, ascending.
unfoldable pub open_cells : List ℕ → ℕ → List ℕ → List Cell
open_cells words n marks = each (row_cell words) (keep (is_open marks) (count 0 n))

-- The flood from a cell over the touching ones of some cells, by touching of a kind.
abbrev pub flood_from : ℕ → List Cell → Cell → List Cell
flood_from kind among c = visit (touching (touch_at kind) among) (length among) (c ∷ []) (c ∷ [])

-- What a flood from the row seed asks: a row that is there and unmarked, a label that marks, marks that stay words, and space.
pub record Floodable (words : List ℕ) (n seed label step : ℕ) (marks queue : List ℕ) : Type 0 where
  pub kind : ℕ
  pub table : List (Cell × ℕ)
  pub cells : Cells kind words n table
  pub seeded : seed < n
  pub unmarked : get_or marks seed 0 ≡ 0
  pub labelled : label ≡ 0 → ⊥
  pub small : label + step * n < 18446744073709551616
  pub marks_fit : n ≤ length marks
  pub queue_fits : n ≤ length queue

-- Each marked row is marked with one more than the fewest steps that lead to it from the row seed, of any row to one that it leads to.
pub record Levels (words : List ℕ) (n seed : ℕ) (marks : List ℕ) : Type 0 where
  pub first : get_or marks seed 0 ≡ 1
  pub alone : (j : ℕ) → j < n → get_or marks j 0 ≡ 1 → j ≡ seed
  pub back : (j d : ℕ) → j < n → get_or marks j 0 ≡ suc (suc d) → (i : ℕ) × (i < n) × Mem i (onward words n j) × (get_or marks i 0 ≡ suc d)
  pub close : (i j : ℕ) → i < n → Mem j (onward words n i) → (get_or marks i 0 ≡ 0 → ⊥) → (get_or marks j 0 ≡ 0 → ⊥) × (get_or marks j 0 ≤ suc (get_or marks i 0))
  pub few : (j : ℕ) → j < n → get_or marks j 0 ≤ n

-- What a flood from the row seed leaves: over the rows that were unmarked, r rows queued in the order of the flood, each of them marked,
-- and nothing else changed. With no step all marks are the label; from 1 by steps of 1 over unmarked rows they tell the distances.
pub record Flooded (kind : ℕ) (words : List ℕ) (n seed label step : ℕ) (marks queue : List ℕ) (r : ℕ) (marks' queue' : List ℕ) : Type 0 where
  pub number : r ≡ length (flood_from kind (open_cells words n marks) (row_cell words seed))
  pub few : r ≤ n
  pub order : each (row_cell words) (take r queue') ≡ flood_from kind (open_cells words n marks) (row_cell words seed)
  pub rows : (k : ℕ) → k < r → get_or queue' k 0 < n
  pub behind : drop r queue' ≡ drop r queue
  pub reached : step ≡ 0 → (j : ℕ) → j < n → get_or marks' j 0 ≡ cond (has same (flood_from kind (open_cells words n marks) (row_cell words seed)) (row_cell words j)) label (get_or marks j 0)
  pub levels : label ≡ 1 → step ≡ 1 → ((j : ℕ) → j < n → get_or marks j 0 ≡ 0) → Levels words n seed marks'
  pub beyond : drop n marks' ≡ drop n marks
  pub marks_kept : length marks' ≡ length marks
  pub queue_kept : length queue' ≡ length queue

-- What marking the rows outside a depth leaves: those of n rows whose cells are not within the depth of the seed are marked, and nothing
-- else changed.
pub record OutsideMarked (words : List ℕ) (n : ℕ) (seed : Cell) (depth : ℕ) (marks marks' : List ℕ) : Type 0 where
  pub rows : (j : ℕ) → j < n → get_or marks' j 0 ≡ cond (within_depth depth seed (row_cell words j)) (get_or marks j 0) 1
  pub beyond : drop n marks' ≡ drop n marks
  pub marks_kept : length marks' ≡ length marks
