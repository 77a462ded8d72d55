-- The answer of the path between two cells, by the rows of the occupied cells.
use Rattle.std.specs.Prelude.{ℕ, ◌*◌, ◌≤◌, ◌≡◌, refl, true, List, length, take}
use Rattle.std.proofs.Common.{sym, ◌∙◌, inl, inr}
use Rattle.std.proofs.Math.Path.{ap}
use Rattle.std.proofs.Math.Option.{Option}
use Rattle.model.specs.Lists.{keys}
use Rattle.model.specs.Cells.{Cell, below, touch_at}
use Rattle.model.specs.Shortest.{shown_path}
use Rattle.model.proofs.Laws.Tests.{T_false}
use Rattle.model.proofs.Laws.Orders.{cells}
use Rattle.model.proofs.Laws.Members.{of-hasnt}
use Rattle.model.proofs.Theorems.PathExact.{path-unoccupied}
use Rattle.std.specs.Prelude.{Err}
use Rattle.table.specs.Rows.{place_of, table4}
use Rattle.layout.specs.Widths.{cell_width, answer_width}
use Rattle.neighbourhood.specs.Standing.{Cells}
use Rattle.path.specs.Walks.{cells_of, shown_rows, Walked}
use Rattle.path.specs.Laws.Walking.{some-cells}
use Rattle.refusal.specs.Forms.{no_path}
use Rattle.told.specs.Told.{refused}
use Rattle.lists.specs.Told.{listed, there, path_from}
use Rattle.lists.proofs.Laws.Gives.{cells-listed}
use Rattle.lists.proofs.Laws.Occupied.{filled-take, missing_has}

module _ {kind : ℕ} (words : List ℕ) (n : ℕ) (t : List (Cell × ℕ)) (k : Cells kind words n t) where
  -- From or to a cell that is missing there is no path.
  pub path-from-missing : (a b : Cell) (i : ℕ) → Err i ≡ place_of below (keys (table4 cell_width n words)) a → (answer : List ℕ) → (refused no_path, answer) ≡ path_from (shown_path (touch_at kind) (keys t) a b) answer
  path-from-missing a b i e answer =
      ap (λ (o : Option (List Cell)). path_from o answer) (sym (path-unoccupied (touch_at kind) (keys t) a b (inl (of-hasnt cells (keys t) (T_false (missing_has words n t k a i e))))))

  pub path-to-missing : (a b : Cell) (i : ℕ) → Err i ≡ place_of below (keys (table4 cell_width n words)) b → (answer : List ℕ) → (refused no_path, answer) ≡ path_from (shown_path (touch_at kind) (keys t) a b) answer
  path-to-missing a b i e answer =
      ap (λ (o : Option (List Cell)). path_from o answer) (sym (path-unoccupied (touch_at kind) (keys t) a b (inr (of-hasnt cells (keys t) (T_false (missing_has words n t k b i e))))))

  module _ (from to : ℕ) (space space' : List ℕ) (r : ℕ) (w : Walked kind words n from to space r space' t) (answer : List ℕ) where
    -- The cells that are written are given.
    pub path-yes : (r ≡ 0 → ⊥) → answer_width * r ≤ length space' → listed true r (take (answer_width * r) space') answer ≡ path_from (shown_rows kind words t from to) answer
    path-yes h g =
        let o = shown_rows kind words t from to in
        cells-listed true r (answer_width * r) space' (there (cells_of o)) answer refl ((λ j. take (answer_width * w.number j) (w.written j)) ∙ filled-take space (cells_of o)) g refl
        ∙ ap (λ (x : Option (List Cell)). path_from x answer) (sym (some-cells o (λ z. h (w.number ∙ z))))
