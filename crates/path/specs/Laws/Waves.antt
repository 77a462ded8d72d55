-- A wave over rows of which none is marked, and what the walk after it is asked.
use Rattle.std.specs.Prelude.{ℕ, ◌*◌, ◌≤◌, ◌<◌, ◌≡◌, refl, List, length, get_or, replicate}
use Rattle.std.proofs.Common.{arith}
use Rattle.std.proofs.lemmas.List.{length-replicate, get_or-replicate}
use Rattle.model.specs.Update.{most_cells}
use Rattle.neighbourhood.specs.Standing.{HasTable, Floodable, Levels, Flooded}
use Rattle.layout.specs.Widths.{answer_width}
use Rattle.path.specs.Walks.{Walkable}

module _ (words : List ℕ) (n to : ℕ) (s : HasTable words n) (h : to < n) (m : ℕ) (g : n ≤ m) where
  -- Of some zeros each is 0.
  clear : (j : ℕ) → j < n → get_or {A = ℕ} (replicate m 0) j 0 ≡ 0
  clear j f = get_or-replicate m j 0 0 (omega arith)

  -- A wave can begin with no row marked.
  pub wave-asks : n ≤ most_cells → Floodable words n to 1 1 (replicate m 0) (replicate m 0)
  wave-asks f =
      record {
        kind = s.kind;
        table = s.table;
        cells = s.cells;
        seeded = h;
        unmarked = clear to h;
        labelled = λ e. omega arith;
        small = omega arith;
        marks_fit = omega (arith, length-replicate {A = ℕ} m 0);
        queue_fits = omega (arith, length-replicate {A = ℕ} m 0);
      }

  module _ {kind : ℕ} (r : ℕ) (marks queue : List ℕ) (w : Flooded kind words n to 1 1 (replicate m 0) (replicate m 0) r marks queue) where
    -- It leaves the distances.
    pub wave-levels : Levels words n to marks
    wave-levels = w.levels refl refl clear

    -- The walk can be taken then, into space for as many cells as there are rows.
    pub walk-asks : (from : ℕ) (answer : List ℕ) → from < n → answer_width * n ≤ length answer → Walkable words n marks from to answer
    walk-asks from answer f e =
        record {
          stands = s;
          starts = f;
          ends = h;
          levels = wave-levels;
          fits = omega (arith, w.marks_kept, length-replicate {A = ℕ} m 0);
          space = omega (arith, wave-levels.few from f);
        }
