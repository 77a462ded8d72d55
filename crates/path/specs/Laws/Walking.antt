-- The walk over nearer rows is the shown path.
use Prim.Native.Nat.{ℕ, zero, suc, ◌+◌, ◌-◌, ◌≤◌, ◌<◌}
use Rattle.std.proofs.Common.{le_of_suc-le-suc, not-suc-le-zero, ◌∙◌, inl, inr}
use native.Mathlib.Omega.{arith}
use Rattle.std.specs.Prelude.{◌≡◌, ◌⊎◌, Bool, length}
use Rattle.std.proofs.Math.Path.{refl, sym, ap, subst}
use Rattle.std.proofs.Math.Logic.{⊎_elim}
use mathlib.Core.List.Memᴰ.{head}
use mathlib.Core.List.Memᴰ.{not-nil as mem-nil}
use mathlib.Core.List.{List, [], ◌∷◌, Memᴰ as Mem}
use Rattle.std.proofs.Math.Option.{Option, none, some}
use Rattle.std.proofs.Math.Dec.{eqb→eq}
use Rattle.std.proofs.Math.ListN.{get_or}
use Rattle.model.specs.Lists.{keep, each, keys, has}
use Rattle.model.specs.Cells.{Cell, same, touch_at}
use Rattle.model.specs.Masks.{touching}
use Rattle.model.specs.Shortest.{first_or, steps_from, walk, step_numbers, walk_first, shown_path}
use Rattle.model.proofs.Laws.Tests.{same_test, eqb_of}
use Rattle.model.proofs.Laws.Orders.{cells}
use Rattle.model.proofs.Laws.Members.{keep-in, keep_out, keep-ext, keep-each, each-length, has_of, of-has, count-in}
use Rattle.model.proofs.Laws.Sorted.{keep-asc, asc-equal}
use Rattle.model.proofs.Laws.Kinds.{kind-touching}
use Rattle.model.proofs.Laws.Steps.{steps-occupied, steps-asc, walk-length, joined-steps, away-number, away-once, StepsAway}
use Rattle.model.proofs.Theorems.PathExact.{path-none}
use Rattle.neighbourhood.specs.Rows.{row_cell, onward}
use Rattle.neighbourhood.specs.Standing.{Cells, Levels}
use Rattle.neighbourhood.proofs.Laws.Lines.{each_at}
use Rattle.neighbourhood.proofs.Laws.Reads.{onward-cells, onward-under}
use Rattle.path.specs.Walks.{first_row, is_nearer, next_row, row_after, walk_rows, walk_cells, cells_of, shown_rows}
use Rattle.path.specs.Laws.Away.{onward-touch, touch-onward, mark-steps, steps-mark, mark-away}

-- Where a path has no cell there is none.
pub no_cells : (touch : Cell → Cell → Bool) (among : List Cell) (a b : Cell) → length (cells_of (shown_path touch among a b)) ≡ 0 → shown_path touch among a b ≡ none
no_cells touch among a b = go (step_numbers touch among b a)
  where
    go : (l : List ℕ) → length (cells_of (walk_first touch among b a l)) ≡ 0 → walk_first touch among b a l ≡ none
    go [] e = refl
    go (m ∷ l) e = absurd (omega (arith, walk-length touch among b m a))

-- Where it has cells it is there.
pub some-cells : (o : Option (List Cell)) → (length (cells_of o) ≡ 0 → ⊥) → o ≡ some (cells_of o)
some-cells none f = absurd (f refl)
some-cells (some p) f = refl

-- The first of some rows is one of them, or the given one.
first-row : (i : ℕ) (l : List ℕ) → Mem (first_row i l) l ⊎ (first_row i l ≡ i)
first-row i [] = inr refl
first-row i (j ∷ l) = inl (head refl)

-- Of rows with a member it is one of them.
first_of : (i : ℕ) (l : List ℕ) {j : ℕ} → Mem j l → Mem (first_row i l) l
first_of i [] m = absurd (mem-nil m)
first_of i (x ∷ l) m = head refl

-- Its cell is the first of their cells.
first_cell : (words : List ℕ) (i : ℕ) (l : List ℕ) → row_cell words (first_row i l) ≡ first_or (row_cell words i) (each (row_cell words) l)
first_cell words i [] = refl
first_cell words i (j ∷ l) = refl

module _ (words : List ℕ) (n : ℕ) (marks : List ℕ) where
  -- One row more of a walk.
  rows-after : (k c i : ℕ) → k < c → get_or (walk_rows words n marks c i) k 0 ≡ row_after words n marks k i
  unfolding walk_rows row_after
  rows-after k zero i h = absurd (not-suc-le-zero h)
  rows-after zero (suc c) i h = refl
  rows-after (suc k) (suc c) i h = rows-after k c (next_row words n marks i) (le_of_suc-le-suc h) ∙ shifted k i
    where
      shifted : (k i : ℕ) → row_after words n marks k (next_row words n marks i) ≡ next_row words n marks (row_after words n marks k i)
      shifted zero i = refl
      shifted (suc k) i = ap (next_row words n marks) (shifted k i)

  rows-count : (c i : ℕ) → length (walk_rows words n marks c i) ≡ c
  unfolding walk_rows
  rows-count zero i = refl
  rows-count (suc c) i = ap suc (rows-count c (next_row words n marks i))

  -- A walk has as many cells as its mark says.
  pub walk-count : (i : ℕ) → length (walk_cells words n marks i) ≡ get_or marks i 0
  unfolding walk_cells
  walk-count i = each-length (row_cell words) (walk_rows words n marks (get_or marks i 0) i) ∙ rows-count (get_or marks i 0) i

  -- Each is the cell of the row after as many steps.
  pub walk_at : (k i : ℕ) (d : Cell) → k < get_or marks i 0 → get_or (walk_cells words n marks i) k d ≡ row_cell words (row_after words n marks k i)
  unfolding walk_cells
  walk_at k i d h =
      each_at (row_cell words) (walk_rows words n marks (get_or marks i 0) i) k 0 d (omega (arith, rows-count (get_or marks i 0) i))
      ∙ ap (row_cell words) (rows-after k (get_or marks i 0) i h)

  -- No step is no step, and one more is one more.
  pub after_none : (i : ℕ) → row_after words n marks 0 i ≡ i
  unfolding row_after
  after_none i = refl

  pub after_more : (k i : ℕ) → next_row words n marks (row_after words n marks k i) ≡ row_after words n marks (k + 1) i
  unfolding row_after
  after_more k i = let e : suc k ≡ k + 1 = omega arith in ap (λ (m : ℕ). row_after words n marks m i) e

module _ {kind : ℕ} (words : List ℕ) (n : ℕ) (t : List (Cell × ℕ)) (k : Cells kind words n t) where
  -- The next row is there.
  pub next-there : (marks : List ℕ) (i : ℕ) → i < n → next_row words n marks i < n
  unfolding next_row
  next-there marks i h =
      ⊎_elim (λ m. onward-under words n t k i h (first_row i (keep (is_nearer marks i) (onward words n i))) (keep_out (is_nearer marks i) (onward words n i) m).0) (λ e. subst (λ j. j < n) (sym e) h)
      (first-row i (keep (is_nearer marks i) (onward words n i)))

  pub after-there : (marks : List ℕ) (d i : ℕ) → i < n → row_after words n marks d i < n
  unfolding row_after
  after-there marks zero i h = h
  after-there marks (suc d) i h = next-there marks (row_after words n marks d i) (after-there marks d i h)

  module _ (b : ℕ) (g : b < n) (marks : List ℕ) (w : Levels words n b marks) where
    -- The occupied cells from which d steps lead to row b.
    abbrev from : ℕ → List Cell
    from d = steps_from (touch_at kind) (keys t) (row_cell words b) d

    -- From a row with a mark above one the next row has one less.
    pub next-mark : (d i : ℕ) → i < n → get_or marks i 0 ≡ suc (suc d) → get_or marks (next_row words n marks i) 0 ≡ suc d
    unfolding next_row
    next-mark d i h e =
        let r = w.back i d h e in
        let z : get_or marks i 0 - 1 ≡ suc d = omega arith in
        let m = first_of i (keep (is_nearer marks i) (onward words n i)) (keep-in (is_nearer marks i) r.2 (eqb_of (get_or marks r.0 0) (get_or marks i 0 - 1) (r.3 ∙ sym z))) in
        eqb→eq _ _ (keep_out (is_nearer marks i) (onward words n i) m).1 ∙ z

    -- The mark counts the steps that are left.
    pub after-mark : (d i : ℕ) → i < n → d < get_or marks i 0 → get_or marks (row_after words n marks d i) 0 + d ≡ get_or marks i 0
    unfolding row_after
    after-mark zero i h f = omega arith
    after-mark (suc d) i h f = go (get_or marks (row_after words n marks d i) 0) refl (after-mark d i h (omega arith))
      where
        go : (m : ℕ) → get_or marks (row_after words n marks d i) 0 ≡ m → get_or marks (row_after words n marks d i) 0 + d ≡ get_or marks i 0 → get_or marks (next_row words n marks (row_after words n marks d i)) 0 + suc d ≡ get_or marks i 0
        go zero e r = absurd (omega arith)
        go (suc zero) e r = absurd (omega arith)
        go (suc (suc m)) e r = let q = next-mark m (row_after words n marks d i) (after-there marks d i h) e in omega arith

    module _ (d i : ℕ) (h : i < n) (e : get_or marks i 0 ≡ suc (suc d)) where
      -- A marked row that row i leads to is at most one step nearer.
      far : (j : ℕ) → Mem j (onward words n i) → 0 < get_or marks j 0 → get_or marks i 0 ≤ suc (get_or marks j 0)
      far j m p =
          let u = onward-under words n t k i h j m in
          (w.close j i u (touch-onward words n t k j i u h ((kind-touching kind).flip (row_cell words i) (row_cell words j) (onward-touch words n t k i j h m))) (λ z. omega arith)).1

      -- Of the rows that row i leads to, the nearer ones are those from which d steps lead to row b.
      nearer-steps : (j : ℕ) → Mem j (onward words n i) → has same (from d) (row_cell words j) ≡ is_nearer marks i j
      nearer-steps j m =
          let u = onward-under words n t k i h j m in
          same_test (has same (from d) (row_cell words j)) (is_nearer marks i j)
          (λ a. let p = steps-mark words n t k b g marks w d j u (of-has cells (from d) a) in eqb_of (get_or marks j 0) (get_or marks i 0 - 1) (omega (arith, p.1, far j m p.0)))
          (λ a. let q : get_or marks j 0 ≡ get_or marks i 0 - 1 = eqb→eq (get_or marks j 0) (get_or marks i 0 - 1) a in has_of cells (mark-steps words n t k b g marks w d j u (omega arith)))

      -- The cells that the path may go on to are the cells of those rows.
      choice-cells : keep (touch_at kind (row_cell words i)) (from d) ≡ each (row_cell words) (keep (is_nearer marks i) (onward words n i))
      choice-cells =
          asc-equal cells (keep (touch_at kind (row_cell words i)) (from d)) (keep (has same (from d)) (touching (touch_at kind) (keys t) (row_cell words i)))
          (keep-asc (touch_at kind (row_cell words i)) (from d) (steps-asc (touch_at kind) (keys t) (row_cell words b) k.asc d))
          (keep-asc (has same (from d)) (touching (touch_at kind) (keys t) (row_cell words i)) (keep-asc (touch_at kind (row_cell words i)) (keys t) k.asc))
          (λ c m. let q = keep_out (touch_at kind (row_cell words i)) (from d) m in keep-in (has same (from d)) (keep-in (touch_at kind (row_cell words i)) (steps-occupied (touch_at kind) (keys t) (row_cell words b) d q.0) q.1) (has_of cells q.0))
          (λ c m. let q = keep_out (has same (from d)) (touching (touch_at kind) (keys t) (row_cell words i)) m in keep-in (touch_at kind (row_cell words i)) (of-has cells (from d) q.1) (keep_out (touch_at kind (row_cell words i)) (keys t) q.0).1)
          ∙ ap (keep (has same (from d))) (sym (onward-cells words n t k i h))
          ∙ keep-each (row_cell words) (has same (from d)) (onward words n i)
          ∙ ap (each (row_cell words)) (keep-ext (λ j. has same (from d) (row_cell words j)) (is_nearer marks i) (onward words n i) nearer-steps)

      -- So the path goes on to the cell of the next row.
      next-cell : first_or (row_cell words i) (keep (touch_at kind (row_cell words i)) (from d)) ≡ row_cell words (next_row words n marks i)
      unfolding next_row
      next-cell = ap (first_or (row_cell words i)) choice-cells ∙ sym (first_cell words i (keep (is_nearer marks i) (onward words n i)))

    -- The cells of the walk are those of the path.
    walk-cells : (d i : ℕ) → i < n → get_or marks i 0 ≡ suc d → walk (touch_at kind) (keys t) (row_cell words b) d (row_cell words i) ≡ each (row_cell words) (walk_rows words n marks (suc d) i)
    unfolding walk_rows
    walk-cells zero i h e = refl
    walk-cells (suc d) i h e =
        ap (λ (c : Cell). row_cell words i ∷ walk (touch_at kind) (keys t) (row_cell words b) d c) (next-cell d i h e)
        ∙ ap (λ (l : List Cell). row_cell words i ∷ l) (walk-cells d (next_row words n marks i) (next-there marks i h) (next-mark d i h e))

    -- From an unmarked row no path is shown.
    pub shown-none : (a : ℕ) → a < n → get_or marks a 0 ≡ 0 → shown_rows kind words t a b ≡ none
    shown-none a h e =
        (path-none (touch_at kind) (keys t) (row_cell words a) (row_cell words b)).1
        (λ u. let r = joined-steps (touch_at kind) (keys t) (row_cell words b) u in omega (arith, (steps-mark words n t k b g marks w r.0 a h r.2).0))

    -- From a marked row the walk is shown.
    pub shown-walk : (d a : ℕ) → a < n → get_or marks a 0 ≡ suc d → shown_rows kind words t a b ≡ some (walk_cells words n marks a)
    unfolding walk_cells
    shown-walk d a h e = go (step_numbers (touch_at kind) (keys t) (row_cell words b) (row_cell words a)) refl
      where
        away : StepsAway (touch_at kind) (keys t) (row_cell words b) d (row_cell words a)
        away = mark-away words n t k b g marks w d a h e

        go : (l : List ℕ) → step_numbers (touch_at kind) (keys t) (row_cell words b) (row_cell words a) ≡ l → walk_first (touch_at kind) (keys t) (row_cell words b) (row_cell words a) l ≡ some (each (row_cell words) (walk_rows words n marks (get_or marks a 0) a))
        go [] f =
            let s : length (keys t) ≡ length t = each-length (λ (p : Cell × ℕ). p.0) t in
            absurd (mem-nil (subst (λ l. Mem d l) f (keep-in (λ m. has same (from m) (row_cell words a)) (count-in 0 (length (keys t)) (omega arith) (omega (arith, w.few a h, k.number))) (has_of cells away.steps))))
        go (m ∷ ms) f =
            ap (λ j. some (walk (touch_at kind) (keys t) (row_cell words b) j (row_cell words a))) (away-once (touch_at kind) (keys t) (row_cell words b) (away-number (touch_at kind) (keys t) (row_cell words b) f) away)
            ∙ ap some (walk-cells d a h e ∙ ap (λ j. each (row_cell words) (walk_rows words n marks j a)) (sym e))

    -- From an unmarked row the walk has no cell.
    walk-empty : (a : ℕ) → get_or marks a 0 ≡ 0 → [] ≡ walk_cells words n marks a
    unfolding walk_cells walk_rows
    walk-empty a e = ap (λ m. each (row_cell words) (walk_rows words n marks m a)) (sym e)

    -- The cells of the shown path are those of the walk.
    pub shown-cells : (a : ℕ) → a < n → cells_of (shown_rows kind words t a b) ≡ walk_cells words n marks a
    shown-cells a h = go (get_or marks a 0) refl
      where
        go : (m : ℕ) → get_or marks a 0 ≡ m → cells_of (shown_rows kind words t a b) ≡ walk_cells words n marks a
        go zero e = ap cells_of (shown-none a h e) ∙ walk-empty a e
        go (suc d) e = ap cells_of (shown-walk d a h e)
