-- The marks of a wave are one more than the numbers of steps.
use Rattle.std.specs.Prelude.{ℕ, zero, suc, ◌≤◌, ◌<◌, ◌≡◌, refl, T, get_or}
use Rattle.std.proofs.Common.{arith, sym, ◌∙◌, ap, subst}
use mathlib.Core.List.Memᴰ.{cast as mem-cast}
use mathlib.Core.List.{List, Memᴰ as Mem}
use Rattle.model.specs.Lists.{keys}
use Rattle.model.specs.Cells.{Cell, same, touch_at}
use Rattle.model.specs.Shortest.{steps_from}
use Rattle.model.proofs.Laws.Orders.{cells}
use Rattle.model.proofs.Laws.Members.{keep-in, keep_out, each_in, each-out}
use Rattle.model.proofs.Laws.Kinds.{kind-touching}
use Rattle.model.proofs.Laws.Steps.{steps-occupied, steps-none, steps-more, steps-less, StepsAway}
use Rattle.neighbourhood.specs.Rows.{row_cell, row_for, onward}
use Rattle.neighbourhood.specs.Standing.{Cells, Levels}
use Rattle.neighbourhood.proofs.Laws.Reads.{row-occupied, row-once, row-for, onward-cells, onward-under}

module _ {kind : ℕ} (words : List ℕ) (n : ℕ) (t : List (Cell × ℕ)) (k : Cells kind words n t) where
  -- A row that row i leads to has a cell that touches the cell of row i.
  pub onward-touch : (i j : ℕ) → i < n → Mem j (onward words n i) → T (touch_at kind (row_cell words i) (row_cell words j))
  onward-touch i j h m = (keep_out (touch_at kind (row_cell words i)) (keys t) (subst (λ l. Mem (row_cell words j) l) (onward-cells words n t k i h) (each_in (row_cell words) m))).1

  -- Row i leads to each row whose cell it touches.
  pub touch-onward : (i j : ℕ) → i < n → j < n → T (touch_at kind (row_cell words i) (row_cell words j)) → Mem j (onward words n i)
  touch-onward i j h g u =
      let r = each-out (row_cell words) (onward words n i) (subst (λ l. Mem (row_cell words j) l) (sym (onward-cells words n t k i h)) (keep-in (touch_at kind (row_cell words i)) (row-occupied words n t k j g) u)) in
      mem-cast (row-once words n t k j r.0 g (onward-under words n t k i h r.0 r.1) r.2) r.1

  module _ (b : ℕ) (g : b < n) (marks : List ℕ) (w : Levels words n b marks) where
    -- The occupied cells from which d steps lead to row b.
    abbrev from : ℕ → List Cell
    from d = steps_from (touch_at kind) (keys t) (row_cell words b) d

    -- From a marked row one step less than its mark leads to row b.
    pub mark-steps : (d a : ℕ) → a < n → get_or marks a 0 ≡ suc d → Mem (row_cell words a) (from d)
    mark-steps zero a h e = keep-in (same (row_cell words b)) (row-occupied words n t k a h) (subst (λ c. T (same c (row_cell words a))) (ap (row_cell words) (w.alone a h e)) (cells.same_self (row_cell words a)))
    mark-steps (suc d) a h e =
        let r = w.back a d h e in
        steps-more (touch_at kind) (keys t) (row_cell words b) d (row-occupied words n t k a h) (onward-touch a r.0 h r.2) (mark-steps d r.0 r.1 r.3)

    -- A row from which some steps lead to row b is marked, with at most one more than the steps.
    pub steps-mark : (d a : ℕ) → a < n → Mem (row_cell words a) (from d) → (0 < get_or marks a 0) × (get_or marks a 0 ≤ suc d)
    steps-mark zero a h m =
        let e : get_or marks a 0 ≡ 1 = ap (λ (j : ℕ). get_or marks j 0) (row-once words n t k a b h g (steps-none (touch_at kind) (keys t) (row_cell words b) m)) ∙ w.first in
        (omega arith, omega arith)
    steps-mark (suc d) a h m = step r.0 r.2 (row-for words n t k r.0 (steps-occupied (touch_at kind) (keys t) (row_cell words b) d r.1)) (λ j e f. steps-mark d j e (subst (λ c. Mem c (from d)) f r.1))
      where
        r : (c : Cell) × Mem c (from d) × T (touch_at kind (row_cell words a) c)
        r = steps-less (touch_at kind) (keys t) (row_cell words b) d m

        step : (c : Cell) → T (touch_at kind (row_cell words a) c) → (row_for words n c < n) × (row_cell words (row_for words n c) ≡ c)
            → ((j : ℕ) → j < n → c ≡ row_cell words j → (0 < get_or marks j 0) × (get_or marks j 0 ≤ suc d)) → (0 < get_or marks a 0) × (get_or marks a 0 ≤ suc (suc d))
        step c u q rec =
            let j = row_for words n c in
            let p = rec j q.0 (sym q.1) in
            let x = w.close j a q.0 (touch-onward j a q.0 h ((kind-touching kind).flip (row_cell words a) (row_cell words j) (subst (λ y. T (touch_at kind (row_cell words a) y)) (sym q.1) u))) (λ z. omega (arith, p.0)) in
            (over (get_or marks a 0) x.0, omega (arith, x.1, p.1))
          where
            over : (m : ℕ) → (m ≡ 0 → ⊥) → 0 < m
            over zero f = absurd (f refl)
            over (suc m) f = omega arith

    -- So the mark of a row is one more than how many steps it is away.
    pub mark-away : (d a : ℕ) → a < n → get_or marks a 0 ≡ suc d → StepsAway (touch_at kind) (keys t) (row_cell words b) d (row_cell words a)
    mark-away d a h e = record { steps = mark-steps d a h e; fewer = λ j m. omega (arith, (steps-mark j a h m).1) }
