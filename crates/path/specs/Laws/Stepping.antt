-- The first nearer row, bit by bit of a mask.
use Rattle.std.specs.Prelude.{ℕ, ◌+◌, ◌≤◌, ◌<◌, ◌≡◌, Bool, true, cond}
use Rattle.std.proofs.Common.{sym, ◌∙◌}
use Rattle.std.proofs.Math.Path.{ap}
use Rattle.std.proofs.Math.Bool.{false}
use mathlib.Core.List.{List, ◌∷◌}
use Rattle.model.specs.Lists.{keep}
use Rattle.model.specs.Masks.{bit}
use Rattle.neighbourhood.specs.Rows.{row_mask, row_near, row_for, onward_from}
use Rattle.neighbourhood.proofs.Laws.Listing.{onward-all, onward-none, onward-yes, onward-no}
use Rattle.path.specs.Walks.{first_row, is_nearer, next_row}

module _ (words : List ℕ) (n : ℕ) (marks : List ℕ) (i : ℕ) where
  -- The first nearer row that bits from k on lead to.
  unfoldable pub next_from : ℕ → ℕ
  next_from k = first_row i (keep (is_nearer marks i) (onward_from words n i k))

  -- Before the first bit it is the next row.
  pub next_start : next_row words n marks i ≡ next_from 0
  unfolding next_row next_from
  next_start = ap (λ (l : List ℕ). first_row i (keep (is_nearer marks i) l)) (sym (onward-all words n i))

  -- After the last bit there is none.
  pub next-end : (k : ℕ) → 26 ≤ k → next_from k ≡ i
  unfolding next_from
  next-end k h = ap (λ (l : List ℕ). first_row i (keep (is_nearer marks i) l)) (onward-none words n i k h)

  module _ (k : ℕ) (h : k < 26) where
    -- A bit that is not set leads to none.
    pub next-unset : bit (row_mask words i) k ≡ false → next_from k ≡ next_from (k + 1)
    unfolding next_from
    next-unset e = ap (λ (l : List ℕ). first_row i (keep (is_nearer marks i) l)) (onward-no words n i k h e)

    module _ (e : bit (row_mask words i) k ≡ true) (j : ℕ) (f : j ≡ row_for words n (row_near words i k)) where
      led : (b : Bool) → is_nearer marks i j ≡ b
          → next_from k ≡ first_row i (cond b (j ∷ keep (is_nearer marks i) (onward_from words n i (k + 1))) (keep (is_nearer marks i) (onward_from words n i (k + 1))))
      unfolding next_from
      led b g =
          ap (λ (l : List ℕ). first_row i (keep (is_nearer marks i) l)) (onward-yes words n i k h e ∙ ap (λ (r : ℕ). r ∷ onward_from words n i (k + 1)) (sym f))
          ∙ ap (λ (t : Bool). first_row i (cond t (j ∷ keep (is_nearer marks i) (onward_from words n i (k + 1))) (keep (is_nearer marks i) (onward_from words n i (k + 1))))) g

      -- A set bit leads to a nearer row, which is the first.
      pub next-found : is_nearer marks i j ≡ true → next_from k ≡ j
      next-found g = led true g

      -- A set bit leads to a row that is not nearer.
      pub next-passed : is_nearer marks i j ≡ false → next_from k ≡ next_from (k + 1)
      unfolding next_from
      next-passed g = led false g
