-- The occupied cells beside a cell, in their order, are its occupied neighbours in order.
use Rattle.std.specs.Prelude.{ℕ, suc, ◌+◌, ◌*◌, ◌≤◌, ◌<◌, ◌≡◌, Bool, true, false, ◌&&◌, not, List, [], ◌∷◌, ◌++◌, T, eqb, leb, length, take, get_or}
use Rattle.std.proofs.Common.{arith, sym, ap, ◌∙◌, subst, append_assoc, eqb→eq, leb→le, le→leb}
use Rattle.component.specs.Around.{around, Above, Within}
use Rattle.component.specs.Laws.Neighbours.{around-ordered, around-length, around-sound, around-complete}
use Rattle.model.specs.Facts.{Asc, nil, cons}
use Rattle.model.specs.Lists.{keep, has, keys, gather}
use Rattle.model.specs.Cells.{Cell, same, below}
use Rattle.model.proofs.Laws.Tests.{and-fst, and-snd, and_both, T_true, eqb_of}
use Rattle.model.proofs.Laws.Orders.{cells, differ, differs}
use Rattle.model.proofs.Laws.Members.{keep-in, keep_out, has_of, of-has, gather_append}
use Rattle.model.proofs.Laws.Sorted.{keep-asc, asc-equal}
use Rattle.table.specs.Moves.{over}
use Rattle.table.specs.Rows.{cell, cell_at, table4}
use Rattle.table.specs.Laws.Words.{keys_length, cell-at}
use Rattle.layout.specs.Widths.{answer_width, cell_width}
use Rattle.neighbourhood.specs.Answers.{answer_words}
use Rattle.neighbourhood.proofs.Laws.Lines.{mem-get_d}
use Rattle.neighbourhood.specs.Beside.{are_near, beside}
use Rattle.neighbourhood.proofs.Laws.Walking.{behind-step, keep-next, keep-past}

module _ (r m n : ℕ) where
  near-in : m ≤ n + r → n ≤ m + r → T (are_near r m n)
  near-in p q = and_both (leb m (n + r)) (leb n (m + r)) (le→leb m (n + r) p) (le→leb n (m + r) q)

  near-out : T (are_near r m n) → (m ≤ n + r) × (n ≤ m + r)
  near-out t = (leb→le m (n + r) (and-fst (leb m (n + r)) (leb n (m + r)) t), leb→le n (m + r) (and-snd (leb m (n + r)) (leb n (m + r)) t))

module _ (r : ℕ) (c d : Cell) where
  abbrev from-x : Bool
  from-x = are_near r c.x d.x && not (same c d)

  abbrev from-y : Bool
  from-y = are_near r c.y d.y && from-x

  abbrev from-z : Bool
  from-z = are_near r c.z d.z && from-y

  beside-in : Within r c d → (d ≡ c → ⊥) → T (beside r c d)
  beside-in w ne =
      and_both (eqb d.grid c.grid) from-z (eqb_of d.grid c.grid w.grid)
      (and_both (are_near r c.z d.z) from-y (near-in r c.z d.z w.z.0 w.z.1)
      (and_both (are_near r c.y d.y) from-x (near-in r c.y d.y w.y.0 w.y.1)
      (and_both (are_near r c.x d.x) (not (same c d)) (near-in r c.x d.x w.x.0 w.x.1) (differ cells (λ e. ne (sym e))))))

  pub beside-out : T (beside r c d) → Within r c d × (d ≡ c → ⊥)
  beside-out t =
      let z : T from-z = and-snd (eqb d.grid c.grid) from-z t in
      let y : T from-y = and-snd (are_near r c.z d.z) from-y z in
      let x : T from-x = and-snd (are_near r c.y d.y) from-x y in (
        record {
          grid = eqb→eq d.grid c.grid (and-fst (eqb d.grid c.grid) from-z t);
          z = near-out r c.z d.z (and-fst (are_near r c.z d.z) from-y z);
          y = near-out r c.y d.y (and-fst (are_near r c.y d.y) from-x y);
          x = near-out r c.x d.x (and-fst (are_near r c.x d.x) (not (same c d)) x);
        },
        λ e. differs cells c d (and-snd (are_near r c.x d.x) (not (same c d)) x) (sym e),
      )

-- A list whose members ascend by their number is ascending.
asc-by : (l : List Cell) (d : Cell) → ((i j : ℕ) → i < j → j < length l → T (below (get_or l i d) (get_or l j d))) → Asc below l
asc-by [] d f = nil
asc-by (x ∷ l) d f =
    cons (λ b m. let q = mem-get_d l d m in let h = q.1 in subst (λ (a : Cell). T (below x a)) q.2 (f 0 (suc q.0) (omega arith) (omega arith)))
    (asc-by l d (λ i j h g. f (suc i) (suc j) (omega arith) (omega arith)))

module _ (r : ℕ) (c : Cell) (a : Above r c) (l : List Cell) (s : Asc below l) where
  around-asc : Asc below (around r c)
  around-asc = asc-by (around r c) c (λ i j h g. T_true (around-ordered r c c a i j h (omega (arith, around-length r c))))

  -- The occupied neighbours are the occupied cells beside the centre.
  pub around-kept : keep (has same l) (around r c) ≡ keep (beside r c) l
  around-kept =
      asc-equal cells (keep (has same l) (around r c)) (keep (beside r c) l) (keep-asc (has same l) (around r c) around-asc) (keep-asc (beside r c) l s)
      (λ d m. let q = keep_out (has same l) (around r c) m in let w = around-sound r c d a q.0 in keep-in (beside r c) (of-has cells l q.1) (beside-in r c d w.0 w.1))
      (λ d m. let q = keep_out (beside r c) l m in let w = beside-out r c d q.1 in keep-in (has same l) (around-complete r c d a w.0 w.1) (has_of cells q.0))

module _ (table : List ℕ) (n r : ℕ) (c : Cell) where
  abbrev row_cells : List Cell
  row_cells = keys (table4 cell_width n table)

  module _ (front words : List ℕ) (k i : ℕ) (e : take (answer_width * k) words ≡ front ++ gather answer_words (keep (beside r c) (take i row_cells))) (g : i < n)
      (d : Cell) (q : d ≡ cell_at table (cell_width * i)) (b : Bool) (u : b ≡ beside r c d) where
    long : length row_cells ≡ n
    long = keys_length cell cell_width n table

    at_row : get_or row_cells i d ≡ d
    at_row = cell-at cell_width n table (omega arith) i d g ∙ sym q

    -- The cell of the next row is beside the centre.
    pub beside-step : b ≡ true → (words' : List ℕ) → answer_width * k + answer_width ≤ length words → words' ≡ over words (answer_width * k) (answer_words d)
        → take (answer_width * (k + 1)) words' ≡ front ++ gather answer_words (keep (beside r c) (take (i + 1) row_cells))
    beside-step y words' h f =
        behind-step words words' k d (front ++ gather answer_words (keep (beside r c) (take i row_cells))) e h f
        ∙ append_assoc front (gather answer_words (keep (beside r c) (take i row_cells))) (answer_words d)
        ∙ ap (λ (w : List ℕ). front ++ w)
        (sym (gather_append answer_words (keep (beside r c) (take i row_cells)) (d ∷ []))
        ∙ ap (λ (x : Cell). gather answer_words (keep (beside r c) (take i row_cells) ++ (x ∷ []))) (sym at_row)
        ∙ ap (gather answer_words) (sym (keep-next row_cells i d (omega (arith, long)) (beside r c) (ap (beside r c) at_row ∙ sym u ∙ y))))

    -- It is not.
    pub beside-past : b ≡ false → take (answer_width * k) words ≡ front ++ gather answer_words (keep (beside r c) (take (i + 1) row_cells))
    beside-past y =
        e ∙ ap (λ (l : List Cell). front ++ gather answer_words l) (sym (keep-past row_cells i d (omega (arith, long)) (beside r c) (ap (beside r c) at_row ∙ sym u ∙ y)))
