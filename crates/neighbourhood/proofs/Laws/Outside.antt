-- Which rows a depth leaves out, and what is left unmarked.
use Rattle.std.specs.Prelude.{ℕ, ◌+◌, ◌-◌, ◌≤◌, ◌<◌, ◌≡◌, refl, Bool, true, false, cond, ◌&&◌, List, eqb, leb, length, drop, get_or, set}
use Rattle.std.proofs.Common.{add-zero, arith, sym, ap, ◌∙◌, subst, ⊎_elim, leb→le, length-set, get_or-set_same, get_or-set_other, drop-set-lt, get_or-drop, drop-drop}
use Rattle.std.proofs.Math.Dec.{not_T}
use Rattle.component.specs.Laws.Tests.{and-fst, and-snd, leb-same, le-or-lt}
use Rattle.model.specs.Lists.{keep, keys}
use Rattle.model.specs.Cells.{Cell, bias}
use Rattle.model.specs.Flood.{near_on, within_depth}
use Rattle.model.proofs.Laws.Tests.{false_of}
use Rattle.neighbourhood.specs.Rows.{row_cell}
use Rattle.neighbourhood.specs.Standing.{Cells, open_cells, OutsideMarked}
use Rattle.neighbourhood.specs.Beside.{are_near}
use Rattle.neighbourhood.proofs.Laws.Unmarked.{open-where}

module _ (d m n : ℕ) where
  -- No two coordinates differ by at most a negative depth.
  pub near_none : d < bias → false ≡ near_on d m n
  near_none h =
      sym (false_of (near_on d m n) (not_T (near_on d m n)
      (λ t. omega (arith, leb→le (m + bias) (n + d) (and-fst (leb (m + bias) (n + d)) _ t), leb→le (n + bias) (m + d) (and-snd (leb (m + bias) (n + d)) _ t)))))

  -- By any other depth they do if they are at most that far apart.
  pub near-by-depth : bias ≤ d → are_near (d - bias) m n ≡ near_on d m n
  near-by-depth h =
      λ i. leb-same m (n + (d - bias)) (m + bias) (n + d) (λ p. omega arith) (λ p. omega arith) i
      && leb-same n (m + (d - bias)) (n + bias) (m + d) (λ p. omega arith) (λ p. omega arith) i

module _ (words : List ℕ) (seed : Cell) (depth : ℕ) (marks : List ℕ) where
  -- Of no rows none is marked.
  pub outside-none : OutsideMarked words 0 seed depth marks marks
  outside-none = record { rows = λ j h. absurd (omega arith); beyond = refl; marks_kept = refl }

  module _ (i : ℕ) (marks' : List ℕ) (o : OutsideMarked words i seed depth marks marks') where
    as-was : get_or marks' i 0 ≡ get_or marks i 0
    as-was =
        ap (λ k. get_or marks' k 0) (sym (add-zero i)) ∙ sym (get_or-drop i marks' 0 0)
        ∙ ap (λ l. get_or l 0 0) o.beyond ∙ get_or-drop i marks 0 0 ∙ ap (λ k. get_or marks k 0) (add-zero i)

    rest : drop (i + 1) marks' ≡ drop (i + 1) marks
    rest = sym (drop-drop 1 i marks') ∙ ap (drop 1) o.beyond ∙ drop-drop 1 i marks

    -- The rows passed and the next one.
    one-more : (m : List ℕ) → get_or m i 0 ≡ cond (within_depth depth seed (row_cell words i)) (get_or marks i 0) 1 → ((j : ℕ) → j < i → get_or m j 0 ≡ get_or marks' j 0)
        → (j : ℕ) → j < i + 1 → get_or m j 0 ≡ cond (within_depth depth seed (row_cell words j)) (get_or marks j 0) 1
    one-more m e f j h =
        ⊎_elim (λ g. let u : i ≡ j = omega arith in subst (λ k. get_or m k 0 ≡ cond (within_depth depth seed (row_cell words k)) (get_or marks k 0) 1) u e)
        (λ g. f j g ∙ o.rows j g) (le-or-lt i j)

    -- A row within the depth stays as it was.
    pub outside-past : within_depth depth seed (row_cell words i) ≡ true → OutsideMarked words (i + 1) seed depth marks marks'
    outside-past e =
        record { rows = one-more marks' (as-was ∙ ap (λ b. cond b (get_or marks i 0) 1) (sym e)) (λ j g. refl); beyond = rest; marks_kept = o.marks_kept }

    -- A row outside it is marked.
    pub outside-mark : within_depth depth seed (row_cell words i) ≡ false → i < length marks' → OutsideMarked words (i + 1) seed depth marks (set marks' i 1)
    outside-mark e h =
        record {
          rows = one-more (set marks' i 1) (get_or-set_same marks' i 1 0 h ∙ ap (λ b. cond b (get_or marks i 0) 1) (sym e)) (λ j g. get_or-set_other marks' i j 1 0 (λ u. omega arith));
          beyond = drop-set-lt (i + 1) marks' i 1 (omega arith) ∙ rest;
          marks_kept = length-set marks' i 1 ∙ o.marks_kept;
        }

-- Where no row was marked, the unmarked cells are then the occupied ones within the depth.
pub outside-open : {kind : ℕ} (words : List ℕ) (n : ℕ) (t : List (Cell × ℕ)) → Cells kind words n t → (seed : Cell) (depth : ℕ) (marks marks' : List ℕ) → ((j : ℕ) → j < n → get_or marks j 0 ≡ 0)
    → OutsideMarked words n seed depth marks marks' → open_cells words n marks' ≡ keep (within_depth depth seed) (keys t)
outside-open words n t k seed depth marks marks' z o =
    open-where words n t k marks' (within_depth depth seed)
    (λ j h. ap (λ m. eqb m 0) (o.rows j h ∙ ap (λ m. cond (within_depth depth seed (row_cell words j)) m 1) (z j h)) ∙ told (within_depth depth seed (row_cell words j)))
  where
    told : (b : Bool) → eqb (cond b 0 1) 0 ≡ b
    told true = refl
    told false = refl
