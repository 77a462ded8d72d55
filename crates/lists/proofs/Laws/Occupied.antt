-- A cell is looked up among the occupied cells, and what its row has.
use Rattle.std.specs.Prelude.{ℕ, ◌+◌, ◌*◌, ◌≤◌, ◌<◌, ◌≡◌, Bool, true, false, cond, length, take, drop}
use Rattle.std.proofs.Common.{arith, sym, ◌∙◌, subst}
use Rattle.std.proofs.Math.Path.{ap}
use mathlib.Core.List.Memᴰ.{cast as mem-cast}
use mathlib.Core.List.{List, [], ◌∷◌, ◌++◌, Memᴰ as Mem}
use Rattle.std.proofs.Math.Seq.{take-append_seam}
use Rattle.model.specs.Lists.{each, has, keys, gather, count}
use Rattle.model.specs.Cells.{Cell, same, below, touch_at}
use Rattle.model.specs.Masks.{bit, touching}
use Rattle.model.specs.Questions.{nearby_by}
use Rattle.model.proofs.Laws.Tests.{true_of, false_of}
use Rattle.model.proofs.Laws.Orders.{cells}
use Rattle.model.proofs.Laws.Members.{keep-shorter, each-length, count-length, has_of, hasnt-of}
use Rattle.model.specs.Facts.{Asc}
use Rattle.std.specs.Prelude.{Result, Ok, Err}
use Rattle.table.specs.Rows.{cell, placed, place_of, table4}
use Rattle.table.specs.Laws.Kinds.{cell-lawful}
use Rattle.table.specs.Laws.Places.{found_within, missing-key}
use Rattle.table.specs.Laws.Answers.{found_below, found-is}
use Rattle.table.specs.Moves.{over}
use Rattle.layout.specs.Widths.{cell_width, answer_width}
use Rattle.neighbourhood.specs.Rows.{row_cell, row_mask, row_near, set_of, row_list, row_for}
use Rattle.neighbourhood.specs.Standing.{Cells}
use Rattle.neighbourhood.specs.Answers.{answer_words, filled, NearbyAsked, Nearby}
use Rattle.neighbourhood.proofs.Laws.Lines.{get_d-mem}
use Rattle.neighbourhood.proofs.Laws.Filling.{words_long}
use Rattle.neighbourhood.proofs.Laws.Reads.{cells-keys, row-for, row-list}
use Rattle.lists.specs.Parts.{having}

-- The words that are filled with cells begin with the cells' words.
pub filled-take : (s : List ℕ) (l : List Cell) → take (answer_width * length l) (filled s l) ≡ gather answer_words l
unfolding filled over
filled-take s l =
    ap (λ (m : ℕ). take m (gather answer_words l ++ drop (0 + length (gather answer_words l)) s)) (sym (words_long l))
    ∙ take-append_seam (gather answer_words l) (drop (0 + length (gather answer_words l)) s)

few-of : (l m : List Cell) → l ≡ m → length l ≤ 26 → length m ≤ 26
few-of l m e h = subst (λ (x : List Cell). length x ≤ 26) e h

-- The bits of a row lead to at most 26 cells.
rows_few : (words : List ℕ) (i : ℕ) → length (row_list words i) ≤ 26
unfolding row_list
rows_few words i = few (set_of words i (count 0 26)) (keep-shorter (bit (row_mask words i)) (count 0 26))
  where
    few : (l : List ℕ) → length l ≤ length (count 0 26) → length (each (row_near words i) l) ≤ 26
    few l h = omega (arith, each-length (row_near words i) l, count-length 0 26)

module _ {kind : ℕ} (words : List ℕ) (n : ℕ) (t : List (Cell × ℕ)) (k : Cells kind words n t) where
  module _ (c : Cell) (i : ℕ) (e : Ok i ≡ place_of below (keys (table4 cell_width n words)) c) where
    found_in : Mem c (keys t)
    found_in =
        subst (λ (l : List Cell). Mem c l) (cells-keys words n t k)
        (mem-cast (sym (found-is cell cell-lawful cell_width n words c i c e)) (get_d-mem (keys (table4 cell_width n words)) i c (found_within below c (keys (table4 cell_width n words)) i e)))

    -- A cell that is found is occupied.
    pub found-has : has same (keys t) c ≡ true
    found-has = true_of (has same (keys t) c) (has_of cells found_in)

    -- Its row is there.
    pub found-there : i < n
    found-there = found_below cell cell-lawful cell_width n words c i e

    -- Its row has it.
    pub found-cell : row_cell words i ≡ c
    unfolding row_for
    found-cell = ap (λ (p : Result ℕ ℕ). row_cell words (placed p)) e ∙ (row-for words n t k c found_in).1

    -- It touches few.
    list-few : length (touching (touch_at kind) (keys t) (row_cell words i)) ≤ 26
    list-few =
        few-of (row_list words i) (touching (touch_at kind) (keys t) (row_cell words i)) (row-list words n t k i found-there) (rows_few words i)

    -- What is asked to write it and those.
    pub nearby-asked : (answer : List ℕ) → 108 ≤ length answer → NearbyAsked words n i answer
    nearby-asked answer h = record { kind = kind; table = t; cells = k; there = found-there; space = omega (arith, list-few) }

    module _ (answer answer' : List ℕ) (r : ℕ) (w : Nearby kind words i answer r answer' t) where
      -- It and its list are few.
      pub nearby-few : answer_width * r ≤ 108
      nearby-few = omega (arith, w.number, list-few)

      -- They are what the question asks for.
      pub nearby-words : take (answer_width * r) answer' ≡ gather answer_words (nearby_by (touch_at kind) (having t) c).list
      nearby-words =
          (λ j. take (answer_width * w.number j) (w.written j))
          ∙ filled-take answer (row_cell words i ∷ touching (touch_at kind) (keys t) (row_cell words i))
          ∙ ap (λ (d : Cell). gather answer_words (d ∷ touching (touch_at kind) (keys t) d)) found-cell
          ∙ ap (λ (b : Bool). gather answer_words (cond b (c ∷ touching (touch_at kind) (keys t) c) [])) (sym found-has)

  -- A cell that is missing is not occupied.
  pub missing_has : (c : Cell) (i : ℕ) → Err i ≡ place_of below (keys (table4 cell_width n words)) c → has same (keys t) c ≡ false
  missing_has c i e =
      false_of (has same (keys t) c)
      (hasnt-of cells c (keys t) (λ m.
      missing-key cells c (keys (table4 cell_width n words)) i (subst (Asc below) (sym (cells-keys words n t k)) k.asc) e (subst (λ (l : List Cell). Mem c l) (sym (cells-keys words n t k)) m)))

  -- Then its list is empty.
  pub missing-words : (c : Cell) (i : ℕ) → Err i ≡ place_of below (keys (table4 cell_width n words)) c → [] ≡ gather answer_words (nearby_by (touch_at kind) (having t) c).list
  missing-words c i e = ap (λ (b : Bool). gather answer_words (cond b (c ∷ touching (touch_at kind) (keys t) c) [])) (sym (missing_has c i e))
