-- An answer is written cell by cell.
use Rattle.std.specs.Prelude.{ℕ, suc, ◌+◌, ◌*◌, ◌≤◌, ◌<◌, ◌≡◌, List, [], ◌∷◌, ◌++◌, take, drop, get_or}
use Rattle.std.proofs.Common.{add-one, arith, sym, ◌∙◌, append_assoc, append-nil, length-append, length-drop, take-suc, drop-drop, take_all, take-take, get_or-take}
use Rattle.std.proofs.Math.Path.{refl, ap}
use Rattle.std.proofs.Math.ListN.{length}
use Rattle.std.proofs.Math.Seq.{take-append_seam, drop-append-add, length-take-le}
use Rattle.model.specs.Lists.{each, gather}
use Rattle.model.specs.Cells.{Cell}
use Rattle.model.proofs.Laws.Members.{gather_append, each-length}
use Rattle.table.specs.Moves.{over}
use Rattle.layout.specs.Widths.{answer_width}
use Rattle.neighbourhood.specs.Rows.{row_cell}
use Rattle.neighbourhood.specs.Answers.{answer_words, filled, cells_of_rows}
use Rattle.neighbourhood.proofs.Laws.Lines.{each_at, each_take}

-- A cell has four words.
pub words_long : (l : List Cell) → length (gather answer_words l) ≡ answer_width * length l
words_long [] = refl
words_long (c ∷ l) = omega (arith, words_long l)

-- Words behind those that stand from the first word on.
over-more : (s a b : List ℕ) → over (over s 0 a) (length a) b ≡ over s 0 (a ++ b)
unfolding over
over-more s a b =
    let r : List ℕ = drop (0 + length a) s in
    (λ i. take-append_seam a r i ++ (b ++ drop-append-add a r (length b) i))
    ∙ ap (λ l. a ++ (b ++ l)) (drop-drop (length b) (0 + length a) s ∙ ap (λ m. drop m s) sizes)
    ∙ sym (append_assoc a b (drop (0 + length (a ++ b)) s))
  where
    sizes : 0 + length a + length b ≡ 0 + length (a ++ b)
    sizes = omega (arith, length-append a b)

module _ (s : List ℕ) (l : List Cell) where
  -- Before the first cell nothing is written.
  pub filled_none : s ≡ filled s (take 0 l)
  unfolding filled over
  filled_none = refl

  -- One cell more.
  pub filled_more : (k : ℕ) (d : Cell) → k < length l → over (filled s (take k l)) (answer_width * k) (answer_words (get_or l k d)) ≡ filled s (take (k + 1) l)
  unfolding filled
  filled_more k d h =
      let n : answer_width * k ≡ length (gather answer_words (take k l)) = omega (arith, words_long (take k l), length-take-le k l (omega arith)) in
      ap (λ m. over (over s 0 (gather answer_words (take k l))) m (answer_words (get_or l k d))) n
      ∙ over-more s (gather answer_words (take k l)) (answer_words (get_or l k d))
      ∙ ap (over s 0) (sym (gather_append answer_words (take k l) (get_or l k d ∷ []) ∙ ap (λ w. gather answer_words (take k l) ++ w) (append-nil (answer_words (get_or l k d)))))
      ∙ ap (λ m. over s 0 (gather answer_words m)) (sym (take-suc l k d h))
      ∙ ap (λ m. over s 0 (gather answer_words (take m l))) (sym (add-one k))

-- An answer keeps its length.
pub filled-length : (s : List ℕ) (l : List Cell) → answer_width * length l ≤ length s → length (filled s l) ≡ length s
unfolding filled over
filled-length s l h =
    let w : List ℕ = gather answer_words l in
    omega (arith, words_long l, length-append w (drop (0 + length w) s), length-drop (0 + length w) s)

-- The first cell.
pub filled-first : (s : List ℕ) (c : Cell) → over s 0 (answer_words c) ≡ filled s (c ∷ [])
unfolding filled
filled-first s c = refl

-- One cell more at the end.
pub filled-end : (s : List ℕ) (l : List Cell) (c : Cell) → over (filled s l) (answer_width * length l) (answer_words c) ≡ filled s (l ++ (c ∷ []))
unfolding filled
filled-end s l c =
    ap (λ m. over (over s 0 (gather answer_words l)) m (answer_words c)) (sym (words_long l))
    ∙ over-more s (gather answer_words l) (answer_words c)
    ∙ ap (over s 0) (sym (gather_append answer_words l (c ∷ []) ∙ ap (λ w. gather answer_words l ++ w) (append-nil (answer_words c))))

-- Some cells once more over an answer that begins with one.
pub filled-again : (s : List ℕ) (c d : Cell) (l : List Cell) → filled (over s 0 (answer_words c)) (d ∷ l) ≡ filled s (d ∷ l)
unfolding filled over
filled-again s c d l =
    let w : List ℕ = gather answer_words (d ∷ l) in
    let m : ℕ = length (gather answer_words l) in
    let z : 0 + length w ≡ suc (suc (suc (suc m))) = omega arith in
    let y : 0 + answer_width + m ≡ 0 + length w = omega arith in
    ap (λ n. w ++ drop n (answer_words c ++ drop (0 + answer_width) s)) z ∙ ap (λ r. w ++ r) (drop-drop m (0 + answer_width) s) ∙ ap (λ n. w ++ drop n s) y

-- Some cells are written.
pub record Written (s : List ℕ) (l : List Cell) (answer : List ℕ) : Type 0 where
  pub is : answer ≡ filled s l

-- The first cell is written, also over itself.
pub written-first : {a : List ℕ} (s : List ℕ) (c : Cell) (l : List Cell) → a ≡ over s 0 (answer_words c) → l ≡ c ∷ [] → Written a l a
written-first s c l e z =
    record { is = e ∙ filled-first s c ∙ sym (filled-again s c c []) ∙ (λ i. filled (sym e i) (sym z i)) }

-- One cell more is written.
pub written-end : {s : List ℕ} {l : List Cell} {answer : List ℕ} → Written s l answer → (answer' : List ℕ) (l' : List Cell) (e : ℕ) (c : Cell)
    → e ≡ length l → answer' ≡ over answer (answer_width * e) (answer_words c) → l' ≡ l ++ (c ∷ []) → Written s l' answer'
written-end {s} {l} {answer} w answer' l' e c z f g =
    record { is = f ∙ (λ i. over (w.is i) (answer_width * z i) (answer_words c)) ∙ filled-end s l c ∙ ap (filled s) (sym g) }

-- The same cells.
pub written_same : {s : List ℕ} {l : List Cell} {answer : List ℕ} → Written s l answer → (l' : List Cell) → l' ≡ l → Written s l' answer
written_same {s} w l' e = record { is = w.is ∙ ap (filled s) (sym e) }

-- The first cell was written beforehand.
pub written_back : {a : List ℕ} {l : List Cell} {answer : List ℕ} → Written a l answer → (s : List ℕ) (c d : Cell) (r : List Cell) → a ≡ over s 0 (answer_words c) → l ≡ d ∷ r → answer ≡ filled s l
written_back {a} {l} w s c d r e z = w.is ∙ (λ i. filled (e i) (z i)) ∙ filled-again s c d r ∙ ap (filled s) (sym z)

module _ (s : List ℕ) (l : List Cell) (k : ℕ) where
  -- An answer keeps its length while it is written.
  pub filling-kept : (answer : List ℕ) → answer ≡ filled s (take k l) → k ≤ length l → answer_width * length l ≤ length s → length answer ≡ length s
  filling-kept answer e g h = ap length e ∙ filled-length s (take k l) (omega (arith, length-take-le k l g))

  -- The next cell is written.
  pub filling_step : (answer answer' : List ℕ) (c d : Cell) → answer ≡ filled s (take k l) → answer' ≡ over answer (answer_width * k) (answer_words c) → c ≡ get_or l k d → k < length l → answer' ≡ filled s (take (k + 1) l)
  filling_step answer answer' c d e f g h = f ∙ (λ i. over (e i) (answer_width * k) (answer_words (g i))) ∙ filled_more s l k d h

  -- All cells are written.
  pub filling-end : (answer : List ℕ) → answer ≡ filled s (take k l) → length l ≤ k → answer ≡ filled s l
  filling-end answer e h = e ∙ ap (filled s) (take_all k l h)

module _ (words rows : List ℕ) (count : ℕ) (h : count ≤ length rows) where
  -- There are as many cells as rows.
  pub rows_long : length (cells_of_rows words rows count) ≡ count
  rows_long = each-length (row_cell words) (take count rows) ∙ length-take-le count rows h

  -- Each is the cell of its row.
  pub rows_at : (k : ℕ) (d : Cell) → k < count → get_or (cells_of_rows words rows count) k d ≡ row_cell words (get_or rows k 0)
  rows_at k d g =
      each_at (row_cell words) (take count rows) k 0 d (omega (arith, length-take-le count rows h))
      ∙ ap (row_cell words) (get_or-take count rows k 0 g)

  -- Those of the first of the rows are the first of them.
  pub rows-front : (m : ℕ) → m ≤ count → cells_of_rows words rows m ≡ take m (cells_of_rows words rows count)
  rows-front m g = ap (each (row_cell words)) (sym (take-take m count rows g)) ∙ each_take (row_cell words) m (take count rows)
