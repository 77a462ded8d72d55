-- The cube of a cell, in words.
use Rattle.std.specs.Prelude.{ℕ, ◌≡◌, Bool, true, false, cond, List, [], ◌∷◌, ◌++◌, take}
use Rattle.std.proofs.Common.{sym, ap, ◌∙◌}
use Rattle.std.proofs.Math.Path.{refl}
use Rattle.component.specs.Around.{Above}
use Rattle.model.specs.Lists.{keep, has, keys, gather}
use Rattle.model.specs.Cells.{Cell, same, below}
use Rattle.model.specs.Questions.{cube}
use Rattle.model.specs.Facts.{Asc}
use Rattle.table.specs.Moves.{over}
use Rattle.layout.specs.Widths.{answer_width}
use Rattle.neighbourhood.specs.Answers.{answer_words}
use Rattle.neighbourhood.specs.Beside.{beside}
use Rattle.neighbourhood.proofs.Laws.Cubes.{around-kept}
use Rattle.lists.specs.Parts.{having}

-- The centre before other cells, in words.
centre-first : (b : Bool) (c : Cell) (l : List Cell) → gather answer_words (cond b (c ∷ []) []) ++ gather answer_words l ≡ gather answer_words (cond b (c ∷ l) l)
centre-first true c l = refl
centre-first false c l = refl

-- The cube of a centre, occupied or not, in words.
pub cube-words : (r : ℕ) (c : Cell) → Above r c → (t : List (Cell × ℕ)) → Asc below (keys t) → (b : Bool) → has same (keys t) c ≡ b
    → gather answer_words (cond b (c ∷ []) []) ++ gather answer_words (keep (beside r c) (keys t)) ≡ gather answer_words (cube (having t) c r).list
cube-words r c a t s b e =
    centre-first b c (keep (beside r c) (keys t))
    ∙ (λ i. gather answer_words (cond (sym e i) (c ∷ sym (around-kept r c a (keys t) s) i) (sym (around-kept r c a (keys t) s) i)))

-- The words of a cell that are written first.
pub first-words : (words words' : List ℕ) (c : Cell) → words' ≡ over words 0 (answer_words c) → take answer_width words' ≡ answer_words c
unfolding over
first-words words words' c e = ap (take answer_width) e
