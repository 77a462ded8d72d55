-- Cells are written four words at a time while the rows of a table are gone over.
use Rattle.std.specs.Prelude.{ℕ, ◌+◌, ◌*◌, ◌≤◌, ◌<◌, ◌≡◌, Bool, true, false, cond, List, [], ◌∷◌, ◌++◌, length, take, drop, get_or}
use Rattle.std.proofs.Common.{add-one, arith, sym, ap, ◌∙◌, append-nil, append_assoc, length-append, length-drop, take-suc, length-take-le, drop_at, drop-drop}
use Rattle.std.proofs.Math.Seq.{take-append-add}
use Rattle.model.specs.Lists.{keep}
use Rattle.model.specs.Cells.{Cell}
use Rattle.model.proofs.Laws.Members.{keep_append}
use Rattle.table.specs.Moves.{over}
use Rattle.layout.specs.Widths.{answer_width}
use Rattle.neighbourhood.specs.Answers.{answer_words}

-- One cell more, behind some words.
pub behind-step : (words words' : List ℕ) (k : ℕ) (c : Cell) (a : List ℕ) → take (answer_width * k) words ≡ a → answer_width * k + answer_width ≤ length words
    → words' ≡ over words (answer_width * k) (answer_words c) → take (answer_width * (k + 1)) words' ≡ a ++ answer_words c
unfolding over
behind-step words words' k c a e h f =
    let n : answer_width * (k + 1) ≡ length (take (answer_width * k) words) + answer_width = omega (arith, length-take-le (answer_width * k) words (omega arith)) in
    (λ i. take (n i) (f i))
    ∙ take-append-add (take (answer_width * k) words) (answer_words c ++ drop (answer_width * k + length (answer_words c)) words) answer_width
    ∙ ap (λ (b : List ℕ). b ++ answer_words c) e

-- What stands behind them is as it was.
pub behind-rest : (words₀ words words' : List ℕ) (k : ℕ) (c : Cell) → drop (answer_width * k) words ≡ drop (answer_width * k) words₀ → answer_width * k + answer_width ≤ length words
    → words' ≡ over words (answer_width * k) (answer_words c) → drop (answer_width * (k + 1)) words' ≡ drop (answer_width * (k + 1)) words₀
unfolding over
behind-rest words₀ words words' k c e h f =
    let at : ℕ = answer_width * k in
    let n : answer_width * (k + 1) ≡ at + answer_width = omega arith in
    let long : length (take at words ++ answer_words c) ≡ at + answer_width = omega (arith, length-append (take at words) (answer_words c), length-take-le at words (omega arith)) in
    (λ i. drop (n i) (f i))
    ∙ ap (drop (at + answer_width)) (sym (append_assoc (take at words) (answer_words c) (drop (at + answer_width) words)))
    ∙ drop_at (take at words ++ answer_words c) (drop (at + answer_width) words) (at + answer_width) long
    ∙ sym (drop-drop answer_width at words)
    ∙ ap (drop answer_width) e
    ∙ drop-drop answer_width at words₀
    ∙ ap (λ (m : ℕ). drop m words₀) (sym n)

-- The words keep their length.
pub over-length : (words : List ℕ) (at : ℕ) (c : Cell) → at + answer_width ≤ length words → length (over words at (answer_words c)) ≡ length words
unfolding over
over-length words at c h =
    omega (arith, length-append (take at words) (answer_words c ++ drop (at + length (answer_words c)) words), length-take-le at words (omega arith), length-drop (at + length (answer_words c)) words)

module _ {A : Type 0} (l : List A) (i : ℕ) (d : A) (h : i < length l) where
  -- One member more.
  pub take-next : take (i + 1) l ≡ take i l ++ (get_or l i d ∷ [])
  take-next = ap (λ (m : ℕ). take m l) (add-one i) ∙ take-suc l i d h

  kept : (p : A → Bool) (b : Bool) → p (get_or l i d) ≡ b → keep p (take (i + 1) l) ≡ keep p (take i l) ++ cond b (get_or l i d ∷ []) []
  kept p b e = ap (keep p) take-next ∙ keep_append p (take i l) (get_or l i d ∷ []) ∙ ap (λ (t : Bool). keep p (take i l) ++ cond t (get_or l i d ∷ []) []) e

  -- A member that passes.
  pub keep-next : (p : A → Bool) → p (get_or l i d) ≡ true → keep p (take (i + 1) l) ≡ keep p (take i l) ++ (get_or l i d ∷ [])
  keep-next p e = kept p true e

  -- A member that fails.
  pub keep-past : (p : A → Bool) → p (get_or l i d) ≡ false → keep p (take (i + 1) l) ≡ keep p (take i l)
  keep-past p e = kept p false e ∙ append-nil (keep p (take i l))
