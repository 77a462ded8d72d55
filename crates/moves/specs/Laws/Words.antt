-- A move's words, read back.
use Rattle.std.specs.Prelude.{ℕ, ◌+◌, ◌≤◌, ◌≡◌, Bool, true, false, ◌&&◌, leb, length, take, drop}
use Rattle.std.proofs.Common.{arith, sym, ◌∙◌, subst, length-take-le}
use Rattle.std.proofs.Math.Path.{refl, ap}
use Rattle.std.proofs.Math.Bool.{cond}
use mathlib.Core.List.{List, [], ◌∷◌, ◌++◌}
use Rattle.std.proofs.Math.Seq.{drop-append_seam}
use Rattle.component.specs.Coord.{coord_in_range}
use Rattle.refusal.specs.Forms.{Refused, none, too_short}
use Rattle.component.specs.Stored.{stored_word, signed_word, stored}
use Rattle.component.specs.Laws.Range.{in-range-axes, range-of-stored}
use Rattle.component.specs.Laws.Tests.{both}
use Rattle.model.specs.Lists.{all, each, gather}
use Rattle.model.specs.Cells.{Cell, cell_in_range}
use Rattle.table.specs.Moves.{over}
use Rattle.neighbourhood.specs.Answers.{answer_words}
use Rattle.batch.specs.Words.{move_at, moves_in}
use Rattle.batch.proofs.Laws.Words.{moves_more, move-from}
use Rattle.metres.specs.declared.Placing.{Placing}
use Rattle.layout.specs.Widths.{move_width}
use Rattle.moves.specs.Words.{move_words, moved, move_of}

word_back : (n : ℕ) → n ≤ 3147483648 → stored_word (signed_word n) ≡ n
word_back n h = omega arith

-- The words of a move whose cell is in range stand for that move, whatever comes behind them.
pub move-back : (e : Placing) (rest : List ℕ) → coord_in_range e.cell.coord ≡ true → move_at (move_words e ++ rest) 0 ≡ move_of e
move-back e rest h =
    let r = in-range-axes (stored e.cell) (sym (range-of-stored e.cell) ∙ h) in
    let c = stored e.cell in
    λ i. (e.entity, record { grid = e.cell.grid; z = word_back c.z r.z.1 i; y = word_back c.y r.y.1 i; x = word_back c.x r.x.1 i })

-- The same at a place of a batch.
pub move-there : (s : List ℕ) (at : ℕ) (e : Placing) → at + move_width ≤ length s → coord_in_range e.cell.coord ≡ true → move_at (over s at (move_words e)) at ≡ move_of e
unfolding over
move-there s at e h k =
    let x = move_words e ++ drop (at + move_width) s in
    let l : length (take at s) ≡ at = length-take-le at s (shorter at (length s) h) in
    let seam : drop at (take at s ++ x) ≡ x = subst (λ (n : ℕ). drop n (take at s ++ x) ≡ x) l (drop-append_seam (take at s) x) in
    sym (move-from (take at s ++ x) at) ∙ ap (λ (w : List ℕ). move_at w 0) seam ∙ move-back e (drop (at + move_width) s) k
  where
    shorter : (a n : ℕ) → a + move_width ≤ n → a ≤ n
    shorter a n h = omega arith

-- One after the other.
pub moves-back : (es : List Placing) → all (λ (e : Placing). coord_in_range e.cell.coord) es ≡ true → moves_in (length es) (gather move_words es) ≡ each move_of es
moves-back [] h = unfold moves_in in refl
moves-back (e ∷ es) h =
    let p = both (coord_in_range e.cell.coord) (all (λ (d : Placing). coord_in_range d.cell.coord) es) h in
    moves_more (length es) (move_words e ++ gather move_words es)
    ∙ (λ i. move-back e (gather move_words es) p.0 i ∷ moves-back es p.1 i)

pub moves-in : (es : List Placing) → all (λ (e : Placing). coord_in_range e.cell.coord) es ≡ true → all (λ (m : ℕ × Cell). cell_in_range m.1) (each move_of es) ≡ true
moves-in [] h = refl
moves-in (e ∷ es) h =
    let p = both (coord_in_range e.cell.coord) (all (λ (d : Placing). coord_in_range d.cell.coord) es) h in
    λ i. (sym (range-of-stored e.cell) ∙ p.0) i && moves-in es p.1 i

-- What is written: nothing, or the words at their place.
module _ (s : List ℕ) (at : ℕ) (e : Placing) where
  pub moved-not : leb (at + move_width) (length s) ≡ false → (too_short, s) ≡ moved s at e
  unfolding moved
  moved-not h = ap (λ (b : Bool). cond {A = Refused × List ℕ} b (none, over s at (move_words e)) (too_short, s)) (sym h)

  pub moved-there : (t words : List ℕ) → leb (at + move_width) (length s) ≡ true → t ≡ over s at words → words ≡ move_words e → (none, t) ≡ moved s at e
  unfolding moved
  moved-there t words h p q =
      ap (λ (l : List ℕ). (none, l)) (p ∙ ap (over s at) q) ∙ ap (λ (b : Bool). cond {A = Refused × List ℕ} b (none, over s at (move_words e)) (too_short, s)) (sym h)

-- The words of a cell behind those of an entity.
pub words-made : (n : ℕ) (d : Cell) → over (n ∷ 0 ∷ 0 ∷ 0 ∷ 0 ∷ []) 1 (answer_words d) ≡ n ∷ answer_words d
unfolding over
words-made n d = refl
