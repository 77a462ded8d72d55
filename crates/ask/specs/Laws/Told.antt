-- The number that is told, from the tests of the refusals.
use Rattle.std.specs.Prelude.{ℕ, ◌≡◌, Bool, cond, not, List, eqb, ltb, length}
use Rattle.std.proofs.Math.Path.{refl}
use Rattle.std.proofs.Common.{sym, ◌∙◌, subst, eqb→eq}
use Rattle.std.proofs.Math.Bool.{true, false}
use Rattle.component.specs.declared.CellId.{CellId}
use Rattle.component.specs.Coord.{bad_axis, coord_in_range}
use Rattle.refusal.specs.Forms.{Refused}
use Rattle.refusal.specs.Forms.{none, too_short, broken, out_of_range}
use Rattle.model.proofs.Laws.Tests.{T_true}
use Rattle.layout.specs.Points.{long_enough, consistent_words, first_broken}
use Rattle.told.specs.Told.{done, refused, unless, fitted, unless_refused}
use Rattle.told.specs.Exactly.{Exactly}
use Rattle.told.specs.Laws.Numbers.{lookup-number, list-number}
use Rattle.consistent.specs.Answer.{state_refusal}
use Rattle.ask.specs.Answers.{cell_refusal}

module _ (w : List ℕ) where
  -- The refusal by the tests of the state, and then by that of a cell.
  abbrev pub by_state : Bool → Bool → Refused
  by_state l g = cond (not l) too_short (cond g none (broken (first_broken w)))

  abbrev pub by-cell : CellId → Bool → Bool → Bool → Refused
  by-cell c l g i = cond (eqb (by_state l g).number 0) (cond i none (out_of_range 0 (bad_axis c.coord))) (by_state l g)

  -- The number of a question to the state, whose answer may be longer than its slice.
  state-exact : (over : Bool) → Exactly (cond (eqb (state_refusal w).number 0) (cond over 8 0) (state_refusal w).number) (long_enough w) (consistent_words w) true over
  unfolding state_refusal
  state-exact over = go (long_enough w) (consistent_words w) over
    where
      go : (l g o : Bool) → Exactly (cond (eqb (by_state l g).number 0) (cond o 8 0) (by_state l g).number) l g true o
      go false g o = record { one = refl; two = refl; four = refl; eight = refl; zero = refl }
      go true false o = record { one = refl; two = refl; four = refl; eight = refl; zero = refl }
      go true true true = record { one = refl; two = refl; four = refl; eight = refl; zero = refl }
      go true true false = record { one = refl; two = refl; four = refl; eight = refl; zero = refl }

  -- The number of a question about a cell, whose answer may be longer than its slice.
  cell-exact : (c : CellId) (over : Bool) → Exactly (cond (eqb (cell_refusal w c).number 0) (cond over 8 0) (cell_refusal w c).number) (long_enough w) (consistent_words w) (coord_in_range c.coord) over
  unfolding cell_refusal state_refusal
  cell-exact c over = go (long_enough w) (consistent_words w) (coord_in_range c.coord) over
    where
      go : (l g i o : Bool) → Exactly (cond (eqb (by-cell c l g i).number 0) (cond o 8 0) (by-cell c l g i).number) l g i o
      go false g i o = record { one = refl; two = refl; four = refl; eight = refl; zero = refl }
      go true false i o = record { one = refl; two = refl; four = refl; eight = refl; zero = refl }
      go true true false o = record { one = refl; two = refl; four = refl; eight = refl; zero = refl }
      go true true true true = record { one = refl; two = refl; four = refl; eight = refl; zero = refl }
      go true true true false = record { one = refl; two = refl; four = refl; eight = refl; zero = refl }

  -- A number that refuses, or 0.
  plain : (n : ℕ) → cond (eqb n 0) 0 n ≡ n
  plain n = go (eqb n 0) refl
    where
      go : (b : Bool) → eqb n 0 ≡ b → cond b 0 n ≡ n
      go true e = sym (eqb→eq n 0 (T_true e))
      go false e = refl

  -- A lookup.
  pub lookup-exactly : {B : Type 0} (v : B) → Exactly (unless (state_refusal w) refused (done v)).number (long_enough w) (consistent_words w) true false
  lookup-exactly v = subst (λ (n : ℕ). Exactly n (long_enough w) (consistent_words w) true false) (plain (state_refusal w).number ∙ sym (lookup-number (state_refusal w) v)) (state-exact false)

  -- A lookup by a cell.
  pub cell-exactly : {B : Type 0} (c : CellId) (v : B) → Exactly (unless (cell_refusal w c) refused (done v)).number (long_enough w) (consistent_words w) (coord_in_range c.coord) false
  cell-exactly c v =
      subst (λ (n : ℕ). Exactly n (long_enough w) (consistent_words w) (coord_in_range c.coord) false) (plain (cell_refusal w c).number ∙ sym (lookup-number (cell_refusal w c) v)) (cell-exact c false)

  -- A list.
  pub list-exactly : {B : Type 0} (v : B) (words answer : List ℕ)
      → Exactly (unless_refused (state_refusal w) answer (fitted v words answer)).0.number (long_enough w) (consistent_words w) true (ltb (length answer) (length words))
  list-exactly v words answer =
      let over : Bool = ltb (length answer) (length words) in
      subst (λ (n : ℕ). Exactly n (long_enough w) (consistent_words w) true over) (sym (list-number (state_refusal w) v words answer)) (state-exact over)

  -- A list by a cell.
  pub cell-list-exactly : {B : Type 0} (c : CellId) (v : B) (words answer : List ℕ)
      → Exactly (unless_refused (cell_refusal w c) answer (fitted v words answer)).0.number (long_enough w) (consistent_words w) (coord_in_range c.coord) (ltb (length answer) (length words))
  cell-list-exactly c v words answer =
      let over : Bool = ltb (length answer) (length words) in
      subst (λ (n : ℕ). Exactly n (long_enough w) (consistent_words w) (coord_in_range c.coord) over) (sym (list-number (cell_refusal w c) v words answer)) (cell-exact c over)
