-- The axis that is told is the first that is out of its range; and any two answers that a promise of this crate allows are equal.
use Rattle.std.specs.Prelude.{◌≡◌, ℕ, zero, suc, ◌<◌, Bool, true, false, cond, ◌&&◌, List, [], ◌∷◌, slice_index_or, refl}
use Rattle.std.proofs.Common.{arith, sym, ◌∙◌, subst, ⊎_elim}
use Rattle.component.specs.declared.Cell.{Cell}
use Rattle.component.specs.declared.CellCoord.{CellCoord}
use Rattle.component.specs.First.{FirstAt}
use Rattle.component.specs.Coord.{axis_in, first_bad, bad_axis, coord_in_range}
use Rattle.component.specs.Range.{axis_in_range, cell_in_range, stored_bad_axis}
use Rattle.component.specs.Laws.Tests.{le-or-lt}

-- Each promise is one equation: the answer is what a definition f makes of what is given.
pub one_answer : {A B : Type 0} (f : A → B) (given : A) (p q : B) → p ≡ f given → q ≡ f given → p ≡ q
one_answer f given p q e g = e ∙ sym g

-- True is not false.
apart : true ≡ false → ⊥
apart e = subst (λ (b : Bool). cond b (Unit {0}) ⊥) e tt

-- Of three tests that do not all hold the first that fails is told.
first-axis : (x y z : Bool) → (x && (y && z)) ≡ false → FirstAt (first_bad x y) (x ∷ y ∷ z ∷ [])
first-axis false y z e = record { fails = refl; before = λ q h. absurd (omega arith) }
first-axis true false z e = record { fails = refl; before = go }
  where
    go : (q : ℕ) → q < 1 → slice_index_or (true ∷ false ∷ z ∷ []) q true ≡ true
    go zero h = refl
    go (suc q) h = absurd (omega arith)
first-axis true true false e = record { fails = refl; before = go }
  where
    go : (q : ℕ) → q < 2 → slice_index_or (true ∷ true ∷ false ∷ []) q true ≡ true
    go zero h = refl
    go (suc zero) h = refl
    go (suc (suc q)) h = absurd (omega arith)
first-axis true true true e = absurd (apart e)

-- The axis of coordinates that are not in range.
pub bad-axis-first : (c : CellCoord) → coord_in_range c ≡ false → FirstAt (bad_axis c) (axis_in c.x ∷ axis_in c.y ∷ axis_in c.z ∷ [])
bad-axis-first c = first-axis (axis_in c.x) (axis_in c.y) (axis_in c.z)

-- The axis of a stored cell that is not in range.
pub stored-bad-axis-first : (c : Cell) → cell_in_range c ≡ false → FirstAt (stored_bad_axis c) (axis_in_range c.x ∷ axis_in_range c.y ∷ axis_in_range c.z ∷ [])
stored-bad-axis-first c = first-axis (axis_in_range c.x) (axis_in_range c.y) (axis_in_range c.z)

-- There is one first that fails.
pub first_one : (p q : ℕ) (tests : List Bool) → FirstAt p tests → FirstAt q tests → p ≡ q
first_one p q tests f g =
    ⊎_elim
    (λ h. ⊎_elim (λ k. omega arith) (λ k. absurd (apart (sym (f.before q k) ∙ g.fails))) (le-or-lt p q))
    (λ h. absurd (apart (sym (g.before p h) ∙ f.fails)))
    (le-or-lt q p)
