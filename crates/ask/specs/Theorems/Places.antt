-- Where a refused question says that the fault is: with 2 the first broken point, with 4 the first cell that is out of range and its
-- first axis that is, with any other number nothing.
use Rattle.std.specs.Prelude.{ℕ, ◌≡◌, List, [], ◌∷◌, eqb}
use Rattle.std.proofs.Common.{arith, sym, ap, subst}
use Rattle.std.proofs.Math.Path.{refl}
use Rattle.std.proofs.Math.Bool.{Bool, true, false, cond}
use Rattle.component.specs.declared.CellCoord.{CellCoord}
use Rattle.component.specs.declared.CellId.{CellId}
use Rattle.component.specs.First.{FirstAt}
use Rattle.component.specs.Coord.{axis_in, bad_axis, coord_in_range}
use Rattle.component.specs.Theorems.{bad-axis-first}
use Rattle.refusal.specs.Forms.{Refused}
use Rattle.refusal.specs.Forms.{none, out_of_range}
use Rattle.layout.specs.Points.{long_enough, consistent_words, first_broken}
use Rattle.consistent.specs.Answer.{state_refusal}
use Rattle.ask.specs.Answers.{cell_refusal, cells_refusal}
use Rattle.ask.specs.Laws.Told.{by-cell}

-- The place of a refusal by its number: a point with 2, a position and an axis with 4.
pub record Placed (r : Refused) (point at axis : ℕ) : Type 0 where
  pub thing : r.at ≡ cond (eqb r.number 2) point (cond (eqb r.number 4) at 0)
  pub side : r.axis ≡ cond (eqb r.number 4) axis 0

-- A question about one cell.
pub cell-placed : (w : List ℕ) (c : CellId) → Placed (cell_refusal w c) (first_broken w) 0 (bad_axis c.coord)
unfolding cell_refusal state_refusal
cell-placed w c = go (long_enough w) (consistent_words w) (coord_in_range c.coord)
  where
    go : (l g i : Bool) → Placed (by-cell w c l g i) (first_broken w) 0 (bad_axis c.coord)
    go false g i = record { thing = refl; side = refl }
    go true false i = record { thing = refl; side = refl }
    go true true false = record { thing = refl; side = refl }
    go true true true = record { thing = refl; side = refl }

-- The tests of the axes of coordinates, in order.
abbrev pub axes : CellCoord → List Bool
axes p = axis_in p.x ∷ axis_in p.y ∷ axis_in p.z ∷ []

-- What 4 tells of two cells: the first where it is out of range, else the second; and the first axis of it that is.
pub record FourTells (r : Refused) (a b : CellCoord) : Type 0 where
  pub which : r.at ≡ cond (coord_in_range a) 1 0
  pub first-axis : FirstAt r.axis (axes (cond (coord_in_range a) b a))

module _ (w : List ℕ) where
  -- Of a question about one cell.
  pub cell-four : (c : CellId) → (cell_refusal w c).number ≡ 4 → ((cell_refusal w c).at ≡ 0) × FirstAt (cell_refusal w c).axis (axes c.coord)
  unfolding cell_refusal state_refusal
  cell-four c = go (long_enough w) (consistent_words w) (coord_in_range c.coord) refl
    where
      go : (l g i : Bool) → coord_in_range c.coord ≡ i → (by-cell w c l g i).number ≡ 4 → ((by-cell w c l g i).at ≡ 0) × FirstAt (by-cell w c l g i).axis (axes c.coord)
      go false g i e f = absurd (omega arith)
      go true false i e f = absurd (omega arith)
      go true true false e f = (refl, bad-axis-first c.coord e)
      go true true true e f = absurd (omega arith)

  -- Of a question about two.
  pub cells-four : (a b : CellId) → (cells_refusal w a b).number ≡ 4 → FourTells (cells_refusal w a b) a.coord b.coord
  unfolding cells_refusal cell_refusal state_refusal
  cells-four a b = go (long_enough w) (consistent_words w) (coord_in_range a.coord) (coord_in_range b.coord) refl refl
    where
      both : Bool → Bool → Bool → Bool → Refused
      both l g i j = cond (eqb (by-cell w a l g i).number 0) (cond j none (out_of_range 1 (bad_axis b.coord))) (by-cell w a l g i)

      go : (l g i j : Bool) → coord_in_range a.coord ≡ i → coord_in_range b.coord ≡ j → (both l g i j).number ≡ 4 → FourTells (both l g i j) a.coord b.coord
      go false g i j d e f = absurd (omega arith)
      go true false i j d e f = absurd (omega arith)
      go true true false j d e f =
          record {
            which = sym (ap (λ (t : Bool). cond t 1 0) d);
            first-axis = subst (λ (t : Bool). FirstAt (bad_axis a.coord) (axes (cond t b.coord a.coord))) (sym d) (bad-axis-first a.coord d);
          }
      go true true true false d e f =
          record {
            which = sym (ap (λ (t : Bool). cond t 1 0) d);
            first-axis = subst (λ (t : Bool). FirstAt (bad_axis b.coord) (axes (cond t b.coord a.coord))) (sym d) (bad-axis-first b.coord e);
          }
      go true true true true d e f = absurd (omega arith)
