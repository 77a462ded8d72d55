-- The path that is shown between two cells: the fewest cells, and among as few the first in cell order.
use Rattle.std.specs.Prelude.{ℕ, zero, suc, ◌≤◌, ◌≡◌, ◌⊎◌, Bool, false, ◌&&◌, ◌||◌, T, length}
use mathlib.Core.List.{List, [], ◌∷◌, Memᴰ as Mem}
use Rattle.std.proofs.Math.Option.{Option, none, some}
use Rattle.model.specs.Lists.{keep, any, has, count}
use Rattle.model.specs.Cells.{Cell, same, below}

-- The first of a list, or the given cell if it is empty.
abbrev pub first_or : Cell → List Cell → Cell
first_or a [] = a
first_or a (c ∷ cs) = c

module _ (touch : Cell → Cell → Bool) (occupied : List Cell) (b : Cell) where
  -- The occupied cells from which n steps lead to b.
  abbrev pub steps_from : ℕ → List Cell
  steps_from zero = keep (same b) occupied
  steps_from (suc n) = keep (λ c. any (touch c) (steps_from n)) occupied

  -- The cells of n steps from a to b, each step to the least touching cell from which the steps left lead to b.
  abbrev pub walk : ℕ → Cell → List Cell
  walk zero a = a ∷ []
  walk (suc n) a = a ∷ walk n (first_or a (keep (touch a) (steps_from n)))

  -- The numbers of steps that lead from a to b, ascending; a shortest path has fewer steps than there are occupied cells.
  abbrev pub step_numbers : Cell → List ℕ
  step_numbers a = keep (λ n. has same (steps_from n) a) (count 0 (length occupied))

  -- The cells of as many steps as the first number says.
  abbrev pub walk_first : Cell → List ℕ → Option (List Cell)
  walk_first a [] = none
  walk_first a (n ∷ ns) = some (walk n a)

-- The path from a to b, if there is one.
abbrev pub shown_path : (Cell → Cell → Bool) → List Cell → Cell → Cell → Option (List Cell)
shown_path touch occupied a b = walk_first touch occupied b a (step_numbers touch occupied b a)

-- The same as a property. A list leads from a to b: it starts with a, ends with b, and each of its cells is in D and touches the next.
pub data IsPathTo (touch : Cell → Cell → Bool) (D : Cell → Type 0) (b : Cell) : Cell → List Cell → Type 0 where
  end : {a : Cell} → D a → a ≡ b → IsPathTo touch D b a (a ∷ [])
  on : {a c : Cell} {p : List Cell} → D a → T (touch a c) → IsPathTo touch D b c p → IsPathTo touch D b a (a ∷ p)

-- A list of touching occupied cells leads from a to b.
abbrev pub IsPath : (Cell → Cell → Bool) → List Cell → Cell → Cell → List Cell → Type 0
IsPath touch occupied a b p = IsPathTo touch (λ c. Mem c occupied) b a p

-- Whether one list comes before another: at the first place where they differ its cell is below the other's.
abbrev pub sooner : List Cell → List Cell → Bool
sooner [] q = false
sooner (x ∷ p) [] = false
sooner (x ∷ p) (y ∷ q) = below x y || (same x y && sooner p q)

-- What the shown path must be: a list that leads there, with the fewest cells, and before each other list of as many cells.
pub record Shown (touch : Cell → Cell → Bool) (occupied : List Cell) (a b : Cell) (p : List Cell) : Type 0 where
  pub is-path : IsPath touch occupied a b p
  pub fewest : (q : List Cell) → IsPath touch occupied a b q → length p ≤ length q
  pub first : (q : List Cell) → IsPath touch occupied a b q → length q ≡ length p → (p ≡ q) ⊎ T (sooner p q)
