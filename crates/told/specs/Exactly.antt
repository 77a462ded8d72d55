-- What it means that a number is given exactly when document 01's table says so.
use Rattle.std.specs.Prelude.{ℕ, ◌≡◌, Bool, not, ◌&&◌, eqb}

-- A number is 1, 2, 4, 8 or 0 exactly when the tests say so, in that order: whether the words are long enough, are consistent, a cell
-- given is in range, and the answer is longer than its slice.
pub record Exactly (n : ℕ) (long good inside over : Bool) : Type 0 where
  pub one : eqb n 1 ≡ not long
  pub two : eqb n 2 ≡ (long && not good)
  pub four : eqb n 4 ≡ (long && (good && not inside))
  pub eight : eqb n 8 ≡ (long && (good && (inside && over)))
  pub zero : eqb n 0 ≡ (long && (good && (inside && not over)))

-- The same with 12 between 4 and 8: whether there is a path.
pub record ExactlyPath (n : ℕ) (long good inside shown over : Bool) : Type 0 where
  pub one : eqb n 1 ≡ not long
  pub two : eqb n 2 ≡ (long && not good)
  pub four : eqb n 4 ≡ (long && (good && not inside))
  pub twelve : eqb n 12 ≡ (long && (good && (inside && not shown)))
  pub eight : eqb n 8 ≡ (long && (good && (inside && (shown && over))))
  pub zero : eqb n 0 ≡ (long && (good && (inside && (shown && not over))))
