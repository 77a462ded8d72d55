-- When `update` gives back which number.
use Rattle.std.specs.Prelude.{ℕ, ◌≡◌, Bool, cond, not, ◌&&◌, eqb}

-- The number by the tests in order: whether the words are too few, the state is consistent, the events are too many, a coordinate is out
-- of range, too few ids are left; then the number of the first event that breaks a limit.
abbrev pub number_by : Bool → Bool → Bool → Bool → Bool → ℕ → ℕ
number_by short good many out few broken = cond short 1 (cond (not good) 2 (cond many 3 (cond out 4 (cond few 5 broken))))

-- None of the first five numbers is given.
abbrev pub passes : Bool → Bool → Bool → Bool → Bool → Bool
passes short good many out few = not short && (good && (not many && (not out && not few)))

-- A number is 1 to 7 or 0 exactly when the tests say so.
pub record Exactly (n : ℕ) (short good many out few : Bool) (broken : ℕ) : Type 0 where
  pub one : eqb n 1 ≡ short
  pub two : eqb n 2 ≡ (not short && not good)
  pub three : eqb n 3 ≡ (not short && (good && many))
  pub four : eqb n 4 ≡ (not short && (good && (not many && out)))
  pub five : eqb n 5 ≡ (not short && (good && (not many && (not out && few))))
  pub six : eqb n 6 ≡ (passes short good many out few && eqb broken 6)
  pub seven : eqb n 7 ≡ (passes short good many out few && eqb broken 7)
  pub done : eqb n 0 ≡ (passes short good many out few && eqb broken 0)
