-- The first of some tests that fails.
use Rattle.std.specs.Prelude.{◌≡◌, ℕ, ◌<◌, Bool, true, false, List, get_or, slice_index_or}

-- The test at a place fails, and those before it hold.
pub record FirstAt (p : ℕ) (tests : List Bool) : Type 0 where
  pub fails : get_or tests p true ≡ false
  pub before : (q : ℕ) → q < p → slice_index_or tests q true ≡ true
