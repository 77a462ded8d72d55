-- The scratch of keeping is a table: place j has two words, a mark and a grid, and is free where the mark is 0.
use Rattle.std.specs.Prelude.{ℕ, suc, ◌+◌, ◌*◌, ◌/◌, ◌%◌, ◌<◌, ◌≤◌, ◌≡◌, cond, List, [], ◌∷◌, length, get_or, eqb}
use Rattle.settings.specs.Records.{grid_of}
use Rattle.settings.specs.Keeping.{joined}

-- How many places there are.
abbrev pub places_of : List ℕ → ℕ
places_of t = length t / 2

-- The mark at a place.
abbrev pub mark_at : List ℕ → ℕ → ℕ
mark_at t j = get_or t (2 * j) 0

-- The grid at a place.
abbrev pub grid_at : List ℕ → ℕ → ℕ
grid_at t j = get_or t (2 * j + 1) 0

-- The first of n places that a grid may have: grids are spread over the lower fifteen sixteenths.
unfoldable pub home_of : ℕ → ℕ → ℕ
home_of g n = g % 4294967291 * 2654435761 / 65536 % (n / 16 * 15 + 1)

-- The mark of a grid: one more than the bytes behind its last record; `mark` where it has none.
unfoldable pub mark_of : ℕ → ℕ → List (List ℕ) → ℕ
mark_of g mark [] = mark
mark_of g mark (r ∷ rs) = mark_of g (cond (eqb (grid_of r) g) (suc (length (joined rs))) mark) rs

-- The marks f, but m for the grid g.
abbrev pub noted : ℕ → ℕ → (ℕ → ℕ) → ℕ → ℕ
noted g m f x = cond (eqb g x) m (f x)

-- Place k is the first from the home of g on that is free or has g, or there is none and k is the number of places.
pub record Probed (t : List ℕ) (g k : ℕ) : Type 0 where
  pub from : home_of g (places_of t) ≤ k
  pub within : k ≤ places_of t
  pub passed : (i : ℕ) → home_of g (places_of t) ≤ i → i < k → (0 < mark_at t i) × (grid_at t i ≡ g → ⊥)
  pub stands : k < places_of t → 0 < mark_at t k → grid_at t k ≡ g

-- The table knows the marks f of the grids that it has, each once, with no free place between a grid's home and its place.
pub record Known (f : ℕ → ℕ) (t : List ℕ) : Type 0 where
  pub inside : (j : ℕ) → 0 < mark_at t j → j < places_of t
  pub home : (j : ℕ) → 0 < mark_at t j → home_of (grid_at t j) (places_of t) ≤ j
  pub reach : (j i : ℕ) → 0 < mark_at t j → home_of (grid_at t j) (places_of t) ≤ i → i < j → 0 < mark_at t i
  pub says : (j : ℕ) → 0 < mark_at t j → mark_at t j ≡ f (grid_at t j)
  pub once : (i j : ℕ) → 0 < mark_at t i → 0 < mark_at t j → grid_at t i ≡ grid_at t j → i ≡ j
