-- The numbers 1 to 26 stand for the neighbours of a cell, one for each.
use Rattle.std.specs.Prelude.{ℕ, suc, ◌+◌, ◌-◌, ◌/◌, ◌%◌, ◌<◌, ◌≤◌, ◌≡◌, true, cond, ◌&&◌, ltb}
use native.Mathlib.Omega.{arith}
use Rattle.std.proofs.Math.Path.{sym}
use Rattle.std.proofs.Common.{ap, ◌∙◌, ⊎_elim, lt-ltb, le-ltb}
use Rattle.component.specs.declared.Cell.{Cell}
use Rattle.std.specs.Prelude.{Some, None}
use Rattle.component.specs.Around.{step_n, place, neighbour_at, Above, Within}
use Rattle.component.specs.Adjacent.{has_room}
use Rattle.component.specs.Laws.Adjacent.{room-above}
use Rattle.component.specs.Laws.Tests.{le-or-lt}
use Rattle.component.specs.Touch.{touches}
use Rattle.component.specs.Laws.Touch.{touches-within, neighbour-is-touching}
use Rattle.layout.specs.Rows.{number_of, or_self, neighbour_of}
use Rattle.model.specs.Places.{place_in, slot_of}
use Rattle.model.proofs.Laws.Slots.{slot-low, slot-high}

-- The number of a place of the block, the centre left out.
abbrev numbered : ℕ → ℕ
numbered j = suc (slot_of j)

numbered-low : (j : ℕ) → j < 13 → numbered j ≡ suc j
numbered-low j h = ap suc (slot-low j h)

numbered-high : (j : ℕ) → 13 ≤ j → numbered j ≡ j
numbered-high j h = ap suc (slot-high j h) ∙ omega arith

-- The place of a number, from 1.
step-low : (k : ℕ) → k < 13 → step_n 13 k ≡ k
unfolding step_n
step-low k h = simp (lt-ltb k 13 h)

step-high : (k : ℕ) → 13 ≤ k → step_n 13 k ≡ k + 1
unfolding step_n
step-high k h = simp (le-ltb k 13 h)

-- The number of the place of a number is that number.
number_step : (k : ℕ) → numbered (step_n 13 k) ≡ k + 1
number_step k =
    ⊎_elim
    (λ h. ap numbered (step-high k h) ∙ numbered-high (k + 1) (omega arith))
    (λ h. ap numbered (step-low k h) ∙ numbered-low k h ∙ omega arith)
    (le-or-lt 13 k)

-- The place of the number of a place is that place, but for the centre.
step-number : (j : ℕ) → (j ≡ 13 → ⊥) → step_n 13 (numbered j - 1) ≡ j
step-number j n =
    ⊎_elim
    (λ h. let g : 13 < j = omega arith in
    ap (λ (m : ℕ). step_n 13 (m - 1)) (numbered-high j h) ∙ step-high (j - 1) (omega arith) ∙ omega arith)
    (λ h. let e : suc j - 1 ≡ j = omega arith in
    ap (λ (m : ℕ). step_n 13 (m - 1)) (numbered-low j h) ∙ ap (step_n 13) e ∙ step-low j h)
    (le-or-lt 13 j)

-- The steps between two numbers that are close are opposite.
step-opposite : (m n : ℕ) → (m ≤ n + 1) × (n ≤ m + 1) → (m + 1 - n) + (n + 1 - m) ≡ 2
step-opposite m n h = omega arith

-- Opposite places have opposite numbers.
number-opposite : (m n : ℕ) → m + n ≡ 26 → (n ≡ 13 → ⊥) → numbered m ≡ 27 - numbered n
number-opposite m n e f =
    ⊎_elim
    (λ h. let g : 13 < n = omega arith in numbered-low m (omega arith) ∙ omega (arith, numbered-high n h))
    (λ h. numbered-high m (omega arith) ∙ omega (arith, numbered-low n h))
    (le-or-lt 13 n)

module _ (c d : Cell) (w : Within 1 c d) where
  -- A cell of the block is at its place.
  place-back : Above 1 c → place 1 c (place_in c d) ≡ d
  unfolding place
  place-back a =
      let z : c.z + place_in c d / 3 / 3 - 1 ≡ d.z = omega arith in
      let y : c.y + place_in c d / 3 % 3 - 1 ≡ d.y = omega arith in
      let x : c.x + place_in c d % 3 - 1 ≡ d.x = omega arith in
      λ i. record { grid = sym w.grid i; z = z i; y = y i; x = x i }

  -- Only the cell itself is at the centre.
  off-centre : (d ≡ c → ⊥) → place_in c d ≡ 13 → ⊥
  off-centre n e =
      let z : d.z ≡ c.z = omega arith in
      let y : d.y ≡ c.y = omega arith in
      let x : d.x ≡ c.x = omega arith in
      n (λ i. record { grid = w.grid i; z = z i; y = y i; x = x i })

  place-small : place_in c d < 27
  place-small = omega arith

  -- The two places of two cells in each other's blocks are opposite.
  place-opposite : place_in d c + place_in c d ≡ 26
  place-opposite =
      omega (arith, step-opposite c.z d.z w.z, step-opposite c.y d.y w.y, step-opposite c.x d.x w.x)

-- The place of the cell at a place is that place.
place-there : (c : Cell) (j : ℕ) → Above 1 c → j < 27 → place_in c (place 1 c j) ≡ j
unfolding place
place-there c j a h = omega arith

module _ (c : Cell) (room : has_room 1 c ≡ true) where
  -- A neighbour by its number.
  pub neighbour-at : (n : ℕ) → 1 ≤ n → n ≤ 26 → neighbour_of c n ≡ neighbour_at 1 c (n - 1)
  neighbour-at n h k =
      let l : ltb (n - 1) 26 ≡ true = lt-ltb (n - 1) 26 (omega arith) in
      λ i. or_self c (cond (l i && room i) (Some (neighbour_at 1 c (n - 1))) None)

  -- The neighbour with a number touches the cell.
  pub neighbour-touches : (n : ℕ) → 1 ≤ n → n ≤ 26 → touches c (neighbour_of c n) ≡ true
  neighbour-touches n h k =
      ap (touches c) (neighbour-at n h k) ∙ neighbour-is-touching c (room-above 1 c room) (n - 1) (omega arith)

  step_small : (k : ℕ) → k < 26 → step_n 13 k < 27
  step_small k h = ⊎_elim (λ g. omega (arith, step-high k g)) (λ g. omega (arith, step-low k g)) (le-or-lt 13 k)

  -- The number of the neighbour with a number is that number.
  pub number-of-neighbour : (n : ℕ) → 1 ≤ n → n ≤ 26 → number_of c (neighbour_of c n) ≡ n
  number-of-neighbour n h k =
      ap (number_of c) (neighbour-at n h k)
      ∙ ap numbered (place-there c (step_n 13 (n - 1)) (room-above 1 c room) (step_small (n - 1) (omega arith)))
      ∙ number_step (n - 1)
      ∙ omega arith

module _ (c d : Cell) (t : touches c d ≡ true) where
  -- The number of a touching cell is from 1 to 26.
  pub number-range : (1 ≤ number_of c d) × (number_of c d ≤ 26)
  number-range =
      let p = touches-within c d t in
      let s = place-small c d p.0 in
      ⊎_elim
      (λ h. let e = numbered-high (place_in c d) h in let f = off-centre c d p.0 p.1 in (omega arith, omega arith))
      (λ h. let e = numbered-low (place_in c d) h in (omega arith, omega arith))
      (le-or-lt 13 (place_in c d))

  -- The neighbour with the number of a touching cell is that cell.
  pub neighbour-of-number : has_room 1 c ≡ true → neighbour_of c (number_of c d) ≡ d
  neighbour-of-number room =
      let p = touches-within c d t in
      let r = number-range in
      neighbour-at c room (number_of c d) r.0 r.1
      ∙ ap (place 1 c) (step-number (place_in c d) (off-centre c d p.0 p.1))
      ∙ place-back c d p.0 (room-above 1 c room)

  -- The number of a cell in the list of a touching cell.
  pub number-back : number_of d c ≡ 27 - number_of c d
  number-back =
      let p = touches-within c d t in
      number-opposite (place_in d c) (place_in c d) (place-opposite c d p.0) (off-centre c d p.0 p.1)
