-- The neighbours of a cell, for every radius: how many, in cell order, within the radius, never the cell, and all such cells.
use Rattle.std.specs.Prelude.{◌≡◌, ℕ, zero, suc, ◌+◌, ◌-◌, ◌*◌, ◌/◌, ◌%◌, ◌<◌, ◌≤◌, Bool, true, ◌⊎◌, [], length, ◌≢◌, slice_index_or}
use native.Mathlib.Omega.{arith}
use Rattle.std.proofs.Common.{mod-lt, mul-le-mul_right, suc-mul, div-add-mod', ◌∙◌, subst, inl, inr, ⊎_elim, lt-ltb, le-ltb, eq-eqb}
use Rattle.std.proofs.Math.Path.{refl, sym, ap}
use mathlib.Core.List.Memᴰ.{cases_cons as mem-cons}
use mathlib.Core.List.Memᴰ.{head}
use mathlib.Core.List.Memᴰ.{not-nil as mem-nil}
use mathlib.Core.List.Memᴰ.{tail}
use mathlib.Core.List.{Memᴰ as Mem}
use Rattle.std.proofs.Math.Arith.{digits_div, digits_mod, digits_lt}
use Rattle.component.specs.Around.{side, centre, step_n, place, neighbour_at, neighbour_count, listed, around, Above, Within}
use Rattle.component.specs.Order.{before, below}
use Rattle.component.specs.Laws.Tests.{le-or-lt}
use Rattle.component.specs.declared.Cell.{Cell}

-- By quotient, and where it is equal by remainder.
lex : (n a b : ℕ) → 0 < n → a < b → (a / n < b / n) ⊎ ((a / n ≡ b / n) × (a % n < b % n))
lex n a b h p =
    ⊎_elim (λ u. ⊎_elim (λ v. inr (equal u v)) (λ v. inl v) (le-or-lt (b / n) (a / n)))
    (λ v. absurd (never v)) (le-or-lt (a / n) (b / n))
  where
    equal : a / n ≤ b / n → b / n ≤ a / n → (a / n ≡ b / n) × (a % n < b % n)
    equal u v =
        let e : a / n ≡ b / n = omega arith in
        (e, omega (arith, div-add-mod' a n, div-add-mod' b n, ap (λ (q : ℕ). q * n) e))

    never : b / n < a / n → ⊥
    never v = omega (arith, div-add-mod' a n, div-add-mod' b n, mod-lt b h, mul-le-mul_right n v, suc-mul (b / n) n)

step-mono : (m k l : ℕ) → k < l → step_n m k < step_n m l
unfolding step_n
step-mono m k l h =
    ⊎_elim
    (λ p. simp (le-ltb k m p, le-ltb l m (omega arith)) (omega arith))
    (λ p. ⊎_elim (λ q. simp (lt-ltb k m p, le-ltb l m q) (omega arith)) (λ q. simp (lt-ltb k m p, lt-ltb l m q) h) (le-or-lt m l))
    (le-or-lt m k)

first-less : (m n : ℕ) (rest : Bool) → m < n → before m n rest ≡ true
first-less m n rest h = simp (lt-ltb m n h)

first-equal : (m n : ℕ) (rest : Bool) → m ≡ n → rest ≡ true → before m n rest ≡ true
first-equal m n rest e h = simp (le-ltb m n (omega arith), eq-eqb m n e, h)

below-z : (a b : Cell) → a.grid ≡ b.grid → a.z < b.z → below a b ≡ true
below-z a b g h = first-equal a.grid b.grid _ g (first-less a.z b.z _ h)

below-y : (a b : Cell) → a.grid ≡ b.grid → a.z ≡ b.z → a.y < b.y → below a b ≡ true
below-y a b g z h = first-equal a.grid b.grid _ g (first-equal a.z b.z _ z (first-less a.y b.y _ h))

below-x : (a b : Cell) → a.grid ≡ b.grid → a.z ≡ b.z → a.y ≡ b.y → a.x < b.x → below a b ≡ true
below-x a b g z y h = first-equal a.grid b.grid _ g (first-equal a.z b.z _ z (first-equal a.y b.y _ y (lt-ltb a.x b.x h)))

place_mono : (r : ℕ) (c : Cell) → Above r c → (i j : ℕ) → i < j → below (place r c i) (place r c j) ≡ true
unfolding place
place_mono r c a i j h =
    ⊎_elim
    (λ p. ⊎_elim
    (λ q. below-z (place r c i) (place r c j) refl (omega arith))
    (λ q. below-y (place r c i) (place r c j) refl (omega arith) (omega arith))
    (lex (side r) (i / side r) (j / side r) (omega arith) p))
    (λ p. below-x (place r c i) (place r c j) refl
    (ap (λ (q : ℕ). c.z + q / side r - r) p.0) (ap (λ (q : ℕ). c.y + q % side r - r) p.0) (omega arith))
    (lex (side r) i j (omega arith) h)

-- The neighbours stand in cell order.
pub neighbours-ordered : (r : ℕ) (c : Cell) → Above r c → (k l : ℕ) → k < l → below (neighbour_at r c k) (neighbour_at r c l) ≡ true
neighbours-ordered r c a k l h = place_mono r c a (step_n (centre r) k) (step_n (centre r) l) (step-mono (centre r) k l h)

step-ne : (m k : ℕ) → step_n m k ≢ m
unfolding step_n
step-ne m k e =
    ⊎_elim
    (λ p. let h = simp (le-ltb k m p) at e in omega arith)
    (λ p. let h = simp (lt-ltb k m p) at e in omega arith)
    (le-or-lt m k)

pub step-below : (m n k : ℕ) → m < n → k < n - 1 → step_n m k < n
unfolding step_n
step-below m n k h l = ⊎_elim (λ p. simp (le-ltb k m p) (omega arith)) (λ p. simp (lt-ltb k m p) (omega arith)) (le-or-lt m k)

pub centre-below : (r : ℕ) → centre r < side r * side r * side r
centre-below r =
    digits_lt {q = r * side r + r} {m = side r * side r} {r = r} {c = side r}
    (digits_lt {q = r} {m = side r} {r = r} {c = side r} (omega arith) (omega arith)) (omega arith)

-- Below m * n, the quotient by n is below m.
pub quot_below : (n m j : ℕ) → 0 < n → j < m * n → j / n < m
quot_below n m j h p = ⊎_elim (λ q. absurd (omega (arith, mul-le-mul_right n q, div-add-mod' j n))) (λ q. q) (le-or-lt m (j / n))

place-within : (r : ℕ) (c : Cell) → Above r c → (j : ℕ) → j < side r * side r * side r → Within r c (place r c j)
unfolding place
place-within r c a j h =
    let s : 0 < side r = omega arith in
    let z = quot_below (side r) (side r) (j / side r) s (quot_below (side r) (side r * side r) j s h) in
    let y = mod-lt (j / side r) s in
    let x = mod-lt j s in
    record { grid = refl; z = omega arith; y = omega arith; x = omega arith }

-- Each neighbour is of the cell's grid and differs by at most r on each axis.
pub neighbour-within : (r : ℕ) (c : Cell) → Above r c → (k : ℕ) → k < neighbour_count r → Within r c (neighbour_at r c k)
neighbour-within r c a k h = place-within r c a (step_n (centre r) k) (step-below (centre r) (side r * side r * side r) k (centre-below r) h)

-- A place whose three digits are r is the centre.
digits-centre : (r j : ℕ) → j % side r ≡ r → j / side r % side r ≡ r → j / side r / side r ≡ r → j ≡ centre r
digits-centre r j x y z =
    let q : j / side r ≡ r * side r + r = sym (div-add-mod' (j / side r) (side r)) ∙ (λ i. z i * side r + y i) in
    sym (div-add-mod' j (side r)) ∙ (λ i. q i * side r + x i)

place_other : (r : ℕ) (c : Cell) → Above r c → (j : ℕ) → place r c j ≡ c → j ≡ centre r
unfolding place
place_other r c a j e =
    digits-centre r j
    (omega (arith, ap (λ (d : Cell). d.x) e))
    (omega (arith, ap (λ (d : Cell). d.y) e))
    (omega (arith, ap (λ (d : Cell). d.z) e))

-- No neighbour is the cell itself.
pub neighbour-other : (r : ℕ) (c : Cell) → Above r c → (k : ℕ) → neighbour_at r c k ≢ c
neighbour-other r c a k e = step-ne (centre r) k (place_other r c a (step_n (centre r) k) e)

-- The number with the digits z, y and x.
abbrev digits : ℕ → ℕ → ℕ → ℕ → ℕ
digits n z y x = (z * n + y) * n + x

-- The place of d in the block about c.
abbrev index : ℕ → Cell → Cell → ℕ
index r c d = digits (side r) (d.z + r - c.z) (d.y + r - c.y) (d.x + r - c.x)

index_below : (r : ℕ) (c d : Cell) → Within r c d → index r c d < side r * side r * side r
index_below r c d w = digits_lt (digits_lt {q = d.z + r - c.z} {m = side r} (omega arith) (omega arith)) (omega arith)

place-digits : (r : ℕ) (c : Cell) (z y x : ℕ) → z < side r → y < side r → x < side r
    → place r c (digits (side r) z y x) ≡ record { grid = c.grid; z = c.z + z - r; y = c.y + y - r; x = c.x + x - r }
unfolding place
place-digits r c z y x hz hy hx =
    let q = digits_div (z * side r + y) hx in
    λ i. record {
      grid = c.grid;
      z = c.z + (ap (λ (k : ℕ). k / side r) q ∙ digits_div z hy) i - r;
      y = c.y + (ap (λ (k : ℕ). k % side r) q ∙ digits_mod z hy) i - r;
      x = c.x + digits_mod (z * side r + y) hx i - r;
    }

place-index : (r : ℕ) (c d : Cell) → Above r c → Within r c d → place r c (index r c d) ≡ d
place-index r c d a w =
    let hz : c.z + (d.z + r - c.z) - r ≡ d.z = omega arith in
    let hy : c.y + (d.y + r - c.y) - r ≡ d.y = omega arith in
    let hx : c.x + (d.x + r - c.x) - r ≡ d.x = omega arith in
    place-digits r c (d.z + r - c.z) (d.y + r - c.y) (d.x + r - c.x) (omega arith) (omega arith) (omega arith)
    ∙ (λ i. record { grid = sym w.grid i; z = hz i; y = hy i; x = hx i })

place-centre : (r : ℕ) (c : Cell) → place r c (centre r) ≡ c
place-centre r c =
    let hz : c.z + r - r ≡ c.z = omega arith in
    let hy : c.y + r - r ≡ c.y = omega arith in
    let hx : c.x + r - r ≡ c.x = omega arith in
    place-digits r c r r r (omega arith) (omega arith) (omega arith) ∙ (λ i. record { grid = c.grid; z = hz i; y = hy i; x = hx i })

unstep : (m n j : ℕ) → m < n → j < n → (j ≢ m) → (k : ℕ) × ((k < n - 1) × (step_n m k ≡ j))
unfolding step_n
unstep m n j h l ne =
    ⊎_elim
    (λ p. let g : m < j = omega arith in
    (j - 1, (omega arith, simp (le-ltb (j - 1) m (omega arith)) (omega arith))))
    (λ p. (j, (omega arith, simp (lt-ltb j m p))))
    (le-or-lt m j)

-- Each cell within r of c, but c, is a neighbour.
pub neighbour-found : (r : ℕ) (c d : Cell) → Above r c → Within r c d → (d ≢ c)
    → (k : ℕ) × ((k < neighbour_count r) × (neighbour_at r c k ≡ d))
neighbour-found r c d a w ne =
    let here = place-index r c d a w in
    let other : index r c d ≡ centre r → ⊥ = λ e. ne (sym here ∙ ap (place r c) e ∙ place-centre r c) in
    let s = unstep (centre r) (side r * side r * side r) (index r c d) (centre-below r) (index_below r c d w) other in
    (s.0, (s.1.0, ap (place r c) s.1.1 ∙ here))

module _ {A : Type 0} (f : ℕ → A) where
  listed-length : (k n : ℕ) → length (listed f k n) ≡ n
  unfolding listed
  listed-length k zero = refl
  listed-length k (suc n) = ap suc (listed-length (suc k) n)

  listed_at : (k n i : ℕ) (d : A) → i < n → slice_index_or (listed f k n) i d ≡ f (k + i)
  unfolding listed
  listed_at k zero i d h = absurd (omega arith)
  listed_at k (suc n) zero d h = ap f (omega arith)
  listed_at k (suc n) (suc i) d h = listed_at (suc k) n i d (omega arith) ∙ ap f (omega arith)

  listed_in : (k n i : ℕ) → k ≤ i → i < k + n → Mem (f i) (listed f k n)
  unfolding listed
  listed_in k zero i h l = absurd (omega arith)
  listed_in k (suc n) i h l = go (listed_in (suc k) n i) (le-or-lt i k)
    where
      go : (suc k ≤ i → i < suc k + n → Mem (f i) (listed f (suc k) n)) → (i ≤ k) ⊎ (k < i) → Mem (f i) (listed f k (suc n))
      go rec (inl p) = let e : i ≡ k = omega arith in head (ap f e)
      go rec (inr p) = tail (rec p (omega arith))

  listed-out : (k n : ℕ) {a : A} → Mem a (listed f k n) → (i : ℕ) × ((i < k + n) × (f i ≡ a))
  unfolding listed
  listed-out k zero m = absurd (mem-nil m)
  listed-out k (suc n) {a} m = go (λ t. listed-out (suc k) n t) (mem-cons m)
    where
      go : (Mem a (listed f (suc k) n) → (i : ℕ) × ((i < suc k + n) × (f i ≡ a)))
          → (a ≡ f k) ⊎ Mem a (listed f (suc k) n) → (i : ℕ) × ((i < k + suc n) × (f i ≡ a))
      go rec (inl e) = (k, (omega arith, sym e))
      go rec (inr t) = let s = rec t in (s.0, (omega arith, s.1.1))

-- The list of the neighbours has as many as there are.
pub around-length : (r : ℕ) (c : Cell) → length (around r c) ≡ neighbour_count r
unfolding around
around-length r c = listed-length (neighbour_at r c) 0 (neighbour_count r)

-- The radius 0 has none.
pub around-none : (c : Cell) → around 0 c ≡ []
unfolding around listed
around-none c = refl

-- The radius 1 has 26.
pub around-one : (c : Cell) → length (around 1 c) ≡ 26
around-one c = around-length 1 c

-- The k-th of the list is the k-th neighbour.
pub around-at : (r : ℕ) (c d : Cell) (k : ℕ) → k < neighbour_count r → slice_index_or (around r c) k d ≡ neighbour_at r c k
unfolding around
around-at r c d k h = let e : 0 + k ≡ k = omega arith in listed_at (neighbour_at r c) 0 (neighbour_count r) k d h ∙ ap (neighbour_at r c) e

-- The list is in cell order.
pub around-ordered : (r : ℕ) (c d : Cell) → Above r c → (k l : ℕ) → k < l → l < neighbour_count r
    → below (slice_index_or (around r c) k d) (slice_index_or (around r c) l d) ≡ true
around-ordered r c d a k l h e =
    (λ i. below (around-at r c d k (omega arith) i) (around-at r c d l e i)) ∙ neighbours-ordered r c a k l h

-- A cell of the list is a neighbour.
pub around-index : (r : ℕ) (c d : Cell) → Mem d (around r c) → (k : ℕ) × ((k < neighbour_count r) × (neighbour_at r c k ≡ d))
unfolding around
around-index r c d m = let s = listed-out (neighbour_at r c) 0 (neighbour_count r) m in (s.0, (omega arith, s.1.1))

-- Each neighbour is in the list.
pub around-holds : (r : ℕ) (c : Cell) (k : ℕ) → k < neighbour_count r → Mem (neighbour_at r c k) (around r c)
unfolding around
around-holds r c k h = listed_in (neighbour_at r c) 0 (neighbour_count r) k (omega arith) (omega arith)

-- The list has only cells within r of c, and not c.
pub around-sound : (r : ℕ) (c d : Cell) → Above r c → Mem d (around r c) → Within r c d × (d ≢ c)
around-sound r c d a m =
    let s = around-index r c d m in
    (subst (Within r c) s.1.1 (neighbour-within r c a s.0 s.1.0), (λ e. neighbour-other r c a s.0 (s.1.1 ∙ e)))

-- The list has every cell within r of c, but c.
pub around-complete : (r : ℕ) (c d : Cell) → Above r c → Within r c d → (d ≢ c) → Mem d (around r c)
around-complete r c d a w ne =
    let s = neighbour-found r c d a w ne in
    subst (λ (e : Cell). Mem e (around r c)) s.1.1 (around-holds r c s.0 s.1.0)
