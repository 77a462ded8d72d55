-- The bits of numbers: read, set, cleared, counted.
use Rattle.std.specs.Prelude.{ℕ, zero, suc, ◌+◌, ◌-◌, ◌*◌, ◌/◌, ◌%◌, ◌^◌, ◌<◌, min, max, ◌≡◌, refl, Bool, true, false, cond, ◌&&◌, ◌||◌, not, List, [], ◌∷◌, eqb, length, get_or}
use Rattle.std.proofs.Common.{pow-suc, mod-lt, arith, sym, ap, ◌∙◌, subst, shr-shr}
use Rattle.std.proofs.Math.Dec.{eqb-zero-suc, eqb-suc-zero, eqb-suc-suc}
use Rattle.std.proofs.Math.Pow.{pow-lt}
use Rattle.std.specs.Int.Bits.{bit_and, bit_or, and_step, or_step}
use Rattle.std.proofs.lemmas.Nat.{and_le_l, and_mask, or_lt}
use Rattle.std.specs.Int.Count.{ones, ones_step}
use Rattle.model.specs.Lists.{keep}
use Rattle.model.specs.Masks.{number, bit, with_bit, without_bit}

-- The lowest bit.
pub bit-low : (m : ℕ) → bit m 0 ≡ eqb (m % 2) 1
unfolding bit
bit-low m = let e : m / 1 ≡ m = omega arith in ap (λ (n : ℕ). eqb (n % 2) 1) e

-- The bits above it are those of the half.
pub bit_up : (m k : ℕ) → bit m (suc k) ≡ bit (m / 2) k
unfolding bit
bit_up m k = let e : suc k ≡ 1 + k = omega arith in ap (λ (n : ℕ). eqb (m / 2 ^ n % 2) 1) e ∙ ap (λ (n : ℕ). eqb (n % 2) 1) (sym (shr-shr m 1 k))

-- A number is twice its half and its lowest bit.
low : (b : Bool) → cond b 1 0 < 2
low true = omega arith
low false = omega arith

low_bit : (b : Bool) → eqb (cond b 1 0) 1 ≡ b
low_bit true = refl
low_bit false = refl

half : (b : Bool) (n : ℕ) → (cond b 1 0 + 2 * n) / 2 ≡ n
half b n = let h = low b in omega arith

odd : (b : Bool) (n : ℕ) → (cond b 1 0 + 2 * n) % 2 ≡ cond b 1 0
odd b n = let h = low b in omega arith

-- No bit of zero is set.
pub bit-zero : (k : ℕ) → bit 0 k ≡ false
bit-zero zero = bit-low 0
bit-zero (suc k) = bit_up 0 k ∙ bit-zero k

-- The bits of a number that is made of bits.
pub bit-number : (bs : List Bool) (k : ℕ) → bit (number bs) k ≡ get_or bs k false
bit-number [] k = bit-zero k
bit-number (b ∷ bs) zero = bit-low (number (b ∷ bs)) ∙ ap (λ (n : ℕ). eqb n 1) (odd b (number bs)) ∙ low_bit b
bit-number (b ∷ bs) (suc k) = bit_up (number (b ∷ bs)) k ∙ ap (λ (n : ℕ). bit n k) (half b (number bs)) ∙ bit-number bs k

-- It has no more bits than it is made of.
pub number-few : (bs : List Bool) → number bs < 2 ^ length bs
number-few [] = omega arith
number-few (b ∷ bs) = let h = low b in let i = number-few bs in omega (arith, pow-suc 2 (length bs))

ones_none : ones 0 ≡ 0
unfolding ones
ones_none = refl

-- Its ones are counted in it.
pub number-ones : (bs : List Bool) → ones (number bs) ≡ length (keep (λ b. b) bs)
number-ones [] = ones_none
number-ones (b ∷ bs) =
    ones_step (number (b ∷ bs))
    ∙ (λ i. odd b (number bs) i + ones (half b (number bs) i))
    ∙ ap (λ (n : ℕ). cond b 1 0 + n) (number-ones bs)
    ∙ go b
  where
    go : (b : Bool) → cond b 1 0 + length (keep (λ b. b) bs) ≡ length (cond b (b ∷ keep (λ b. b) bs) (keep (λ b. b) bs))
    go true = omega arith
    go false = omega arith

-- Numbers below a power with the same bits are equal.
pub bits-equal : (n a b : ℕ) → a < 2 ^ n → b < 2 ^ n → ((k : ℕ) → k < n → bit a k ≡ bit b k) → a ≡ b
bits-equal zero a b h k f = omega arith
bits-equal (suc n) a b h k f =
    let p = pow-suc 2 n in
    let u : a / 2 < 2 ^ n = omega arith in
    let v : b / 2 < 2 ^ n = omega arith in
    let q : a / 2 ≡ b / 2 = bits-equal n (a / 2) (b / 2) u v (λ j l. sym (bit_up a j) ∙ f (suc j) (omega arith) ∙ bit_up b j) in
    let r : a % 2 ≡ b % 2 = same-digit (a % 2) (b % 2) (mod-lt a (omega arith)) (mod-lt b (omega arith)) (sym (bit-low a) ∙ f 0 (omega arith) ∙ bit-low b) in
    omega (arith, q, r)
  where
    same-digit : (x y : ℕ) → x < 2 → y < 2 → eqb x 1 ≡ eqb y 1 → x ≡ y
    same-digit zero zero h k e = refl
    same-digit zero (suc zero) h k e = absurd (bool e)
      where
        bool : false ≡ true → ⊥
        bool e = subst (λ b. cond b ⊥ (Unit {0})) e tt
    same-digit zero (suc (suc y)) h k e = absurd (omega arith)
    same-digit (suc zero) zero h k e = absurd (bool (sym e))
      where
        bool : false ≡ true → ⊥
        bool e = subst (λ b. cond b ⊥ (Unit {0})) e tt
    same-digit (suc zero) (suc zero) h k e = refl
    same-digit (suc zero) (suc (suc y)) h k e = absurd (omega arith)
    same-digit (suc (suc x)) y h k e = absurd (omega arith)

-- A digit of two numbers joined.
digit_or : (x y : ℕ) → x < 2 → y < 2 → eqb (max x y) 1 ≡ eqb x 1 || eqb y 1
digit_or zero zero h k = refl
digit_or zero (suc zero) h k = refl
digit_or zero (suc (suc y)) h k = absurd (omega arith)
digit_or (suc zero) zero h k = refl
digit_or (suc zero) (suc zero) h k = refl
digit_or (suc zero) (suc (suc y)) h k = absurd (omega arith)
digit_or (suc (suc x)) y h k = absurd (omega arith)

max-few : (x y : ℕ) → x < 2 → y < 2 → max x y < 2
max-few zero zero h k = omega arith
max-few zero (suc zero) h k = omega arith
max-few zero (suc (suc y)) h k = absurd (omega arith)
max-few (suc zero) zero h k = omega arith
max-few (suc zero) (suc zero) h k = omega arith
max-few (suc zero) (suc (suc y)) h k = absurd (omega arith)
max-few (suc (suc x)) y h k = absurd (omega arith)

or-low : (a b : ℕ) → bit_or a b % 2 ≡ max (a % 2) (b % 2)
or-low a b = let m = max-few (a % 2) (b % 2) (mod-lt a (omega arith)) (mod-lt b (omega arith)) in omega (arith, or_step a b)

or-half : (a b : ℕ) → bit_or a b / 2 ≡ bit_or (a / 2) (b / 2)
or-half a b = let m = max-few (a % 2) (b % 2) (mod-lt a (omega arith)) (mod-lt b (omega arith)) in omega (arith, or_step a b)

-- The bits of two numbers joined are those of either.
pub bit-or : (a b k : ℕ) → bit (bit_or a b) k ≡ bit a k || bit b k
bit-or a b zero =
    bit-low (bit_or a b) ∙ ap (λ (n : ℕ). eqb n 1) (or-low a b) ∙ digit_or (a % 2) (b % 2) (mod-lt a (omega arith)) (mod-lt b (omega arith))
    ∙ (λ i. sym (bit-low a) i || sym (bit-low b) i)
bit-or a b (suc k) =
    bit_up (bit_or a b) k ∙ ap (λ (n : ℕ). bit n k) (or-half a b) ∙ bit-or (a / 2) (b / 2) k
    ∙ (λ i. sym (bit_up a k) i || sym (bit_up b k) i)

-- The one bit of a power.
pub bit-power : (n k : ℕ) → bit (2 ^ n) k ≡ eqb k n
bit-power zero zero = bit-low 1
bit-power zero (suc k) = bit_up 1 k ∙ bit-zero k ∙ sym (eqb-suc-zero k)
bit-power (suc n) zero = let e = pow-suc 2 n in let f : 2 ^ suc n % 2 ≡ 0 = omega arith in bit-low (2 ^ suc n) ∙ ap (λ (m : ℕ). eqb m 1) f ∙ sym (eqb-zero-suc n)
bit-power (suc n) (suc k) = let e = pow-suc 2 n in let f : 2 ^ suc n / 2 ≡ 2 ^ n = omega arith in bit_up (2 ^ suc n) k ∙ ap (λ (m : ℕ). bit m k) f ∙ bit-power n k ∙ sym (eqb-suc-suc k n)

pub bit-with : (m n k : ℕ) → bit (with_bit m n) k ≡ bit m k || eqb k n
bit-with m n k = bit-or m (2 ^ n) k ∙ ap (λ b. bit m k || b) (bit-power n k)

and_no : (b : Bool) → b && false ≡ false
and_no true = refl
and_no false = refl

pub and_yes : (b : Bool) → b && true ≡ b
and_yes true = refl
and_yes false = refl

-- To clear the lowest bit.
clear-low : (m : ℕ) → without_bit m 0 ≡ m - m % 2
clear-low m = ap (λ (n : ℕ). m - n) (and_mask m 1)

-- To clear a higher bit is to clear it in the half.
half-power : (n : ℕ) → 2 ^ suc n / 2 ≡ 2 ^ n
half-power n = omega (arith, pow-suc 2 n)

even_power : (n : ℕ) → 2 ^ suc n % 2 ≡ 0
even_power n = omega (arith, pow-suc 2 n)

min-zero : (x : ℕ) → x < 2 → min x 0 ≡ 0
min-zero zero h = refl
min-zero (suc zero) h = refl
min-zero (suc (suc x)) h = absurd (omega arith)

clear_up : (m n : ℕ) → without_bit m (suc n) ≡ without_bit (m / 2) n * 2 + m % 2
clear_up m n =
    let e : bit_and m (2 ^ suc n) ≡ bit_and (m / 2) (2 ^ n) * 2 + 0 =
    and_step m (2 ^ suc n) ∙ (λ i. bit_and (m / 2) (half-power n i) * 2 + min (m % 2) (even_power n i)) ∙ ap (λ (x : ℕ). bit_and (m / 2) (2 ^ n) * 2 + x) (min-zero (m % 2) (mod-lt m (omega arith))) in
    let h = and_le_l (m / 2) (2 ^ n) in
    omega arith

pub bit-without : (m n k : ℕ) → bit (without_bit m n) k ≡ bit m k && not (eqb k n)
bit-without m zero zero = let e : (m - m % 2) % 2 ≡ 0 = omega arith in ap (λ (x : ℕ). bit x 0) (clear-low m) ∙ bit-low (m - m % 2) ∙ ap (λ (x : ℕ). eqb x 1) e ∙ sym (and_no (bit m 0))
bit-without m zero (suc k) =
    let e : (m - m % 2) / 2 ≡ m / 2 = omega arith in
    ap (λ (x : ℕ). bit x (suc k)) (clear-low m) ∙ bit_up (m - m % 2) k ∙ ap (λ (x : ℕ). bit x k) e ∙ sym (bit_up m k) ∙ sym (and_yes (bit m (suc k))) ∙ ap (λ b. bit m (suc k) && not b) (sym (eqb-suc-zero k))
bit-without m (suc n) zero =
    let e : (without_bit (m / 2) n * 2 + m % 2) % 2 ≡ m % 2 = omega arith in
    ap (λ (x : ℕ). bit x 0) (clear_up m n) ∙ bit-low (without_bit (m / 2) n * 2 + m % 2) ∙ ap (λ (x : ℕ). eqb x 1) e ∙ sym (bit-low m) ∙ sym (and_yes (bit m 0)) ∙ ap (λ b. bit m 0 && not b) (sym (eqb-zero-suc n))
bit-without m (suc n) (suc k) =
    let e : (without_bit (m / 2) n * 2 + m % 2) / 2 ≡ without_bit (m / 2) n = omega arith in
    ap (λ (x : ℕ). bit x (suc k)) (clear_up m n) ∙ bit_up (without_bit (m / 2) n * 2 + m % 2) k ∙ ap (λ (x : ℕ). bit x k) e ∙ bit-without (m / 2) n k
    ∙ (λ i. sym (bit_up m k) i && not (sym (eqb-suc-suc k n) i))

-- A number below a power stays below it when a lower bit is set or any bit cleared.
pub with-few : (w m n : ℕ) → m < 2 ^ w → n < w → with_bit m n < 2 ^ w
with-few w m n h k = or_lt w m (2 ^ n) h (pow-lt k)

pub without-few : (w m n : ℕ) → m < 2 ^ w → without_bit m n < 2 ^ w
without-few w m n h = omega arith
