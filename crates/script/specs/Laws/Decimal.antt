-- Facts on decimal digits.
use Rattle.std.specs.Prelude.{ℕ, zero, suc, ◌+◌, ◌-◌, ◌*◌, ◌/◌, ◌%◌, ◌^◌, ◌≤◌, ◌<◌, ◌≡◌, refl, Bool, true, false, List, [], ◌∷◌, ◌++◌, length, get_or, ltb}
use Rattle.std.proofs.Common.{sym, ap, ◌∙◌, pow-suc, mod-eq_of_lt, arith, ltb-true, ltb-false, lt-ltb, le-ltb, length-append}
use Rattle.std.proofs.Math.ListN.{get_or-append}
use Rattle.script.specs.Lines.{text, digits, decimal, spelled, signed}

-- The last digit of n.
abbrev last : ℕ → List ℕ
last n = (48 + n % 10) ∷ []

digits-small : (k n : ℕ) → n < 10 → digits (suc k) n ≡ last n
unfolding digits
digits-small k n h = simp (lt-ltb n 10 h)

digits_more : (k n : ℕ) → 10 ≤ n → digits (suc k) n ≡ digits k (n / 10) ++ last n
unfolding digits
digits_more k n h = simp (le-ltb n 10 h)

-- Any two numbers of steps that are enough give the same digits.
same_step : (j k n : ℕ) → n < suc j → n < suc k → (n / 10 < j → n / 10 < k → digits j (n / 10) ≡ digits k (n / 10)) → (b : Bool) → ltb n 10 ≡ b → digits (suc j) n ≡ digits (suc k) n
same_step j k n p q r true e = digits-small j n (ltb-true n 10 e) ∙ sym (digits-small k n (ltb-true n 10 e))
same_step j k n p q r false e =
    let h : 10 ≤ n = ltb-false n 10 e in
    digits_more j n h ∙ ap (λ (l : List ℕ). l ++ last n) (r (omega arith) (omega arith)) ∙ sym (digits_more k n h)

same : (j k n : ℕ) → n < j → n < k → digits j n ≡ digits k n
same zero k n p q = absurd (omega arith)
same (suc j) zero n p q = absurd (omega arith)
same (suc j) (suc k) n p q = same_step j k n p q (same j k (n / 10)) (ltb n 10) refl

-- A number below ten has one digit.
pub decimal-small : (n : ℕ) → n < 10 → decimal n ≡ (48 + n) ∷ []
unfolding decimal
decimal-small n h = digits-small n n h ∙ ap (λ (d : ℕ). (48 + d) ∷ []) (mod-eq_of_lt h)

-- Any other number has the digits of its tenth and a last one.
pub decimal-more : (n : ℕ) → 10 ≤ n → decimal n ≡ decimal (n / 10) ++ ((48 + n % 10) ∷ [])
unfolding decimal
decimal-more n h = digits_more n n h ∙ ap (λ (l : List ℕ). l ++ last n) (same n (suc (n / 10)) (n / 10) (omega arith) (omega arith))

pub length-small : (n : ℕ) → n < 10 → length (decimal n) ≡ 1
length-small n h = ap length (decimal-small n h)

pub length_more : (n : ℕ) → 10 ≤ n → length (decimal n) ≡ length (decimal (n / 10)) + 1
length_more n h = ap length (decimal-more n h) ∙ length-append (decimal (n / 10)) (last n)

long-step : (k n : ℕ) → n < 10 ^ suc k → (n / 10 < 10 ^ k → length (decimal (n / 10)) ≤ k) → (b : Bool) → ltb n 10 ≡ b → length (decimal n) ≤ suc k
long-step k n p r true e = omega (arith, length-small n (ltb-true n 10 e))
long-step k n p r false e =
    let q = pow-suc 10 k in
    let h = r (omega arith) in
    omega (arith, length_more n (ltb-false n 10 e))

-- A number below a power of ten has no more digits than that.
pub decimal-length : (k n : ℕ) → n < 10 ^ suc k → length (decimal n) ≤ suc k
decimal-length zero n p = omega (arith, length-small n p)
decimal-length (suc k) n p = long-step (suc k) n p (decimal-length k (n / 10)) (ltb n 10) refl

-- A word of 64 bits has at most twenty digits.
pub decimal-word : (n : ℕ) → n < 18446744073709551616 → length (decimal n) ≤ 20
decimal-word n h = decimal-length 19 n (omega arith)

-- A word below 2^63 is its own number.
pub signed_low : (w : ℕ) → w < 9223372036854775808 → signed w ≡ decimal w
unfolding signed
signed_low w h = simp (lt-ltb w 9223372036854775808 h)

-- Any other stands for a negative number.
pub signed_high : (w : ℕ) → 9223372036854775808 ≤ w → w < 18446744073709551616 → signed w ≡ text "-" ++ decimal (18446744073709551615 - w + 1)
unfolding signed
signed_high w h k =
    let e : 18446744073709551616 - w ≡ 18446744073709551615 - w + 1 = omega arith in
    rw (le-ltb w 9223372036854775808 h) (ap (λ (n : ℕ). text "-" ++ decimal n) e)

spelled-last : (a : ℕ) (s : List ℕ) (d : ℕ) → spelled a (s ++ (d ∷ [])) ≡ 10 * spelled a s + (d - 48)
unfolding spelled
spelled-last a [] d = refl
spelled-last a (b ∷ s) d = spelled-last (10 * a + (b - 48)) s d

spelled-small : (n : ℕ) → n < 10 → spelled 0 (decimal n) ≡ n
unfolding spelled
spelled-small n h = rw (decimal-small n h) (omega arith)

spelled_step : (n : ℕ) → (10 ≤ n → spelled 0 (decimal (n / 10)) ≡ n / 10) → (b : Bool) → ltb n 10 ≡ b → spelled 0 (decimal n) ≡ n
spelled_step n r true e = spelled-small n (ltb-true n 10 e)
spelled_step n r false e =
    let h : 10 ≤ n = ltb-false n 10 e in
    let p : spelled 0 (decimal n) ≡ spelled 0 (decimal (n / 10) ++ last n) = ap (spelled 0) (decimal-more n h) in
    let q = spelled-last 0 (decimal (n / 10)) (48 + n % 10) in
    let t = r h in
    omega arith

spelled-below : (k n : ℕ) → n < k → spelled 0 (decimal n) ≡ n
spelled-below zero n h = absurd (omega arith)
spelled-below (suc k) n h = spelled_step n (λ g. spelled-below k (n / 10) (omega arith)) (ltb n 10) refl

-- The digits of a number spell it.
pub decimal-spelled : (n : ℕ) → spelled 0 (decimal n) ≡ n
decimal-spelled n = spelled-below (suc n) n (omega arith)

first_step : (n : ℕ) → 0 < n → (10 ≤ n → (48 < get_or (decimal (n / 10)) 0 0) × (0 < length (decimal (n / 10)))) → (b : Bool) → ltb n 10 ≡ b → (48 < get_or (decimal n) 0 0) × (0 < length (decimal n))
first_step n p r true e = rw (decimal-small n (ltb-true n 10 e)) (omega arith, omega arith)
first_step n p r false e =
    let h : 10 ≤ n = ltb-false n 10 e in
    let f : get_or (decimal n) 0 0 ≡ get_or (decimal (n / 10)) 0 0 = ap (λ (l : List ℕ). get_or l 0 0) (decimal-more n h) ∙ get_or-append (decimal (n / 10)) (last n) 0 0 (r h).1 in
    let t = r h in
    let l = length_more n h in
    (omega arith, omega arith)

first_below : (k n : ℕ) → n < k → 0 < n → (48 < get_or (decimal n) 0 0) × (0 < length (decimal n))
first_below zero n h p = absurd (omega arith)
first_below (suc k) n h p = first_step n p (λ g. first_below k (n / 10) (omega arith) (omega arith)) (ltb n 10) refl

-- The first digit of a number above 0 is not `0`.
pub decimal-first : (n : ℕ) → 0 < n → 48 < get_or (decimal n) 0 0
decimal-first n p = (first_below (suc n) n (omega arith) p).0
