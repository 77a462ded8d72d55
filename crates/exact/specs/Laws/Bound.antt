-- How far a number of units is from the nearest float, and that rounding does not pass a whole number of metres.
use Rattle.std.specs.Prelude.{◌≡◌, Bool, true, false, not, cond, T, eqb, ltb, ℤ, pos, neg_ℤ, nat_abs, ◌-ℤ◌}
use Rattle.std.proofs.Common.{sym, ap, ◌∙◌, subst, mul_comm, mul_assoc, mul_right_comm, add-mul, suc-mul, mul-pos, mul-div_cancel, mul-le-mul_right, le_trans, le_of_eq, le_of_lt, lt_of_lt_of_le, lt_of_le_of_lt, le_of_mul-le-mul_right, lt_of_mul-lt-mul_right, div-add-mod', mod-lt, arith, leb→le, eqb→eq, lit≤, pow-add, pow_pos, pow_mono}
use Prim.Native.Nat.{ℕ, zero, suc, ◌+◌, ◌-◌, ◌*◌, ◌/◌, ◌%◌, ◌^◌, ◌≤◌, ◌<◌, compare, Ordering}
use Rattle.std.proofs.Math.Dec.{is_le, compare_is_eq, nleb→lt, eqb_refl}
use Rattle.std.proofs.Math.Arith.{lt_of_le-ne}
use Rattle.std.specs.Float.{binary64}
use Rattle.std.specs.Float.Ieee.{round, size, nearest as nearest_to}
use Rattle.std.specs.Float.Ieee.Digits.{size-le, back}
use Rattle.std.specs.Float.Ieee.Nearest.{closest}
use Rattle.std.specs.Float.Ieee.Order.{drop, kept}
use Rattle.std.specs.Float.Ieee.Scale.{overflow, round_val}
use Rattle.exact.specs.Units.{metre, exact, nearest}
use Rattle.exact.specs.Laws.Units.{units-of}
use Rattle.exact.specs.Laws.Round.{apart}

-- ---- a fraction to the nearest whole number is off by half at most
abbrev Cmp : Ordering → ℕ → ℕ → Type 0
Cmp Ordering.lt a b = a < b
Cmp Ordering.eq a b = a ≡ b
Cmp Ordering.gt a b = b < a

cmp : (a b : ℕ) → Cmp (compare a b) a b
cmp a b = go (compare a b) (leb→le a b) (nleb→lt a b) (eqb→eq a b) (λ (e : a ≡ b). subst (λ (x : ℕ). T (eqb a x)) e (eqb_refl a))
  where
    go : (o : Ordering) → (T (is_le o) → a ≤ b) → (T (not (is_le o)) → b < a) → (T (compare_is_eq o) → a ≡ b) → (a ≡ b → T (compare_is_eq o)) → Cmp o a b
    go Ordering.lt h k e n = lt_of_le-ne (h tt) n
    go Ordering.eq h k e n = e tt
    go Ordering.gt h k e n = k tt

-- x * b is within half of b of a
abbrev Half : ℕ → ℕ → ℕ → Type 0
Half x a b = (x * b * 2 ≤ a * 2 + b) × (a * 2 ≤ x * b * 2 + b)

-- with the whole part w * b and the rest r
at_most : (v r a b : ℕ) → v + r ≡ a → r * 2 ≤ b → (v * 2 ≤ a * 2 + b) × (a * 2 ≤ v * 2 + b)
at_most v r a b e h = (one v r a b e h, two v r a b e h)
  where
    one : (v r a b : ℕ) → v + r ≡ a → r * 2 ≤ b → v * 2 ≤ a * 2 + b
    one v r a b e h = omega arith

    two : (v r a b : ℕ) → v + r ≡ a → r * 2 ≤ b → a * 2 ≤ v * 2 + b
    two v r a b e h = omega arith

at_least : (v r a b : ℕ) → v + r ≡ a → r < b → b ≤ r * 2 → ((v + b) * 2 ≤ a * 2 + b) × (a * 2 ≤ (v + b) * 2 + b)
at_least v r a b e l h = (one v r a b e l h, two v r a b e l h)
  where
    one : (v r a b : ℕ) → v + r ≡ a → r < b → b ≤ r * 2 → (v + b) * 2 ≤ a * 2 + b
    one v r a b e l h = omega arith

    two : (v r a b : ℕ) → v + r ≡ a → r < b → b ≤ r * 2 → a * 2 ≤ (v + b) * 2 + b
    two v r a b e l h = omega arith

half_at : (w r a b : ℕ) (o : Ordering) → w * b + r ≡ a → r < b → Cmp o (r * 2) b → Half (nearest_to w o) a b
half_at w r a b Ordering.lt e l h = at_most (w * b) r a b e (le_of_lt h)
half_at w r a b Ordering.eq e l h = go (w % 2) (even w)
  where
    even : (w : ℕ) → w % 2 < 2
    even w = omega arith

    none : (w : ℕ) → w + 0 ≡ w
    none w = omega arith

    many : (n : ℕ) → suc (suc n) < 2 → ⊥
    many n h = omega arith

    go : (p : ℕ) → p < 2 → Half (w + p) a b
    go zero q = subst (λ (x : ℕ). Half x a b) (sym (none w)) (at_most (w * b) r a b e (le_of_eq h))
    go (suc zero) q = subst (λ (x : ℕ). (x * 2 ≤ a * 2 + b) × (a * 2 ≤ x * 2 + b)) (sym (ap (λ (x : ℕ). x * b) (add1 w) ∙ suc-mul w b)) (at_least (w * b) r a b e l (le_of_eq (sym h)))
      where
        add1 : (w : ℕ) → w + 1 ≡ suc w
        add1 w = omega arith
    go (suc (suc n)) q = absurd (many n q)
half_at w r a b Ordering.gt e l h = subst (λ (x : ℕ). (x * 2 ≤ a * 2 + b) × (a * 2 ≤ x * 2 + b)) (sym (suc-mul w b)) (at_least (w * b) r a b e l (le_of_lt h))

closest-half : (a b : ℕ) → 0 < b → Half (closest a b) a b
closest-half a b B = half_at (a / b) (a % b) a b (compare (a % b * 2) b) (div-add-mod' a b) (mod-lt a B) (cmp (a % b * 2) b)

-- ---- in units, with k digits dropped: within half of 2 ^ k
abbrev pub dropped : ℕ → ℕ
dropped n = drop 53 (n * 2 ^ 1074) (2 ^ 1074)

abbrev pub rounded : ℕ → ℕ
rounded n = kept 53 (n * 2 ^ 1074) (2 ^ 1074) * 2 ^ dropped n

module _ (x n L p : ℕ) (pl : 0 < L) where
  cancel : Half x (n * L) (L * p) → (x * p * 2 ≤ n * 2 + p) × (n * 2 ≤ x * p * 2 + p)
  cancel h = (
    le_of_mul-le-mul_right (le_trans (le_of_eq (left)) (le_trans h.0 (le_of_eq right))) pl,
    le_of_mul-le-mul_right (le_trans (le_of_eq (mul_right_comm n 2 L)) (le_trans h.1 (le_of_eq other))) pl,
  )
    where
      left : x * p * 2 * L ≡ x * (L * p) * 2
      left = mul_right_comm (x * p) 2 L ∙ ap (λ (y : ℕ). y * 2) (mul_assoc x p L ∙ ap (λ (y : ℕ). x * y) (mul_comm p L))

      right : n * L * 2 + L * p ≡ (n * 2 + p) * L
      right = sym (add-mul (n * 2) p L ∙ (λ i. mul_right_comm n 2 L i + mul_comm p L i))

      other : x * (L * p) * 2 + L * p ≡ (x * p * 2 + p) * L
      other = sym (add-mul (x * p * 2) p L ∙ (λ i. left i + mul_comm p L i))

pub rounded-half : (n : ℕ) → (rounded n * 2 ≤ n * 2 + 2 ^ dropped n) × (n * 2 ≤ rounded n * 2 + 2 ^ dropped n)
rounded-half n = cancel (kept 53 (n * 2 ^ 1074) (2 ^ 1074)) n (2 ^ 1074) (2 ^ dropped n) (pow_pos 1074) (closest-half (n * 2 ^ 1074) (2 ^ 1074 * 2 ^ dropped n) (mul-pos (pow_pos 1074) (pow_pos (dropped n))))

few : (z : ℕ) → z ≤ 1080 → z - 53 ≤ 1027
few z h = omega arith

dropped-le : (n : ℕ) → n < 2 ^ 1080 → dropped n ≤ 1027
dropped-le n h = few (size (n * 2 ^ 1074 / 2 ^ 1074)) (size-le (n * 2 ^ 1074 / 2 ^ 1074) 1080 (subst (λ (x : ℕ). x < 2 ^ 1080) (sym (mul-div_cancel n (pow_pos 1074))) h))

-- ---- the units of the nearest float
bounded : (g n p q : ℕ) → g * 2 ≤ n * 2 + p → p ≤ q → n < q → g < q + q
bounded g n p q h k l = omega arith

pub exact-nearest : (n : ℕ) → n < 2 ^ 1080 → exact (nearest (pos n)) ≡ pos (rounded n)
unfolding nearest metre
exact-nearest n h =
    let k : 2 ^ dropped n ≤ 2 ^ 1080 = pow_mono {i = dropped n} {j = 1080} (le_trans (dropped-le n h) (lit≤ tt)) in
    let small : rounded n < overflow binary64 = lt_of_lt_of_le (bounded (rounded n) n (2 ^ dropped n) (2 ^ 1080) (rounded-half n).0 k h) (lit≤ tt) in
    units-of (round binary64 false n (2 ^ 1074)) false (rounded n) (2 ^ 1074) (pow_pos 1074) (round_val binary64 n (2 ^ 1074) small)
    ∙ ap pos (mul-div_cancel (rounded n) (pow_pos 1074))

-- ---- at most 2 ^ 1026 units, which is 2 ^ -48 m, from n
apart_by : (g n p q : ℕ) → g * 2 ≤ n * 2 + p → n * 2 ≤ g * 2 + p → p ≤ q * 2 → (g - n ≤ q) × (n - g ≤ q)
apart_by g n p q h k l = (one g n p q h l, one n g p q k l)
  where
    one : (g n p q : ℕ) → g * 2 ≤ n * 2 + p → p ≤ q * 2 → g - n ≤ q
    one g n p q h l = omega arith

nat_abs-cond : (t : Bool) (a b q : ℕ) → a ≤ q → b ≤ q → nat_abs (cond t (neg_ℤ (pos a)) (pos b)) ≤ q
nat_abs-cond true zero b q h k = h
nat_abs-cond true (suc a) b q h k = h
nat_abs-cond false a b q h k = k

pub close : (n : ℕ) → n < 2 ^ 1080 → nat_abs (exact (nearest (pos n)) -ℤ pos n) ≤ 2 ^ 1026
close n h =
    let g = rounded n in
    let d = apart_by g n (2 ^ dropped n) (2 ^ 1026) (rounded-half n).0 (rounded-half n).1 (le_trans (pow_mono (dropped-le n h)) (lit≤ tt)) in
    subst (λ (z : ℤ). nat_abs z ≤ 2 ^ 1026) (sym (ap (λ (z : ℤ). z -ℤ pos n) (exact-nearest n h) ∙ apart g n))
    (nat_abs-cond (ltb g n) (n - g) (g - n) (2 ^ 1026) d.1 d.0)

-- ---- rounding does not pass a number that is a multiple of 2 ^ k
stays : (x m p n : ℕ) → 0 < p → x * p * 2 ≤ n * 2 + p → n < m * p → x * p ≤ m * p
stays x m p n P h l = mul-le-mul_right p (go x m (lt_of_mul-lt-mul_right p (lt_of_le_of_lt (le_of_eq (mul_right_comm x 2 p)) (lt_of_lt_of_le (over (x * p * 2) n p (m * p) h l) (le_of_eq (same m p))))))
  where
    over : (a n p b : ℕ) → a ≤ n * 2 + p → n < b → a < b * 2 + p
    over a n p b h l = omega arith

    same : (m p : ℕ) → m * p * 2 + p ≡ (m * 2 + 1) * p
    same m p = sym (add-mul (m * 2) 1 p ∙ (λ i. mul_right_comm m 2 p i + one-p p i))
      where
        one-p : (p : ℕ) → 1 * p ≡ p
        one-p p = omega arith

    go : (x m : ℕ) → x * 2 < m * 2 + 1 → x ≤ m
    go x m h = omega arith

pub stays-under : (n c : ℕ) → n < 2 ^ 1080 → n < c * metre → exact (nearest (pos n)) ≡ pos (rounded n) → rounded n ≤ c * metre
unfolding metre
stays-under n c h l e =
    let k = dropped n in
    let K : k ≤ 1074 = le_trans (dropped-le n h) (lit≤ tt) in
    let same : c * 2 ^ 1074 ≡ c * 2 ^ (1074 - k) * 2 ^ k = ap (λ (x : ℕ). c * x) (ap (λ (x : ℕ). 2 ^ x) (sym (back 1074 k K)) ∙ pow-add 2 (1074 - k) k) ∙ sym (mul_assoc c (2 ^ (1074 - k)) (2 ^ k)) in
    le_trans (stays (kept 53 (n * 2 ^ 1074) (2 ^ 1074)) (c * 2 ^ (1074 - k)) (2 ^ k) n (pow_pos k) (rounded-half n).0 (subst (λ (x : ℕ). n < x) same l)) (le_of_eq (sym same))
