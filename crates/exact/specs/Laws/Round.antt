-- A difference of two floats with one rounding is the float nearest to the difference of their units.
use Rattle.std.specs.Prelude.{◌≡◌, refl, Bool, true, false, not, ◌&&◌, T, ℤ, pos, negsuc, neg_ℤ, ◌+ℤ◌, ◌-ℤ◌, Float}
use Rattle.std.proofs.Common.{sym, ◌∙◌, subst, zero-mul, zero-lt-suc, mul_comm, mul-pos, mul-div_cancel, lt_of_lt_of_le, lt_irrefl, lt_of_not-le, le_trans, le-div_iff_mul-le, one-mul, le_of_eq, add-zero, arith, ltb→lt, nltb→le, pow_pos, pow_mono}
use Rattle.std.proofs.Math.Path.{ap}
use Prim.Native.Nat.{ℕ, zero, suc, ◌+◌, ◌-◌, ◌*◌, ◌/◌, ◌%◌, ◌^◌, ◌≤◌, ◌<◌, compare}
use Rattle.std.proofs.Math.Nat.{mul-sub, div-div-eq-div-mul, sub-zero}
use Rattle.std.specs.Bool.{beq}
use Rattle.std.proofs.Math.Bool.{cond}
use Rattle.std.proofs.Math.Dec.{ltb}
use Rattle.std.proofs.Math.IntN.{neg_ℤ-neg_ℤ, neg_ℤ-+ℤ}
use Rattle.std.specs.Float.{nan, inf, fin, Format, binary64}
use Rattle.std.specs.Float.Ieee.{prec, emax, low, up, down, fits, size, odd, units as units_of, round, sum, sub}
use Rattle.std.specs.Float.Ieee.Digits.{size-lt, size_reaches}
use Rattle.std.specs.Float.Ieee.Fits.{down_pos, round_is}
use Rattle.std.specs.Float.Ieee.Exact.{HasValue, odd_sign}
use Rattle.std.specs.Float.Ieee.Nearest.{nearest-ge}
use Rattle.std.specs.Float.Ieee.Order.{drop, kept}
use Rattle.std.specs.Float.Ieee.Scale.{finite, round_same}
use Rattle.exact.specs.Units.{metre, signed, exact, nearest}
use Rattle.exact.specs.Laws.Units.{metre-pos, units, own, lt_same, plus-over, left_over, right-over}

-- The same number, and a zero as plus zero.
abbrev pub plus : Float → Float
plus nan = nan
plus (inf s) = inf s
plus (fin false m e) = fin false m e
plus (fin true zero e) = fin false zero e
plus (fin true (suc m) e) = fin true (suc m) e

-- ---- what is rounded with a plus is no minus zero
plus-odd : (d q k l : ℕ) → plus (odd d false q k l) ≡ odd d false q k l
unfolding odd
plus-odd d zero k l = refl
plus-odd d (suc q) k l = refl

plus-units : (f : Format) (q k : ℕ) → plus (units_of f false q k) ≡ units_of f false q k
unfolding units_of
plus-units f q k = go (ltb (q * 2 ^ k) (2 ^ (low f + suc (emax f))))
  where
    go : (b : Bool) → plus (cond b (odd (suc (prec f)) false q k (low f)) (inf false)) ≡ cond b (odd (suc (prec f)) false q k (low f)) (inf false)
    go true = plus-odd (suc (prec f)) q k (low f)
    go false = refl

pub plus-round : (f : Format) (a c : ℕ) → plus (round f false a c) ≡ round f false a c
plus-round f a c = subst (λ (x : Float). plus x ≡ x) (sym (round_is f false a c)) (plus-units f (kept (prec f) (a * 2 ^ low f) c) (drop (prec f) (a * 2 ^ low f) c))

-- ---- nor is what is rounded from a number of units that is not zero
none : (a d : ℕ) → 0 < a → 0 < d → 0 ≡ a * d → ⊥
none a d A D e = lt_irrefl 0 (subst (λ (x : ℕ). 0 < x) (sym e) (mul-pos A D))

plus_val : (x : Float) (a c : ℕ) → 0 < a → HasValue x true a c → plus x ≡ x
plus_val nan a c A h = absurd h
plus_val (inf s) a c A h = absurd h
plus_val (fin false m e) a c A h = refl
plus_val (fin true zero e) a c A h = absurd (none a (down e) A (down_pos e) (sym (ap (λ (x : ℕ). x * c) (zero-mul (up e)) ∙ zero-mul c) ∙ h.1))
plus_val (fin true (suc m) e) a c A h = refl

plus-units-true : (f : Format) (q k : ℕ) → 0 < q → plus (units_of f true q k) ≡ units_of f true q k
unfolding units_of
plus-units-true f q k Q = go (ltb (q * 2 ^ k) (2 ^ (low f + suc (emax f))))
  where
    go : (b : Bool) → plus (cond b (odd (suc (prec f)) true q k (low f)) (inf true)) ≡ cond b (odd (suc (prec f)) true q k (low f)) (inf true)
    go true = plus_val (odd (suc (prec f)) true q k (low f)) (q * 2 ^ k) (2 ^ low f) (mul-pos Q (pow_pos k)) (odd_sign (suc (prec f)) true q k (low f))
    go false = refl

size-pos : (n : ℕ) → 0 < n → 0 < size n
size-pos n h = lt_of_not-le (λ (g : size n ≤ 0). no n h (lt_of_lt_of_le (size-lt n) (pow_mono g)))
  where
    no : (n : ℕ) → 0 < n → n < 1 → ⊥
    no n h k = omega arith

fewer : (z p : ℕ) → 0 < z → 0 < p → z - p < z
fewer z p h k = omega arith

pub kept-pos : (p n d : ℕ) → 0 < p → 0 < d → 0 < n / d → 0 < kept p n d
kept-pos p n d P D h =
    let w = n / d in
    let k = drop p n d in
    let u = d * 2 ^ k in
    let a : 2 ^ k ≤ w = size_reaches w k (fewer (size w) p (size-pos w h) P) in
    let b : 1 ≤ n / u = subst (λ (x : ℕ). 1 ≤ x) (div-div-eq-div-mul n d (2 ^ k)) ((le-div_iff_mul-le (pow_pos k)).1 (le_trans (le_of_eq (one-mul (2 ^ k))) a)) in
    le_trans b (nearest-ge (n / u) (compare (n % u * 2) u))

-- units of 2 ^ -1074 m are the smallest values of the format
scaled : (n : ℕ) → n * 2 ^ 1074 / metre ≡ n
unfolding metre
scaled n = mul-div_cancel n (pow_pos 1074)

pub plus-minus : (n : ℕ) → 0 < n → plus (round binary64 true n metre) ≡ round binary64 true n metre
plus-minus n h =
    subst (λ (x : Float). plus x ≡ x) (sym (round_is binary64 true n metre))
    (plus-units-true binary64 (kept 53 (n * 2 ^ 1074) metre) (drop 53 (n * 2 ^ 1074) metre)
    (kept-pos 53 (n * 2 ^ 1074) metre (zero-lt-suc 52) metre-pos (subst (λ (x : ℕ). 0 < x) (sym (scaled n)) h)))

minus-zero : plus (round binary64 true 0 metre) ≡ round binary64 false 0 metre
unfolding metre round
minus-zero = refl

-- The float nearest to n units of either sign.
pub nearest-signed : (s : Bool) (n : ℕ) → nearest (signed s n) ≡ plus (round binary64 s n metre)
unfolding nearest
nearest-signed false n = sym (plus-round binary64 n metre)
nearest-signed true zero = sym minus-zero
nearest-signed true (suc n) = sym (plus-minus (suc n) (zero-lt-suc n))

-- ---- a sum over any denominator is one over units
less-over : (A B C L a b : ℕ) → A * L ≡ a * C → B * L ≡ b * C → (A - B) * L ≡ (a - b) * C
less-over A B C L a b ha hb =
    mul_comm (A - B) L ∙ mul-sub L A B
    ∙ (λ i. (mul_comm L A ∙ ha ∙ mul_comm a C) i - (mul_comm L B ∙ hb ∙ mul_comm b C) i)
    ∙ sym (mul_comm (a - b) C ∙ mul-sub C a b)

module _ (f : Format) (s u : Bool) (A B C L a b : ℕ) (pc : 0 < C) (pl : 0 < L) (ha : A * L ≡ a * C) (hb : B * L ≡ b * C) where
  sum_same : sum f s A u B C ≡ sum f s a u b L
  unfolding sum
  sum_same =
      let r : round f s (A + B) C ≡ round f s (a + b) L = round_same f s (A + B) C (a + b) L pc pl (plus-over A B C L a b pc pl ha hb) in
      let t : ltb A B ≡ ltb a b = lt_same A B C L a b pc pl ha hb in
      let v : round f u (B - A) C ≡ round f u (b - a) L = round_same f u (B - A) C (b - a) L pc pl (less-over B A C L b a hb ha) in
      let w : round f (s && ltb B A) (A - B) C ≡ round f (s && ltb b a) (a - b) L =
      ap (λ (x : Bool). round f (s && x) (A - B) C) (lt_same B A C L b a pc pl hb ha)
      ∙ round_same f (s && ltb b a) (A - B) C (a - b) L pc pl (less-over A B C L a b ha hb) in
      λ i. cond (beq s u) (r i) (cond (t i) (v i) (w i))

-- ---- a difference of whole numbers, by which is the larger
one-more : (a b : ℕ) → a < suc b → suc b - a ≡ suc (suc b - suc a)
one-more a b h = omega arith

none_below : (a : ℕ) → a < 0 → ⊥
none_below a h = omega arith

pub apart : (a b : ℕ) → pos a +ℤ neg_ℤ (pos b) ≡ cond (ltb a b) (neg_ℤ (pos (b - a))) (pos (a - b))
apart a zero = go (ltb a 0) (ltb→lt a 0)
  where
    go : (t : Bool) → (T t → a < 0) → pos (a + 0) ≡ cond t (neg_ℤ (pos (0 - a))) (pos (a - 0))
    go true h = absurd (none_below a (h tt))
    go false h = ap pos (add-zero a ∙ sym (sub-zero a))
apart a (suc b) = go (ltb a (suc b)) (ltb→lt a (suc b))
  where
    go : (t : Bool) → (T t → a < suc b) → cond t (negsuc (suc b - suc a)) (pos (a - suc b)) ≡ cond t (neg_ℤ (pos (suc b - a))) (pos (a - suc b))
    go true h = ap (λ (n : ℕ). neg_ℤ (pos n)) (sym (one-more a b (h tt)))
    go false h = refl

gone : (a b : ℕ) → b ≤ a → a ≤ b → a - b ≡ 0
gone a b h k = omega arith

-- Which of two is the larger, with the sign of the difference.
sum-signed : (s u : Bool) (a b : ℕ) → plus (sum binary64 s a u b metre) ≡ nearest (signed s a +ℤ signed u b)
unfolding sum
sum-signed false false a b = sym (nearest-signed false (a + b))
sum-signed true true a b = sym (nearest-signed true (a + b)) ∙ ap nearest (neg_ℤ-+ℤ (pos a) (pos b))
sum-signed false true a b = go (ltb a b) ∙ ap nearest (sym (apart a b))
  where
    go : (t : Bool) → plus (cond t (round binary64 true (b - a) metre) (round binary64 false (a - b) metre)) ≡ nearest (cond t (neg_ℤ (pos (b - a))) (pos (a - b)))
    go true = sym (nearest-signed true (b - a))
    go false = sym (nearest-signed false (a - b))
sum-signed true false a b = go (ltb a b) (ltb b a) (nltb→le a b) (nltb→le b a) ∙ ap nearest (flip (ltb a b) ∙ ap neg_ℤ (sym (apart a b)) ∙ neg_ℤ-+ℤ (pos a) (neg_ℤ (pos b)) ∙ ap (λ (z : ℤ). neg_ℤ (pos a) +ℤ z) (neg_ℤ-neg_ℤ (pos b)))
  where
    flip : (t : Bool) → cond t (pos (b - a)) (neg_ℤ (pos (a - b))) ≡ neg_ℤ (cond t (neg_ℤ (pos (b - a))) (pos (a - b)))
    flip true = sym (neg_ℤ-neg_ℤ (pos (b - a)))
    flip false = refl

    go : (t v : Bool) → (T (not t) → b ≤ a) → (T (not v) → a ≤ b)
        → plus (cond t (round binary64 false (b - a) metre) (round binary64 v (a - b) metre)) ≡ nearest (cond t (pos (b - a)) (neg_ℤ (pos (a - b))))
    go true v h k = sym (nearest-signed false (b - a))
    go false true h k = sym (nearest-signed true (a - b))
    go false false h k =
        let z : a - b ≡ 0 = gone a b (h tt) (k tt) in
        sym (nearest-signed false (a - b)) ∙ ap (λ (n : ℕ). nearest (pos n)) z ∙ sym (ap (λ (n : ℕ). nearest (neg_ℤ (pos n))) z)

pub neg-signed : (t : Bool) (b : ℕ) → signed (not t) b ≡ neg_ℤ (signed t b)
neg-signed false b = refl
neg-signed true b = sym (neg_ℤ-neg_ℤ (pos b))

-- A float less another, with one rounding, a zero as plus zero.
pub sub-exact : (x y : Float) → T (fits binary64 x) → T (fits binary64 y) → T (finite x) → T (finite y) → plus (sub binary64 x y) ≡ nearest (exact x -ℤ exact y)
unfolding sub exact
sub-exact nan y p q f g = absurd f
sub-exact (inf s) y p q f g = absurd f
sub-exact (fin s m e) nan p q f g = absurd g
sub-exact (fin s m e) (inf t) p q f g = absurd g
sub-exact (fin s m e) (fin t n d) p q f g =
    let a = units (fin s m e) in
    let b = units (fin t n d) in
    ap plus
    (sum_same binary64 s (not t) (m * up e * down d) (n * up d * down e) (down e * down d) metre a b (mul-pos (down_pos e) (down_pos d)) metre-pos
    (left_over (m * up e) (down e) metre a (down d) (own s m e p)) (right-over (n * up d) (down d) metre b (down e) (own t n d q)))
    ∙ sum-signed s (not t) a b
    ∙ ap (λ (z : ℤ). nearest (signed s a +ℤ z)) (neg-signed t b)
