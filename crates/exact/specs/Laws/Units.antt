-- The units of a float: each float that is finite is a whole number of them, and the order of floats is the order of their units.
use Rattle.std.specs.Prelude.{◌≡◌, refl, ℕ, zero, suc, ◌+◌, ◌-◌, ◌*◌, ◌/◌, ◌%◌, ◌^◌, ◌≤◌, ◌<◌, Bool, true, false, ◌&&◌, T, ltb, leb, eqb, ℤ, pos, negsuc, Float}
use Rattle.std.proofs.Common.{sym, ap, ◌∙◌, subst, zero-mul, zero-add, add-zero, add-mul, mul-one, mul_comm, mul_assoc, mul_right_comm, mul-pos, mul-div_cancel, lt_of_mul-lt-mul_right, mul-lt-mul_of_pos_right, le_of_suc-le-suc, lt_of_not-le, lt_irrefl, lt_of_lt_of_le, arith, ltb→lt, lt→ltb, leb→le, pow-add, pow_pos}
use Rattle.std.proofs.Math.Nat.{zero-div, mul-div-mul_right}
use Rattle.std.proofs.Math.Dec.{leb-suc-suc}
use Rattle.std.proofs.Math.Pow.{pow-lt}
use Rattle.std.specs.Int.Signed.{lt_z}
use Rattle.std.specs.Float.{nan, inf, fin, binary64}
use Rattle.std.specs.Float.Ieee.{up, down, fits, lt, below}
use Rattle.std.specs.Float.Ieee.Fits.{and_l, and_r, down_pos}
use Rattle.std.specs.Float.Ieee.Digits.{back}
use Rattle.std.specs.Float.Ieee.Exact.{HasValue}
use Rattle.std.specs.Float.Ieee.Scale.{finite}
use Rattle.exact.specs.Units.{metre, signed, exact}

pub metre-pos : 0 < metre
unfolding metre
metre-pos = pow_pos 1074

-- How far a float is from zero, in units, and its sign.
abbrev pub units : Float → ℕ
units nan = 0
units (inf s) = 0
units (fin s m e) = m * up e * metre / down e

abbrev pub minus : Float → Bool
minus nan = false
minus (inf s) = false
minus (fin s m e) = s

-- ---- 2 ^ e m is a whole number of units
pow_le_back : (a l : ℕ) → 2 ^ a ≤ 2 ^ l → a ≤ l
pow_le_back a l h = le_of_suc-le-suc (lt_of_not-le (λ (g : suc l ≤ a). lt_irrefl (2 ^ l) (lt_of_lt_of_le (pow-lt g) h)))

divided : (e : ℤ) → down e ≤ 2 ^ 1074 → (j : ℕ) × (metre ≡ j * down e)
unfolding metre
divided (pos k) h = (2 ^ 1074, sym (mul-one (2 ^ 1074)))
divided (negsuc k) h = (2 ^ (1074 - suc k), ap (λ (x : ℕ). 2 ^ x) (sym (back 1074 (suc k) (pow_le_back (suc k) 1074 h))) ∙ pow-add 2 (1074 - suc k) (suc k))

whole_of : (a j d : ℕ) → 0 < d → metre ≡ j * d → a * metre ≡ a * metre / d * d
whole_of a j d D h =
    let k : a * metre ≡ a * j * d = ap (λ (x : ℕ). a * x) h ∙ sym (mul_assoc a j d) in
    k ∙ ap (λ (x : ℕ). x * d) (sym (ap (λ (x : ℕ). x / d) k ∙ mul-div_cancel (a * j) D))

pub own : (s : Bool) (m : ℕ) (e : ℤ) → T (fits binary64 (fin s m e)) → m * up e * metre ≡ m * up e * metre / down e * down e
unfolding fits
own s zero e t =
    let z : zero * up e * metre ≡ 0 = ap (λ (x : ℕ). x * metre) (zero-mul (up e)) ∙ zero-mul metre in
    z ∙ sym (ap (λ (x : ℕ). x / down e * down e) z ∙ ap (λ (x : ℕ). x * down e) (zero-div (down e)) ∙ zero-mul (down e))
own s (suc m) e t =
    let a : Bool = eqb (suc m % 2) 1 in
    let b : Bool = ltb (suc m) (2 ^ 53) in
    let c : Bool = leb (down e) (2 ^ 1074) in
    let d : Bool = ltb (suc m * up e) (2 ^ 1024 * down e) in
    let l : down e ≤ 2 ^ 1074 = leb→le (down e) (2 ^ 1074) (and_r (a && b) c (and_l (a && b && c) d t)) in
    let j = divided e l in
    whole_of (suc m * up e) j.0 (down e) (down_pos e) j.1

-- A float's own value, as a fraction of units.
pub own_value : (x : Float) → T (fits binary64 x) → T (finite x) → HasValue x (minus x) (units x) metre
own_value nan t f = absurd f
own_value (inf s) t f = absurd f
own_value (fin s m e) t f = (refl, own s m e t)

-- The units of whatever has a known value.
pub units-of : (x : Float) (s : Bool) (a c : ℕ) → 0 < c → HasValue x s a c → exact x ≡ signed s (a * metre / c)
unfolding exact
units-of nan s a c C h = absurd h
units-of (inf t) s a c C h = absurd h
units-of (fin t m e) s a c C h = λ i. signed (h.0 i) (same i)
  where
    same : m * up e * metre / down e ≡ a * metre / c
    same =
        sym (mul-div-mul_right (m * up e * metre) (down e) C)
        ∙ ap (λ (x : ℕ). x / (down e * c)) (mul_right_comm (m * up e) metre c ∙ ap (λ (x : ℕ). x * metre) h.1 ∙ mul_right_comm a (down e) metre)
        ∙ ap (λ (x : ℕ). a * metre * down e / x) (mul_comm (down e) c)
        ∙ mul-div-mul_right (a * metre) c (down_pos e)

-- ---- the order
pub same_test : (a b : Bool) → (T a → T b) → (T b → T a) → a ≡ b
same_test true true p q = refl
same_test true false p q = absurd (p tt)
same_test false true p q = absurd (q tt)
same_test false false p q = refl

-- A / C is a / L, and B / C is b / L.
module _ (A B C L a b : ℕ) (pc : 0 < C) (pl : 0 < L) (ha : A * L ≡ a * C) (hb : B * L ≡ b * C) where
  pub lt_same : ltb A B ≡ ltb a b
  lt_same = same_test (ltb A B) (ltb a b)
      (λ t. lt→ltb a b (lt_of_mul-lt-mul_right C (subst (λ (x : ℕ). x < b * C) ha (subst (λ (x : ℕ). A * L < x) hb (mul-lt-mul_of_pos_right (ltb→lt A B t) pl)))))
      (λ t. lt→ltb A B (lt_of_mul-lt-mul_right L (subst (λ (x : ℕ). x < B * L) (sym ha) (subst (λ (x : ℕ). a * C < x) (sym hb) (mul-lt-mul_of_pos_right (ltb→lt a b t) pc)))))

-- Two floats over one denominator.
pub left_over : (a d L u D : ℕ) → a * L ≡ u * d → a * D * L ≡ u * (d * D)
left_over a d L u D h = mul_right_comm a D L ∙ ap (λ (x : ℕ). x * D) h ∙ mul_assoc u d D

pub right-over : (a d L u D : ℕ) → a * L ≡ u * d → a * D * L ≡ u * (D * d)
right-over a d L u D h = left_over a d L u D h ∙ ap (λ (x : ℕ). u * x) (mul_comm d D)

ltb-zero : (a : ℕ) → ltb a 0 ≡ false
ltb-zero a = same_test (ltb a 0) false (λ t. no a (ltb→lt a 0 t)) (λ t. absurd t)
  where
    no : (a : ℕ) → a < 0 → ⊥
    no a h = omega arith

ltb-pos : (a b : ℕ) → ltb 0 (suc a + b) ≡ true
ltb-pos a b = same_test (ltb 0 (suc a + b)) true (λ t. tt) (λ t. lt→ltb 0 (suc a + b) (yes a b))
  where
    yes : (a b : ℕ) → 0 < suc a + b
    yes a b = omega arith

below-signed : (s t : Bool) (a b : ℕ) → below s a t b ≡ lt_z (signed s a) (signed t b)
below-signed false false a b = refl
below-signed false true a zero = sym (ltb-zero a)
below-signed false true a (suc b) = refl
below-signed true false zero b = ap (ltb 0) (zero-add b)
below-signed true false (suc a) b = ltb-pos a b
below-signed true true zero zero = refl
below-signed true true zero (suc b) = ltb-zero (suc b)
below-signed true true (suc a) zero = lt0 a
  where
    lt0 : (a : ℕ) → ltb 0 (suc a) ≡ true
    lt0 a = ap (ltb 0) (sym (add-zero (suc a))) ∙ ltb-pos a 0
below-signed true true (suc a) (suc b) = leb-suc-suc (suc b) a

module _ (A B C L a b : ℕ) (pc : 0 < C) (pl : 0 < L) (ha : A * L ≡ a * C) (hb : B * L ≡ b * C) where
  pub plus-over : (A + B) * L ≡ (a + b) * C
  plus-over = add-mul A B L ∙ (λ i. ha i + hb i) ∙ sym (add-mul a b C)

  below-same : (s t : Bool) → below s A t B ≡ below s a t b
  below-same false false = lt_same A B C L a b pc pl ha hb
  below-same false true = refl
  below-same true false = lt_same 0 (A + B) C L 0 (a + b) pc pl (zero-mul L ∙ sym (zero-mul C)) plus-over
  below-same true true = lt_same B A C L b a pc pl hb ha

-- One finite float is below another exactly where its units are.
pub lt-exact : (x y : Float) → T (fits binary64 x) → T (fits binary64 y) → T (finite x) → T (finite y) → lt x y ≡ lt_z (exact x) (exact y)
unfolding lt exact
lt-exact nan y p q f g = absurd f
lt-exact (inf s) y p q f g = absurd f
lt-exact (fin s m e) nan p q f g = absurd g
lt-exact (fin s m e) (inf t) p q f g = absurd g
lt-exact (fin s m e) (fin t n d) p q f g =
    let a = units (fin s m e) in
    let b = units (fin t n d) in
    below-same (m * up e * down d) (n * up d * down e) (down e * down d) metre a b (mul-pos (down_pos e) (down_pos d)) metre-pos
    (left_over (m * up e) (down e) metre a (down d) (own s m e p)) (right-over (n * up d) (down d) metre b (down e) (own t n d q)) s t
    ∙ below-signed s t a b
