-- Frames: whole metres, and the seven edges.
use Rattle.std.specs.Prelude.{◌≡◌, ℕ, ◌+◌, ◌*◌, ◌/◌, ◌%◌, ◌^◌, ◌<◌, ◌≤◌, Bool, true, false, not, ◌&&◌, ◌||◌, T, ltb, pos, ◌==◌, ◌≢◌, nat_lt, unsigned_abs, refl, Float}
use Rattle.std.proofs.Common.{sym, ap, ◌∙◌, subst, mul-pos, lt_irrefl, div-add-mod', arith, nltb→le, eqb→eq, lit≤, pow_pos}
use Rattle.std.proofs.Math.Arith.{le→nltb}
use Rattle.std.specs.Float.{nan, inf, fin, binary64}
use Rattle.std.specs.Float.Ieee.{up, down, fits, eq, lt, of_int, round, to_unsigned, in_unsigned}
use Rattle.std.specs.Float.Ieee.Fits.{and_l, and_r, down_pos, eq→eqb}
use Rattle.std.specs.Float.Ieee.Back.{whole_unique, unsigned_back}
use Rattle.std.specs.Float.Ieee.Scale.{finite}
use Rattle.exact.specs.Units.{metre, exact}
use Rattle.metres.specs.Known.{Edge, EdgeIs}
use Rattle.metres.specs.Place.{is_metres, near, edge_ok, origin_ok, error_ok}
use Rattle.exact.specs.Laws.Units.{same_test}
use Rattle.exact.specs.Laws.Tests.{zero_f, true-T}
use Rattle.exact.specs.Laws.Whole.{in-float, lt-zero, whole-exact}

-- ---- whole metres
nothing_left : (w r n : ℕ) → w + r ≡ n → n ≤ w → r ≡ 0
nothing_left w r n e h = omega arith

none_left : (w r n : ℕ) → w + r ≡ n → r ≡ 0 → n ≤ w
none_left w r n e h = omega arith

whole-test : (n u : ℕ) → not (nat_lt (n / u * u) n) ≡ (n % u == 0)
whole-test n u = same_test (not (nat_lt (n / u * u) n)) (n % u == 0)
    (λ t. eq→eqb (nothing_left (n / u * u) (n % u) n (div-add-mod' n u) (nltb→le (n / u * u) n t)))
    (λ t. le→nltb (n / u * u) n (none_left (n / u * u) (n % u) n (div-add-mod' n u) (eqb→eq (n % u) 0 t)))

pub origin-far : (x : Float) → near x ≡ false → false ≡ origin_ok x
unfolding origin_ok
origin-far x h = sym (ap (λ (b : Bool). b && unsigned_abs (exact x) % metre == 0) h)

pub origin-near : (x : Float) (n : ℕ) (r : Bool) → near x ≡ true → n ≡ unsigned_abs (exact x) / metre → r ≡ nat_lt (n * metre) (unsigned_abs (exact x)) → not r ≡ origin_ok x
unfolding origin_ok
origin-near x n r h e k =
    ap not (k ∙ ap (λ (m : ℕ). ltb (m * metre) (unsigned_abs (exact x))) e) ∙ whole-test (unsigned_abs (exact x)) metre
    ∙ sym (ap (λ (b : Bool). b && unsigned_abs (exact x) % metre == 0) h)

-- ---- an error
pub error-test : (x : Float) → T (fits binary64 x) → (finite x && not (lt x zero_f)) ≡ error_ok x
unfolding error_ok
error-test nan t = refl
error-test (inf s) t = refl
error-test (fin s m e) t = ap not (lt-zero (fin s m e) (record { fits = t; finite = tt }))

-- ---- edges
power_pos : (k : ℕ) → 0 < 1 * 2 ^ k
power_pos k = mul-pos (pow_pos 0) (pow_pos k)

no_power : (a k d : ℕ) → 0 < d → a ≡ 1 * 2 ^ k * d → a ≢ 0
no_power a k d D e z = lt_irrefl 0 (subst (λ (x : ℕ). 0 < x) (sym e ∙ z) (mul-pos (power_pos k) D))

is-power : (x : Float) (k : ℕ) → T (fits binary64 x) → T (fits binary64 (fin false 1 (pos k))) → T (eq x (fin false 1 (pos k))) → x ≡ fin false 1 (pos k)
unfolding eq
is-power nan k t u h = absurd h
is-power (inf s) k t u h = absurd h
is-power (fin false m e) k t u h =
    whole_unique binary64 (fin false m e) (fin false 1 (pos k)) false (1 * 2 ^ k) t u
    (refl, eqb→eq (m * up e * 1) (1 * 2 ^ k * down e) (and_l (m * up e * 1 == 1 * 2 ^ k * down e) true h)) (refl, refl)
is-power (fin true m e) k t u h =
    absurd (no_power (m * up e * 1) k (down e) (down_pos e) (eqb→eq (m * up e * 1) (1 * 2 ^ k * down e) (and_l (m * up e * 1 == 1 * 2 ^ k * down e) (m * up e * 1 == 0) h))
    (eqb→eq (m * up e * 1) 0 (and_r (m * up e * 1 == 1 * 2 ^ k * down e) (m * up e * 1 == 0) h)))

record Named (e : Float) : Type 0 where
  count : ℕ
  is : e ≡ of_int binary64 (pos count)
  low : 1 ≤ count
  high : count ≤ 64

one : (e : Float) (n k : ℕ) → of_int binary64 (pos n) ≡ fin false 1 (pos k) → T (fits binary64 (fin false 1 (pos k))) → 1 ≤ n → n ≤ 64 → T (fits binary64 e) → T (eq e (of_int binary64 (pos n))) → Named e
one e n k p u l h t q = record { count = n; is = is-power e k t u (subst (λ (x : Float). T (eq e x)) p q) ∙ sym p; low = l; high = h }

either : {A : Type 0} (a b : Bool) → (T a → A) → (T b → A) → T (a || b) → A
either true b f g t = f tt
either false b f g t = g t

named : (e : Float) → T (fits binary64 e) → T (edge_ok e) → Named e
unfolding edge_ok of_int fits round
named e t =
    let b6 : Bool = is_metres e 32 || is_metres e 64 in
    let b5 : Bool = is_metres e 16 || b6 in
    let b4 : Bool = is_metres e 8 || b5 in
    let b3 : Bool = is_metres e 4 || b4 in
    let b2 : Bool = is_metres e 2 || b3 in
    either (is_metres e 1) b2 (one e 1 0 refl tt (lit≤ tt) (lit≤ tt) t)
    (either (is_metres e 2) b3 (one e 2 1 refl tt (lit≤ tt) (lit≤ tt) t)
    (either (is_metres e 4) b4 (one e 4 2 refl tt (lit≤ tt) (lit≤ tt) t)
    (either (is_metres e 8) b5 (one e 8 3 refl tt (lit≤ tt) (lit≤ tt) t)
    (either (is_metres e 16) b6 (one e 16 4 refl tt (lit≤ tt) (lit≤ tt) t)
    (either (is_metres e 32) (is_metres e 64) (one e 32 5 refl tt (lit≤ tt) (lit≤ tt) t) (one e 64 6 refl tt (lit≤ tt) (lit≤ tt) t))))))

fits_word : (n : ℕ) → n ≤ 64 → n < 2 ^ 64
fits_word n h = omega arith

small : (n : ℕ) → n ≤ 64 → n ≤ 2 ^ 53
small n h = omega arith

module _ (e : Float) (k : Edge e) where
  who : Named e
  who = named e k.fits (true-T k.named)

  back : T (in_unsigned binary64 64 (of_int binary64 (pos who.count))) × (to_unsigned 64 (of_int binary64 (pos who.count)) ≡ who.count)
  back = unsigned_back binary64 64 who.count (in-float who.count (small who.count who.high)) (fits_word who.count who.high)

  pub edge-casts : T (in_unsigned binary64 64 e)
  edge-casts = subst (λ (x : Float). T (in_unsigned binary64 64 x)) (sym who.is) back.0

  pub edge-is : EdgeIs e (to_unsigned 64 e)
  edge-is =
      let same : to_unsigned 64 e ≡ who.count = ap (to_unsigned 64) who.is ∙ back.1 in
      subst (EdgeIs e) (sym same) (record { same = ap exact who.is ∙ whole-exact (pos who.count) (small who.count who.high); low = who.low; high = who.high })
