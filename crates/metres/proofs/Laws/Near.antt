-- Places near enough: the tests of the range, and the whole metres.
use Rattle.std.specs.Prelude.{◌≡◌, ℕ, zero, suc, ◌-◌, ◌*◌, ◌/◌, ◌^◌, ◌<◌, ◌≤◌, min, true, false, not, ◌&&◌, T, ℤ, pos, negsuc, neg_ℤ, int_lt, nat_le, nat_lt, unsigned_abs, refl, Float}
use Rattle.std.proofs.Common.{sym, ◌∙◌, subst, mul-pos, lt_irrefl, le_trans, le_of_eq, div-one, mul_comm, arith, lt→ltb, leb→le, le→leb, nltb→le, lit<}
use Rattle.std.proofs.Math.Path.{ap}
use Rattle.std.proofs.Math.Nat.{zero-div, mul-div-mul_right, div-div-eq-div-mul, div-le_of_le-mul}
use Rattle.std.proofs.lemmas.Bool.{false≢true}
use Rattle.std.proofs.Math.Bool.{and-true}
use Rattle.std.proofs.Math.Dec.{leb-suc-suc}
use Rattle.std.proofs.Math.Arith.{le→nltb}
use Rattle.std.proofs.Math.IntN.{pos-ne-negsuc}
use Rattle.std.specs.Float.{nan, inf, fin, binary64}
use Rattle.std.specs.Float.Ieee.{up, down, fits, lt, of_int, to_unsigned}
use Rattle.std.specs.Float.Ieee.Scale.{finite}
use Rattle.exact.specs.Units.{metre, exact}
use Rattle.exact.specs.Finite.{Sized}
use Rattle.exact.specs.Laws.Units.{metre-pos, lt-exact, same_test}
use Rattle.exact.specs.Laws.Tests.{true-T, T_true}
use Rattle.exact.specs.Laws.Whole.{whole-known, whole-exact}
use Rattle.metres.specs.Known.{Near}
use Rattle.metres.specs.Place.{near}

abbrev pub high_f : Float
high_f = fin false 1 (pos 20)

abbrev pub low_f : Float
low_f = fin true 1 (pos 20)

exact-high : exact high_f ≡ pos (1048576 * metre)
unfolding exact
exact-high = ap pos (div-one (1048576 * metre))

exact-low : exact low_f ≡ neg_ℤ (pos (1048576 * metre))
unfolding exact
exact-low = ap (λ (n : ℕ). neg_ℤ (pos n)) (div-one (1048576 * metre))

-- ---- the range
not-ltb : (a b : ℕ) → not (nat_lt a b) ≡ nat_le b a
not-ltb a b = same_test (not (nat_lt a b)) (nat_le b a) (λ t. le→leb b a (nltb→le a b t)) (λ t. le→nltb a b (leb→le b a t))

between-suc : (z : ℤ) (k : ℕ) → (not (int_lt z (negsuc k)) && not (int_lt (pos (suc k)) z)) ≡ nat_le (unsigned_abs z) (suc k)
between-suc (pos n) k = not-ltb (suc k) n
between-suc (negsuc n) k = and-true (not (nat_lt k n)) ∙ not-ltb k n ∙ sym (leb-suc-suc n k)

between : (z : ℤ) (k : ℕ) → 0 < k → (not (int_lt z (neg_ℤ (pos k))) && not (int_lt (pos k) z)) ≡ nat_le (unsigned_abs z) k
between z zero h = absurd (lt_irrefl 0 h)
between z (suc k) h = between-suc z k

times-pos : (k u : ℕ) → 0 < k → 0 < u → 0 < k * u
times-pos k u h g = mul-pos h g

far-pos : 0 < 1048576 * metre
far-pos = times-pos 1048576 metre (lit< tt) metre-pos

pub near-test : (x : Float) → T (fits binary64 x) → (finite x && (not (lt x low_f) && not (lt high_f x))) ≡ near x
unfolding near
near-test nan t = refl
near-test (inf s) t = refl
near-test (fin s m e) t =
    let x = fin s m e in
    (λ i. not ((lt-exact x low_f t (unfold fits in tt) tt tt ∙ ap (int_lt (exact x)) exact-low) i) && not ((lt-exact high_f x (unfold fits in tt) t tt tt ∙ ap (λ (z : ℤ). int_lt z (exact x)) exact-high) i))
    ∙ between (exact x) (1048576 * metre) far-pos

pub near-known : (x : Float) → T (fits binary64 x) → near x ≡ true → Near x
unfolding near
near-known nan t h = absurd (false≢true h)
near-known (inf s) t h = absurd (false≢true h)
near-known (fin s m e) t h = record { known = record { fits = t; finite = tt }; near = leb→le (unsigned_abs (exact (fin s m e))) (1048576 * metre) (true-T h) }

-- ---- whole metres
abbrev top_f : Float
top_f = fin false 1 (pos 64)

abbrev minus_one_f : Float
minus_one_f = fin true 1 (pos 0)

exact-top : exact top_f ≡ pos (18446744073709551616 * metre)
unfolding exact
exact-top = ap pos (div-one (18446744073709551616 * metre))

minus-one-below : (k n : ℕ) → 0 < k → int_lt (neg_ℤ (pos k)) (pos n) ≡ true
minus-one-below zero n h = absurd (lt_irrefl 0 h)
minus-one-below (suc k) n h = refl

exact-minus-one : exact minus_one_f ≡ neg_ℤ (pos (1 * metre))
unfolding exact
exact-minus-one = ap (λ (n : ℕ). neg_ℤ (pos n)) (div-one (1 * metre))

lower : (n : ℕ) (u : ℕ) → n ≤ 1048576 * u → 0 < u → n < 18446744073709551616 * u
lower n u h k = omega arith

module _ (x y : Float) (k : Near x) (s : Sized x y) where
  pub cut_low : T (lt minus_one_f y)
  cut_low = true-T (lt-exact minus_one_f y (unfold fits in tt) s.known.fits tt s.known.finite ∙ (λ i. int_lt (exact-minus-one i) (s.same i)) ∙ minus-one-below (1 * metre) (unsigned_abs (exact x)) (times-pos 1 metre (lit< tt) metre-pos))

  pub cut_high : T (lt y top_f)
  cut_high = true-T (lt-exact y top_f s.known.fits (unfold fits in tt) s.known.finite tt ∙ (λ i. int_lt (s.same i) (exact-top i))
      ∙ T_true (nat_lt (unsigned_abs (exact x)) (18446744073709551616 * metre)) (lt→ltb (unsigned_abs (exact x)) (18446744073709551616 * metre) (lower (unsigned_abs (exact x)) metre k.near metre-pos)))

-- The whole metres of m * 2 ^ e.
whole-metres : (m : ℕ) (e : ℤ) → m * up e / down e ≡ m * up e * metre / down e / metre
whole-metres m e = sym (div-div-eq-div-mul (m * up e * metre) (down e) metre ∙ mul-div-mul_right (m * up e) (down e) metre-pos)

capped : (a c : ℕ) → a < c → min a (c - 1) ≡ a
capped a c h = omega arith

few : (n : ℕ) → n ≤ 1048576 * metre → n / metre ≤ 1048576
few n h = div-le_of_le-mul metre (le_trans h (le_of_eq (mul_comm 1048576 metre)))

many : (n : ℕ) → n ≤ 1048576 → n < 2 ^ 64
many n h = omega arith

minus-is-zero : (u n : ℕ) → neg_ℤ (pos u) ≡ pos n → n ≡ 0
minus-is-zero zero n h = sym (ap unsigned_abs h)
minus-is-zero (suc u) n h = absurd (pos-ne-negsuc n u (sym h))

pub cut-is : (y : Float) (n : ℕ) → T (finite y) → exact y ≡ pos n → n ≤ 1048576 * metre → to_unsigned 64 y ≡ n / metre
unfolding exact to_unsigned
cut-is nan n f h l = absurd f
cut-is (inf s) n f h l = absurd f
cut-is (fin false m e) n f h l =
    let u : m * up e / down e ≡ n / metre = whole-metres m e ∙ ap (λ (z : ℤ). unsigned_abs z / metre) h in
    capped (m * up e / down e) (2 ^ 64) (subst (λ (a : ℕ). a < 2 ^ 64) (sym u) (many (n / metre) (few n l))) ∙ u
cut-is (fin true m e) n f h l = sym (ap (λ (a : ℕ). a / metre) (minus-is-zero (m * up e * metre / down e) n h) ∙ zero-div metre)

pub whole-few : (x : Float) → Near x → unsigned_abs (exact x) / metre ≤ 1048576
whole-few x k = few (unsigned_abs (exact x)) k.near

pub past-test : (x y : Float) (n : ℕ) → Sized x y → n ≤ 2 ^ 53 → lt (of_int binary64 (pos n)) y ≡ nat_lt (n * metre) (unsigned_abs (exact x))
past-test x y n s h =
    let k = whole-known (pos n) h in
    lt-exact (of_int binary64 (pos n)) y k.fits s.known.fits k.finite s.known.finite
    ∙ (λ i. int_lt (whole-exact (pos n) h i) (s.same i))
