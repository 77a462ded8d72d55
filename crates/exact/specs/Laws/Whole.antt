-- The sign and the size of a float, and whole numbers of metres as floats.
use Rattle.std.specs.Prelude.{◌≡◌, refl, ℕ, suc, ◌*◌, ◌/◌, ◌^◌, ◌≤◌, ◌<◌, Bool, true, false, T, ℤ, pos, negsuc, neg_ℤ, nat_abs, ◌*ℤ◌, Float}
use Rattle.std.proofs.Common.{sym, ◌∙◌, zero-lt-suc, div-one, arith, true≢false, ltb→lt, le→leb}
use Rattle.std.proofs.Math.Path.{ap}
use Rattle.std.specs.Int.Signed.{lt_z}
use Rattle.std.specs.Float.{nan, inf, fin, binary64}
use Rattle.std.specs.Float.Ieee.{up, down, fits, lt, neg, of_bits, of_int, round, in_float}
use Rattle.std.specs.Float.Ieee.Fits.{neg-fits, round-fits}
use Rattle.std.specs.Float.Ieee.Exact.{HasValue}
use Rattle.std.specs.Float.Ieee.Back.{round_whole}
use Rattle.std.specs.Float.Ieee.Scale.{finite}
use Rattle.exact.specs.Units.{metre, exact}
use Rattle.exact.specs.Finite.{Finite, Sized}
use Rattle.exact.specs.Laws.Units.{units-of, lt-exact}
use Rattle.exact.specs.Laws.Round.{neg-signed}
use Rattle.exact.specs.Laws.Tests.{zero_f, zero-of-bits, true-T}

-- ---- against zero
exact-zero : exact zero_f ≡ pos 0
unfolding exact metre
exact-zero = refl

pub lt-zero : (x : Float) → Finite x → lt x zero_f ≡ lt_z (exact x) (pos 0)
lt-zero x k = lt-exact x zero_f k.fits (unfold fits in tt) k.finite tt ∙ ap (lt_z (exact x)) exact-zero

-- What the code's test against 0.0 says.
pub said-zero : (x : Float) {b : Bool} → Finite x → lt x (of_bits binary64 0) ≡ b → lt_z (exact x) (pos 0) ≡ b
said-zero x k h = sym (lt-zero x k) ∙ ap (lt x) (sym zero-of-bits) ∙ h

pub not-below : (n : ℕ) → lt_z (pos n) (pos 0) ≡ true → ⊥
not-below n h = no n (ltb→lt n 0 (true-T h))
  where
    no : (n : ℕ) → n < 0 → ⊥
    no n h = omega arith

-- ---- the size
pub finite-neg : (x : Float) → T (finite x) → T (finite (neg x))
unfolding neg
finite-neg nan f = f
finite-neg (inf s) f = f
finite-neg (fin s m e) f = tt

pub exact-neg : (x : Float) → T (finite x) → exact (neg x) ≡ neg_ℤ (exact x)
unfolding neg exact
exact-neg nan f = absurd f
exact-neg (inf s) f = absurd f
exact-neg (fin s m e) f = neg-signed s (m * up e * metre / down e)

below-zero : (z : ℤ) → lt_z z (pos 0) ≡ true → neg_ℤ z ≡ pos (nat_abs z)
below-zero (pos n) h = absurd (not-below n h)
below-zero (negsuc n) h = refl

from_zero : (z : ℤ) → lt_z z (pos 0) ≡ false → z ≡ pos (nat_abs z)
from_zero (pos n) h = refl
from_zero (negsuc n) h = absurd (true≢false h)

pub sized-neg : (x : Float) → Finite x → lt x zero_f ≡ true → Sized x (neg x)
sized-neg x k h = record {
  known = record { fits = neg-fits binary64 x k.fits; finite = finite-neg x k.finite };
  same = exact-neg x k.finite ∙ below-zero (exact x) (sym (lt-zero x k) ∙ h);
}

pub sized-self : (x : Float) → Finite x → lt x zero_f ≡ false → Sized x x
sized-self x k h = record { known = k; same = from_zero (exact x) (sym (lt-zero x k) ∙ h) }

-- ---- a whole number of metres of either sign as a float
pub in-float : (n : ℕ) → n ≤ 2 ^ 53 → T (in_float binary64 (pos n))
unfolding in_float
in-float n h = le→leb n (2 ^ 53) h

finite-of : (x : Float) (s : Bool) (a c : ℕ) → HasValue x s a c → T (finite x)
finite-of nan s a c h = h
finite-of (inf t) s a c h = h
finite-of (fin t m e) s a c h = tt

round-known : (s : Bool) (n : ℕ) → n ≤ 2 ^ 53 → Finite (round binary64 s n 1)
round-known s n h = record { fits = round-fits binary64 s n 1; finite = finite-of (round binary64 s n 1) s n 1 (round_whole binary64 s n h) }

pub whole-known : (z : ℤ) → nat_abs z ≤ 2 ^ 53 → Finite (of_int binary64 z)
unfolding of_int
whole-known (pos n) h = round-known false n h
whole-known (negsuc n) h = round-known true (suc n) h

pub whole-exact : (z : ℤ) → nat_abs z ≤ 2 ^ 53 → exact (of_int binary64 z) ≡ z *ℤ pos metre
unfolding of_int
whole-exact (pos n) h = units-of (round binary64 false n 1) false n 1 (zero-lt-suc 0) (round_whole binary64 false n h) ∙ ap pos (div-one (n * metre))
whole-exact (negsuc n) h = units-of (round binary64 true (suc n) 1) true (suc n) 1 (zero-lt-suc 0) (round_whole binary64 true (suc n) h) ∙ ap (λ (m : ℕ). neg_ℤ (pos m)) (div-one (suc n * metre))
