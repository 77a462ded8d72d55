-- The cell number and the offset, from the whole metres that were passed.
use Rattle.std.specs.Prelude.{◌≡◌, ℕ, zero, suc, ◌+◌, ◌-◌, ◌*◌, ◌/◌, ◌^◌, ◌<◌, ◌≤◌, Bool, true, false, not, T, ℤ, pos, negsuc, ◌-ℤ◌, ◌*ℤ◌, neg_ℤ, ◌≢◌, int_lt, nat_lt, unsigned_abs, refl, Float}
use Rattle.std.proofs.Common.{sym, ap, ◌∙◌, subst, mul_assoc, mul_comm, suc-mul, div-mul-le_self, mul-le-mul_right, le_trans, le_of_eq, zero-mul, add-one, arith, true≢false, ltb→lt, nltb→le}
use Rattle.std.proofs.Math.Nat.{lt-div-mul-add, div-eq_of_lt-le, div-div-eq-div-mul}
use Rattle.std.specs.Int.Signed.{mag, shr_z}
use Rattle.std.specs.Float.{binary64}
use Rattle.std.specs.Float.Ieee.{of_int, neg}
use Rattle.std.specs.Float.Ieee.Fits.{neg-fits}
use Rattle.std.specs.Float.Ieee.Nearest.{div_mono}
use Rattle.exact.specs.Units.{metre, exact, nearest}
use Rattle.metres.specs.Known.{Near, EdgeIs, with_sign, SideOf}
use Rattle.metres.specs.Place.{cell_of, offset_of}
use Rattle.exact.specs.Laws.Units.{metre-pos}
use Rattle.exact.specs.Laws.Tests.{true-T}
use Rattle.exact.specs.Laws.Whole.{not-below, exact-neg, finite-neg, whole-known, whole-exact}
use Rattle.metres.proofs.Laws.Near.{whole-few}

-- ---- whole steps from zero to z, those above z where z is below zero
false-le : (a b : ℕ) → nat_lt a b ≡ false → b ≤ a
false-le a b h = nltb→le a b (subst (λ (t : Bool). T (not t)) (sym h) tt)

at-end : (w n k u : ℕ) → w ≡ n * u → w ≤ suc k → suc k ≤ w → n * u ≡ suc k
at-end w n k u e a b = omega arith

last : (n k u : ℕ) → 0 < u → n * u ≡ suc k → (1 ≤ n) × (k / u ≡ n - 1)
last zero k u U e = absurd (no k (sym (zero-mul u) ∙ e))
  where
    no : (k : ℕ) → 0 ≢ suc k
    no k h = omega arith
last (suc j) k u U e =
    let f : j * u + u ≡ suc k = sym (suc-mul j u) ∙ e in
    let g : (j + 1) * u ≡ j * u + u = ap (λ (x : ℕ). x * u) (add-one j) ∙ suc-mul j u in
    let low : j * u ≤ k = below (j * u) u k f U in
    let high : k < (j + 1) * u = subst (λ (x : ℕ). k < x) (sym (g ∙ f)) (top k) in
    (one-le j, div-eq_of_lt-le u low high ∙ less j)
  where
    below : (w u k : ℕ) → w + u ≡ suc k → 0 < u → w ≤ k
    below w u k f U = omega arith

    top : (k : ℕ) → k < suc k
    top k = omega arith

    one-le : (j : ℕ) → 1 ≤ suc j
    one-le j = omega arith

    less : (j : ℕ) → j ≡ suc j - 1
    less j = omega arith

module _ (z : ℤ) (n u : ℕ) (U : 0 < u) (e : n ≡ unsigned_abs z / u) where
  pub passed-end : int_lt z (pos 0) ≡ true → nat_lt (n * u) (unsigned_abs z) ≡ false → (1 ≤ n) × (n - 1 ≡ mag z / u)
  passed-end = go z e
    where
      go : (z : ℤ) → n ≡ unsigned_abs z / u → int_lt z (pos 0) ≡ true → nat_lt (n * u) (unsigned_abs z) ≡ false → (1 ≤ n) × (n - 1 ≡ mag z / u)
      go (pos a) e h t = absurd (not-below a h)
      go (negsuc k) e h t =
          let r = last n k u U (at-end (n * u) n k u refl (subst (λ (x : ℕ). x * u ≤ suc k) (sym e) (div-mul-le_self (suc k) u)) (false-le (n * u) (suc k) t)) in
          (r.0, sym r.1)

  pub passed_on : int_lt z (pos 0) ≡ true → nat_lt (n * u) (unsigned_abs z) ≡ true → n ≡ mag z / u
  passed_on = go z e
    where
      under : (w u k : ℕ) → w < suc k → w ≤ k
      under w u k h = omega arith

      over : (w u k : ℕ) → suc k < w + u → k < w + u
      over w u k h = omega arith

      go : (z : ℤ) → n ≡ unsigned_abs z / u → int_lt z (pos 0) ≡ true → nat_lt (n * u) (unsigned_abs z) ≡ true → n ≡ mag z / u
      go (pos a) e h t = absurd (not-below a h)
      go (negsuc k) e h t =
          let high : suc k < n * u + u = subst (λ (x : ℕ). suc k < x * u + u) (sym e) (lt-div-mul-add U) in
          sym (div-eq_of_lt-le u (under (n * u) u k (ltb→lt (n * u) (suc k) (true-T t)))
          (subst (λ (x : ℕ). k < x) (sym (ap (λ (x : ℕ). x * u) (add-one n) ∙ suc-mul n u)) (over (n * u) u k high)))

  pub passed-up : int_lt z (pos 0) ≡ false → n ≡ mag z / u
  passed-up = go z e
    where
      go : (z : ℤ) → n ≡ unsigned_abs z / u → int_lt z (pos 0) ≡ false → n ≡ mag z / u
      go (pos a) e h = e
      go (negsuc k) e h = absurd (true≢false h)

-- ---- the cell number
pub sign_below : (z : ℤ) (q : ℕ) → int_lt z (pos 0) ≡ true → negsuc q ≡ with_sign z q
sign_below (pos a) q h = absurd (not-below a h)
sign_below (negsuc a) q h = refl

pub sign_above : (z : ℤ) (q : ℕ) → int_lt z (pos 0) ≡ false → pos q ≡ with_sign z q
sign_above (pos a) q h = refl
sign_above (negsuc a) q h = absurd (true≢false h)

-- ---- its lower side
pub side-above : (z : ℤ) (q n : ℕ) → q * n ≤ 2 ^ 53 → int_lt z (pos 0) ≡ false → SideOf z q n (of_int binary64 (pos (q * n)))
side-above z q n l h = record {
  known = whole-known (pos (q * n)) l;
  same = whole-exact (pos (q * n)) l ∙ ap pos (mul_assoc q n metre) ∙ ap (λ (c : ℤ). c *ℤ pos (n * metre)) (sign_above z q h);
}

pub side-below : (z : ℤ) (q n : ℕ) → q * n + n ≤ 2 ^ 53 → int_lt z (pos 0) ≡ true → SideOf z q n (neg (of_int binary64 (pos (q * n + n))))
side-below z q n l h =
    let k = whole-known (pos (q * n + n)) l in
    record {
      known = record { fits = neg-fits binary64 (of_int binary64 (pos (q * n + n))) k.fits; finite = finite-neg (of_int binary64 (pos (q * n + n))) k.finite };
      same =
          exact-neg (of_int binary64 (pos (q * n + n))) k.finite
          ∙ ap neg_ℤ (whole-exact (pos (q * n + n)) l)
          ∙ ap (λ (w : ℕ). neg_ℤ (pos w)) (ap (λ (w : ℕ). w * metre) (sym (suc-mul q n)) ∙ mul_assoc (suc q) n metre)
          ∙ ap (λ (c : ℤ). c *ℤ pos (n * metre)) (sign_below z q h);
    }

-- ---- both
shr-sign : (z : ℤ) (u n : ℕ) → with_sign z (mag z / u / n) ≡ shr_z z (n * u)
shr-sign (pos a) u n = ap pos (div-div-eq-div-mul a u n ∙ ap (λ (x : ℕ). a / x) (mul_comm u n))
shr-sign (negsuc a) u n = ap negsuc (div-div-eq-div-mul a u n ∙ ap (λ (x : ℕ). a / x) (mul_comm u n))

module _ (p edge : Float) (n q : ℕ) (k : EdgeIs edge n) (e : q ≡ mag (exact p) / metre / n) where
  pub cell-is : with_sign (exact p) q ≡ cell_of p edge
  cell-is = ap (with_sign (exact p)) e ∙ shr-sign (exact p) metre n ∙ ap (λ (z : ℤ). shr_z (exact p) (unsigned_abs z)) (sym k.same)

  pub offset-is : (r : Float) → SideOf (exact p) q n r → nearest (exact p -ℤ exact r) ≡ offset_of p edge
  offset-is r s = ap (λ (z : ℤ). nearest (exact p -ℤ z)) (s.same ∙ (λ i. cell-is i *ℤ sym k.same i))

-- ---- bounds
mag-le : (z : ℤ) → mag z ≤ unsigned_abs z
mag-le (pos a) = self a
  where
    self : (a : ℕ) → a ≤ a
    self a = omega arith
mag-le (negsuc a) = up a
  where
    up : (a : ℕ) → a ≤ suc a
    up a = omega arith

pub steps-few : (p : Float) (r : ℕ) → Near p → r ≡ mag (exact p) / metre → r ≤ 1048576
steps-few p r k e = le_trans (le_of_eq e) (le_trans (div_mono (mag (exact p)) metre (unsigned_abs (exact p)) metre metre-pos metre-pos (mul-le-mul_right metre (mag-le (exact p)))) (whole-few p k))
