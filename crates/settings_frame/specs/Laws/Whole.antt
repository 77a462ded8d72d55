-- Whole metres within 1,048,576 of zero are an origin's coordinate, and each edge that is named is an edge.
use Rattle.std.specs.Prelude.{ℕ, zero, suc, ◌*◌, ◌%◌, ◌≤◌, ◌^◌, ◌≡◌, refl, Bool, true, false, ◌&&◌, ◌||◌, leb, eqb, ℤ, pos, negsuc, nat_abs, neg_ℤ, ◌*ℤ◌}
use Rattle.std.proofs.Common.{arith, mul-le-mul_right, sym, ap, ◌∙◌, subst, leb-true, le-leb, eqb-true, eq-eqb}
use Rattle.std.proofs.Math.Nat.{mul-mod_left}
use Rattle.std.specs.Float.{binary64}
use Rattle.std.specs.Float.Ieee.{of_int, eq}
use Rattle.std.specs.Float.Ieee.Scale.{finite}
use Rattle.component.specs.Laws.Tests.{both}
use Rattle.exact.specs.Units.{metre, exact}
use Rattle.exact.specs.Laws.Whole.{whole-known, whole-exact}
use Rattle.exact.specs.Laws.Tests.{T_true}
use Rattle.metres.specs.Place.{near, edge_ok, origin_ok}
use Rattle.settings.specs.Settings as settings

-- What a coordinate that may be is at most.
few : (z : ℤ) → settings.axis_ok z ≡ true → nat_abs z ≤ 1048576
few (pos n) e = leb-true n 1048576 (both true (leb n 1048576) e).1
few (negsuc n) e = let h = leb-true n 1048575 (both (leb n 1048575) true e).0 in omega arith

wide : (n : ℕ) → n ≤ 1048576 → n ≤ 2 ^ 53
wide n h = omega arith

-- ---- the origin
abs_neg : (k : ℕ) → nat_abs (neg_ℤ (pos k)) ≡ k
abs_neg zero = refl
abs_neg (suc k) = refl

abs-times : (z : ℤ) (m : ℕ) → nat_abs (z *ℤ pos m) ≡ nat_abs z * m
abs-times (pos n) m = refl
abs-times (negsuc n) m = abs_neg (suc n * m)

units-of : (z : ℤ) → nat_abs z ≤ 1048576 → nat_abs (exact (of_int binary64 z)) ≡ nat_abs z * metre
units-of z h = ap nat_abs (whole-exact z (wide (nat_abs z) h)) ∙ abs-times z metre

pub origin-whole : (z : ℤ) → settings.axis_ok z ≡ true → origin_ok (of_int binary64 z) ≡ true
unfolding origin_ok near
origin-whole z e =
    let h = few z e in
    let x = of_int binary64 z in
    let u = units-of z h in
    let f : finite x ≡ true = T_true (finite x) (whole-known z (wide (nat_abs z) h)).finite in
    let n : leb (nat_abs (exact x)) (1048576 * metre) ≡ true = ap (λ (k : ℕ). leb k (1048576 * metre)) u ∙ le-leb (nat_abs z * metre) (1048576 * metre) (mul-le-mul_right metre h) in
    let r : eqb (nat_abs (exact x) % metre) 0 ≡ true = ap (λ (k : ℕ). eqb (k % metre) 0) u ∙ eq-eqb (nat_abs z * metre % metre) 0 (mul-mod_left (nat_abs z) metre) in
    λ i. (f i && n i) && r i

-- ---- the edge
module _ (P : ℕ → Type 0) where
  -- What holds of each edge that is named holds of one that may be.
  one_of : (e k : ℕ) (b : Bool) → P k → (b ≡ true → P e) → (eqb e k || b) ≡ true → P e
  one_of e k b here other h = go (eqb e k) refl h
    where
      go : (t : Bool) → eqb e k ≡ t → (t || b) ≡ true → P e
      go true s q = subst P (sym (eqb-true e k s)) here
      go false s q = other q

pub edge-whole : (e : ℕ) → settings.edge_ok e ≡ true → edge_ok (of_int binary64 (pos e)) ≡ true
unfolding edge_ok of_int eq
edge-whole e h =
    let P : ℕ → Type 0 = λ n. edge_ok (of_int binary64 (pos n)) ≡ true in
    one_of P e 1 _ refl
    (one_of P e 2 _ refl
    (one_of P e 4 _ refl
    (one_of P e 8 _ refl
    (one_of P e 16 _ refl
    (one_of P e 32 _ refl (λ q. subst P (sym (eqb-true e 64 q)) refl)))))) h
