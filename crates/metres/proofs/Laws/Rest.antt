-- What is left of p behind its cell's lower side, in units; and quotients within the range.
use Rattle.std.specs.Prelude.{◌≡◌, ℕ, suc, ◌*◌, ◌/◌, ◌^◌, ◌<◌, ◌≤◌, Bool, true, false, ◌&&◌, T, ℤ, pos, negsuc, ◌-ℤ◌, ◌*ℤ◌, nat_le, unsigned_abs, refl, Float}
use Rattle.std.proofs.Common.{sym, ap, subst, mul-pos, mul_comm, le_trans, le_of_eq, lt_of_lt_of_le, mul-le-mul_right, arith, leb→le, le→leb, lit≤}
use Rattle.std.proofs.Math.Nat.{div-le_of_le-mul}
use Rattle.std.specs.Int.Signed.{shr_z}
use Rattle.std.specs.Float.{binary64}
use Rattle.std.specs.Float.Ieee.{fits, to_unsigned}
use Rattle.std.specs.Float.Ieee.Fits.{round-fits}
use Rattle.std.specs.Float.Ieee.Scale.{finite}
use Rattle.component.specs.Coord.{axis_in}
use Rattle.component.specs.Laws.Tests.{both}
use Rattle.exact.specs.Units.{metre, exact, nearest}
use Rattle.exact.specs.Laws.Units.{metre-pos}
use Rattle.exact.specs.Laws.Round.{plus, plus-round, plus-minus}
use Rattle.exact.specs.Laws.Tests.{true-T, T_true}
use Rattle.exact.specs.Laws.Floor.{left}
use Rattle.metres.specs.Known.{Edge, EdgeIs}
use Rattle.metres.specs.Place.{near, cell_of}
use Rattle.metres.proofs.Laws.Frame.{edge-is}

-- ---- an edge that is named, any p
module _ (p edge : Float) (k : Edge edge) where
  pub count : ℕ
  count = to_unsigned 64 edge

  pub is : EdgeIs edge count
  unfolding count
  is = edge-is edge k

  pub long : 0 < count * metre
  long = mul-pos is.low metre-pos

  -- the exact difference is a number of units from zero on, and below the edge
  pub rest : (r : ℕ) × (exact p -ℤ cell_of p edge *ℤ exact edge ≡ pos r) × (r < count * metre)
  rest = subst (λ (z : ℤ). (r : ℕ) × (exact p -ℤ shr_z (exact p) (unsigned_abs z) *ℤ z ≡ pos r) × (r < count * metre)) (sym is.same) (left (exact p) (count * metre) long)

  pub rest-small : rest.0 < 2 ^ 1080
  rest-small = lt_of_lt_of_le rest.2 (le_trans (mul-le-mul_right metre is.high) (le_of_eq (unfold metre in refl)))

-- ---- no number of units rounds to minus zero
pub nearest-plus : (z : ℤ) → plus (nearest z) ≡ nearest z
unfolding nearest
nearest-plus (pos n) = plus-round binary64 n metre
nearest-plus (negsuc n) = plus-minus (suc n) (suc-pos n)
  where
    suc-pos : (n : ℕ) → 0 < suc n
    suc-pos n = omega arith

pub nearest-fits : (z : ℤ) → T (fits binary64 (nearest z))
unfolding nearest
nearest-fits (pos n) = round-fits binary64 false n metre
nearest-fits (negsuc n) = round-fits binary64 true (suc n) metre

-- ---- the coordinate range
quotient-few : (a c : ℕ) → 1 ≤ c → a ≤ 1048576 * metre → a / (c * metre) ≤ 1048576
quotient-few a c C h = div-le_of_le-mul (c * metre) (le_trans h (le_trans (le_of_eq (mul_comm 1048576 metre)) (mul-le-mul_right 1048576 (grows c metre C))))
  where
    grows : (c u : ℕ) → 1 ≤ c → u ≤ c * u
    grows c u C = le_trans (le_of_eq (sym (one-times u))) (mul-le-mul_right u C)
      where
        one-times : (u : ℕ) → 1 * u ≡ u
        one-times u = omega arith

pub in-range : (z : ℤ) (c : ℕ) → 1 ≤ c → unsigned_abs z ≤ 1048576 * metre → axis_in (shr_z z (c * metre)) ≡ true
in-range (pos a) c C h = T_true (nat_le (a / (c * metre)) 1000000000) (le→leb (a / (c * metre)) 1000000000 (le_trans (quotient-few a c C h) (lit≤ tt)))
in-range (negsuc a) c C h = ap (λ (b : Bool). b && true) (T_true (nat_le (a / (c * metre)) 999999999) (le→leb (a / (c * metre)) 999999999 (le_trans (quotient-few a c C (below a (1048576 * metre) h)) (lit≤ tt))))
  where
    below : (a n : ℕ) → suc a ≤ n → a ≤ n
    below a n h = omega arith

pub near-bound : (p : Float) → near p ≡ true → unsigned_abs (exact p) ≤ 1048576 * metre
unfolding near
near-bound p h = leb→le (unsigned_abs (exact p)) (1048576 * metre) (true-T (both (finite p) (nat_le (unsigned_abs (exact p)) (1048576 * metre)) h).1)
