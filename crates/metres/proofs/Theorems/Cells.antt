-- What R-4 says of cells and offsets, over exact numbers in units of 2 ^ -1074 m.
use Rattle.std.specs.Prelude.{◌≡◌, ℕ, ◌*◌, ◌^◌, ◌≤◌, true, T, ℤ, pos, negsuc, ◌+ℤ◌, ◌-ℤ◌, ◌*ℤ◌, ◌≤ℤ◌, ◌<ℤ◌, unsigned_abs, refl, Float}
use Rattle.std.proofs.Common.{sym, ap, ◌∙◌, subst, le_trans, le_of_eq, mul-le-mul_right, arith, le→leb}
use Rattle.std.specs.Int.Signed.{shr_z}
use Rattle.std.specs.Float.{binary64}
use Rattle.std.specs.Float.Ieee.{fits, eq, sub, of_int, of_bits, round}
use Rattle.std.specs.Float.Ieee.Exact.{HasValue}
use Rattle.std.specs.Float.Ieee.Scale.{finite}
use Rattle.component.specs.Coord.{axis_in}
use Rattle.exact.specs.Units.{metre, exact, nearest}
use Rattle.exact.specs.Finite.{Finite}
use Rattle.exact.specs.Laws.Units.{units, minus, own_value}
use Rattle.exact.specs.Laws.Round.{plus, sub-exact}
use Rattle.exact.specs.Laws.Tests.{zero_f, zero-passed}
use Rattle.exact.specs.Laws.Whole.{whole-known, whole-exact}
use Rattle.exact.specs.Laws.Floor.{floor-low, floor-high, floor-only}
use Rattle.exact.specs.Laws.Bound.{rounded, exact-nearest, close, stays-under}
use Rattle.metres.specs.Known.{Edge}
use Rattle.metres.specs.Place.{near, place_of, cell_of, offset_of}
use Rattle.metres.proofs.Laws.Rest.{count, is, long, rest, rest-small, nearest-plus, nearest-fits, in-range, near-bound}

-- A finite float is as many units as `exact` says: that number of units over those of a metre is its value, with its sign.
pub exact-means : (x : Float) → T (fits binary64 x) → T (finite x) → HasValue x (minus x) (units x) metre
exact-means = own_value

-- ---- an edge that is named, any p
module _ (p edge : Float) (k : Edge edge) where
  -- c times edge is at most p
  pub cell-from : (cell_of p edge *ℤ exact edge) ≤ℤ exact p
  cell-from = subst (λ (z : ℤ). (shr_z (exact p) (unsigned_abs z) *ℤ z) ≤ℤ exact p) (sym (is p edge k).same) (floor-low (exact p) (count p edge k * metre) (long p edge k))

  -- p is below c + 1 times edge
  pub cell-to : exact p <ℤ ((cell_of p edge +ℤ pos 1) *ℤ exact edge)
  cell-to = subst (λ (z : ℤ). exact p <ℤ ((shr_z (exact p) (unsigned_abs z) +ℤ pos 1) *ℤ z)) (sym (is p edge k).same) (floor-high (exact p) (count p edge k * metre) (long p edge k))

  -- no other number has both
  pub cell-only : (c : ℤ) → (c *ℤ exact edge) ≤ℤ exact p → exact p <ℤ ((c +ℤ pos 1) *ℤ exact edge) → c ≡ cell_of p edge
  cell-only c l h =
      let same = (is p edge k).same in
      floor-only c (exact p) (count p edge k * metre) (subst (λ (z : ℤ). (c *ℤ z) ≤ℤ exact p) same l) (subst (λ (z : ℤ). exact p <ℤ ((c +ℤ pos 1) *ℤ z)) same h)
      ∙ ap (λ (z : ℤ). shr_z (exact p) (unsigned_abs z)) (sym same)

  -- the offset is within 2 ^ -48 m of the exact difference
  pub offset-close : unsigned_abs (exact (offset_of p edge) -ℤ (exact p -ℤ cell_of p edge *ℤ exact edge)) * 2 ^ 48 ≤ metre
  offset-close =
      let r = rest p edge k in
      le_trans (mul-le-mul_right (2 ^ 48) (subst (λ (z : ℤ). unsigned_abs (exact (nearest z) -ℤ z) ≤ 2 ^ 1026) (sym r.1) (close r.0 (rest-small p edge k))))
      (le_of_eq (unfold metre in refl))

  -- it is from zero to the edge, which it may reach
  pub offset-from : pos 0 ≤ℤ exact (offset_of p edge)
  offset-from =
      let r = rest p edge k in
      let e = ap (λ (z : ℤ). exact (nearest z)) r.1 ∙ exact-nearest r.0 (rest-small p edge k) in
      subst (λ (z : ℤ). pos 0 ≤ℤ z) (sym e) (record { le = le→leb 0 (rounded r.0) (zero-le (rounded r.0)) })
    where
      zero-le : (n : ℕ) → 0 ≤ n
      zero-le n = omega arith

  pub offset-to : exact (offset_of p edge) ≤ℤ exact edge
  offset-to =
      let r = rest p edge k in
      let n = count p edge k in
      let e = exact-nearest r.0 (rest-small p edge k) in
      subst (λ (z : ℤ). exact (offset_of p edge) ≤ℤ z) (sym (is p edge k).same)
      (subst (λ (z : ℤ). z ≤ℤ pos (n * metre)) (sym (ap (λ (z : ℤ). exact (nearest z)) r.1 ∙ e)) (record { le = le→leb (rounded r.0) (n * metre) (stays-under r.0 n (rest-small p edge k) r.2 e) }))

  -- of a p that is near enough, the cell is in the scope's range
  pub cell-in-range : near p ≡ true → axis_in (cell_of p edge) ≡ true
  cell-in-range h =
      let i = is p edge k in
      ap (λ (z : ℤ). axis_in (shr_z (exact p) (unsigned_abs z))) i.same ∙ in-range (exact p) (count p edge k) i.low (near-bound p h)

-- A zero offset is plus zero.
pub zero-offset : (p edge : Float) → eq (offset_of p edge) zero_f ≡ true → offset_of p edge ≡ zero_f
zero-offset p edge h = let z = exact p -ℤ cell_of p edge *ℤ exact edge in sym (zero-passed (nearest z) (nearest-fits z) h ∙ nearest-plus z)

-- p is the f64 difference of the coordinate and the origin's, a zero as plus zero.
pub place-subtracts : (x o : Float) → Finite x → Finite o → plus (sub binary64 x o) ≡ place_of x o
place-subtracts x o k l = sub-exact x o k.fits l.fits k.finite l.finite

-- The offset is the f64 difference of p and c times edge, which is a float exactly: b metres, for any whole number b of at most 2 ^ 53 that c times edge is.
pub offset-subtracts : (p edge : Float) (b : ℤ) → Finite p → unsigned_abs b ≤ 2 ^ 53 → b *ℤ pos metre ≡ cell_of p edge *ℤ exact edge → plus (sub binary64 p (of_int binary64 b)) ≡ offset_of p edge
offset-subtracts p edge b k h e =
    let w = whole-known b h in
    sub-exact p (of_int binary64 b) k.fits w.fits k.finite w.finite ∙ ap (λ (z : ℤ). nearest (exact p -ℤ z)) (whole-exact b h ∙ e)

-- -0.5 with edge 1 is cell -1, offset 0.5.
pub half-west : cell_of (of_bits binary64 0xbfe0_0000_0000_0000) (of_bits binary64 0x3ff0_0000_0000_0000) ≡ negsuc 0
unfolding exact metre of_bits
half-west = refl

pub half-west-offset : offset_of (of_bits binary64 0xbfe0_0000_0000_0000) (of_bits binary64 0x3ff0_0000_0000_0000) ≡ of_bits binary64 0x3fe0_0000_0000_0000
unfolding exact metre nearest round of_bits
half-west-offset = refl

-- The offset may round up to the edge: the smallest float below zero, with edge 64.
pub up-to-edge : offset_of (of_bits binary64 0x8000_0000_0000_0001) (of_bits binary64 0x4050_0000_0000_0000) ≡ of_bits binary64 0x4050_0000_0000_0000
unfolding exact metre nearest round of_bits
up-to-edge = refl

-- The bound is reached: 64 m less 2 ^ -48 m lies between two floats, and the even one is 64 m.
pub bound-reached : unsigned_abs (exact (offset_of (of_bits binary64 0xbcf0_0000_0000_0000) (of_bits binary64 0x4050_0000_0000_0000)) -ℤ (exact (of_bits binary64 0xbcf0_0000_0000_0000) -ℤ cell_of (of_bits binary64 0xbcf0_0000_0000_0000) (of_bits binary64 0x4050_0000_0000_0000) *ℤ exact (of_bits binary64 0x4050_0000_0000_0000))) * 2 ^ 48 ≡ metre
unfolding exact metre nearest round of_bits
bound-reached = refl
