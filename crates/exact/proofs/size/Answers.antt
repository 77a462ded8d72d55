-- `exact::size` meets its contract.
use mathlib.Core.Path.{◌≡◌, refl, sym, ap, subst}
use Rattle.std.specs.Prelude.{ℕ, zero, suc, Bool, true, false, T, pos, nat_abs, Float}
use Rattle.std.specs.Float.{nan, inf, fin, binary64, float_with_sign}
use Rattle.std.specs.Float.Ieee.{fits}
use Rattle.std.specs.Float.Ieee.Scale.{finite}
use Rattle.exact.specs.Units.{exact, signed}
use Rattle.exact.specs.Finite.{Finite, Sized}
use Rattle.exact.proofs.size.Goals as goal

-- A sign is no part of a size.
unsigned : (s : Bool) (n : ℕ) → nat_abs (signed s n) ≡ n
unsigned false n = refl
unsigned true zero = refl
unsigned true (suc n) = refl

fits-on : (x : Float) → T (finite x) → T (fits binary64 x) → T (fits binary64 (float_with_sign false x))
unfolding fits float_with_sign
fits-on nan f h = absurd f
fits-on (inf s) f h = absurd f
fits-on (fin s m e) f h = h

finite-on : (x : Float) → T (finite x) → T (finite (float_with_sign false x))
unfolding float_with_sign
finite-on nan f = absurd f
finite-on (inf s) f = absurd f
finite-on (fin s m e) f = f

exact-on : (x : Float) → T (finite x) → exact (float_with_sign false x) ≡ pos (nat_abs (exact x))
unfolding float_with_sign exact
exact-on nan f = absurd f
exact-on (inf s) f = absurd f
exact-on (fin s m e) f = ap pos (sym (unsigned s _))

sized : (x : Float) → Finite x → Sized x (float_with_sign false x)
sized x k = record { known = record { fits = fits-on x k.finite k.fits; finite = finite-on x k.finite }; same = exact-on x k.finite }

pub returns : goal.returns
returns c = subst (Sized c.args.x) (sym c.abs.ensures.value) (sized c.args.x c.requires)
