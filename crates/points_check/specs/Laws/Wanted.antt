-- Tests that come out as wanted, or not.
use Rattle.std.specs.Prelude.{◌≡◌, refl, Bool, true, false, cond, ◌&&◌, ◌||◌, not}
use Rattle.std.proofs.Common.{sym, T_not}
use Rattle.model.proofs.Laws.Tests.{T_true, T_false}

-- No test comes out both ways.
pub true-false : {b : Bool} → b ≡ true → b ≡ false → ⊥
true-false {b} e f = T_not b (T_false f) (T_true e)

-- A test is as wanted, or it is not.
pub as_wanted : (w h : Bool) → ((w && not h) || (not w && h)) ≡ false → cond w h (not h) ≡ true
as_wanted true true e = refl
as_wanted true false e = sym e
as_wanted false true e = sym e
as_wanted false false e = refl

pub not-wanted : (w h : Bool) → ((w && not h) || (not w && h)) ≡ true → cond w h (not h) ≡ false
not-wanted true true e = sym e
not-wanted true false e = refl
not-wanted false true e = refl
not-wanted false false e = sym e
