-- What the tests of floats in the code say.
use Rattle.std.specs.Prelude.{◌≡◌, ℕ, zero, suc, ◌*◌, ◌<◌, Bool, true, false, ◌&&◌, T, eqb, ℤ, pos, Float}
use Rattle.std.proofs.Math.Path.{refl}
use Rattle.std.proofs.Common.{sym, ap, ◌∙◌, subst, zero-mul, zero-lt-suc, mul-one, mul-pos, lt_irrefl, true≢false, eqb→eq}
use Rattle.std.proofs.lemmas.Bool.{false≢true}
use Rattle.std.proofs.Math.Dec.{eqb_refl}
use Rattle.std.proofs.Math.IntN.{+ℤ_invr}
use Rattle.std.specs.Float.{nan, inf, fin, binary64}
use Rattle.std.specs.Float.Ieee.{up, down, fits, sub, eq, of_bits, round}
use Rattle.std.specs.Float.Ieee.Fits.{and_l, up_pos}
use Rattle.std.specs.Float.Ieee.Exact.{HasValue}
use Rattle.std.specs.Float.Ieee.Back.{whole_unique}
use Rattle.std.specs.Float.Ieee.Scale.{finite}
use Rattle.exact.specs.Units.{metre, exact, nearest}
use Rattle.exact.specs.Laws.Round.{plus, sub-exact}

abbrev pub zero_f : Float
zero_f = fin false 0 (pos 0)

pub true-T : {b : Bool} → b ≡ true → T b
true-T h = subst T (sym h) tt

pub T_true : (b : Bool) → T b → b ≡ true
T_true true t = refl
T_true false t = absurd t

pub zero-of-bits : of_bits binary64 0 ≡ zero_f
unfolding of_bits
zero-of-bits = refl

nothing : nearest (pos 0) ≡ zero_f
unfolding nearest metre round
nothing = refl

eqb-true : (a b : ℕ) → a ≡ b → eqb a b ≡ true
eqb-true a b e = subst (λ (x : ℕ). eqb a x ≡ true) e (T_true (eqb a a) (eqb_refl a))

minus-zero-eq : (e : ℤ) → eq (fin true zero e) zero_f ≡ true
unfolding eq
minus-zero-eq e =
    let a : zero * up e * 1 ≡ 0 = ap (λ (x : ℕ). x * 1) (zero-mul (up e)) in
    let b : 0 * down e ≡ 0 = zero-mul (down e) in
    λ i. eqb-true (zero * up e * 1) (0 * down e) (a ∙ sym b) i && eqb-true (zero * up e * 1) 0 a i

-- ---- finite
eq-plus : (v : Float) → plus v ≡ zero_f → eq v zero_f ≡ true
unfolding eq
eq-plus nan h = cc
eq-plus (inf s) h = cc
eq-plus (fin false m e) h = subst (λ (x : Float). eq x zero_f ≡ true) (sym h) refl
eq-plus (fin true zero e) h = minus-zero-eq e
eq-plus (fin true (suc m) e) h = cc

pub finite-test : (x : Float) → T (fits binary64 x) → eq (sub binary64 x x) zero_f ≡ finite x
finite-test nan t = unfold sub eq in refl
finite-test (inf true) t = unfold sub eq in refl
finite-test (inf false) t = unfold sub eq in refl
finite-test (fin s m e) t =
    eq-plus (sub binary64 (fin s m e) (fin s m e))
    (sub-exact (fin s m e) (fin s m e) t t tt tt ∙ ap nearest (+ℤ_invr (exact (fin s m e))) ∙ nothing)

-- ---- zero, and no minus zero
plus-fits : (v : Float) → T (fits binary64 v) → T (fits binary64 (plus v))
unfolding fits
plus-fits nan t = t
plus-fits (inf s) t = t
plus-fits (fin false m e) t = t
plus-fits (fin true zero e) t = t
plus-fits (fin true (suc m) e) t = t

no_zero : (m : ℕ) (e : ℤ) → suc m * up e * 1 ≡ 0 * down e → ⊥
no_zero m e h = lt_irrefl 0 (subst (λ (x : ℕ). 0 < x) (sym (mul-one (suc m * up e)) ∙ h ∙ zero-mul (down e)) (mul-pos (zero-lt-suc m) (up_pos e)))

zero-value : (v : Float) → eq v zero_f ≡ true → HasValue (plus v) false 0 1
unfolding eq
zero-value nan h = absurd (false≢true h)
zero-value (inf s) h = absurd (false≢true h)
zero-value (fin false m e) h = (refl, eqb→eq (m * up e * 1) (0 * down e) (and_l (eqb (m * up e * 1) (0 * down e)) true (true-T h)))
zero-value (fin true zero e) h = (refl, ap (λ (x : ℕ). x * 1) (zero-mul (up e)) ∙ sym (zero-mul (down e)))
zero-value (fin true (suc m) e) h = absurd (no_zero m e (eqb→eq (suc m * up e * 1) (0 * down e) (and_l (eqb (suc m * up e * 1) (0 * down e)) (eqb (suc m * up e * 1) 0) (true-T h))))

pub zero-passed : (v : Float) → T (fits binary64 v) → eq v zero_f ≡ true → zero_f ≡ plus v
zero-passed v t h = sym (whole_unique binary64 (plus v) zero_f false 0 (plus-fits v t) (unfold fits in tt) (zero-value v h) (refl, refl))

pub zero-failed : (v : Float) → eq v zero_f ≡ false → v ≡ plus v
zero-failed nan h = refl
zero-failed (inf s) h = refl
zero-failed (fin false m e) h = refl
zero-failed (fin true zero e) h = absurd (true≢false (sym (minus-zero-eq e) ∙ h))
zero-failed (fin true (suc m) e) h = refl
