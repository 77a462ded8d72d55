-- The number of an answer, and the slice of one whose number is not 0.
use Rattle.std.specs.Prelude.{ℕ, ◌≡◌, Bool, List, ◌++◌, ltb, length, drop}
use Rattle.std.proofs.Math.Path.{refl}
use Rattle.std.proofs.Common.{sym, eqb→eq}
use Rattle.std.proofs.Math.Bool.{true, false, cond}
use Rattle.std.proofs.Math.Dec.{eqb}
use Rattle.model.proofs.Laws.Tests.{T_true, T_false}
use Rattle.refusal.specs.Forms.{Refused}
use Rattle.told.specs.Told.{Told, done, too_long, refused, unless, fitted, unless_refused}

-- A lookup is told by the number that refuses it, or by 0.
pub lookup-number : {B : Type 0} (r : Refused) (v : B) → (unless r refused (done v)).number ≡ r.number
lookup-number {B} r v = go (eqb r.number 0) refl
  where
    go : (b : Bool) → eqb r.number 0 ≡ b → (cond {A = Told B} b (done v) (refused r)).number ≡ r.number
    go true e = sym (eqb→eq r.number 0 (T_true e))
    go false e = refl

module _ {B : Type 0} (r : Refused) (v : B) (words answer : List ℕ) where
  abbrev told : Bool → Bool → Told B × List ℕ
  told b t =
      cond {A = Told B × List ℕ} b
      (cond {A = Told B × List ℕ} t (too_long (length words), answer) (done v, words ++ drop (length words) answer)) (refused r, answer)

  -- A list is told by the number that refuses it, by 8 or by 0.
  pub list-number : (unless_refused r answer (fitted v words answer)).0.number ≡ cond (eqb r.number 0) (cond (ltb (length answer) (length words)) 8 0) r.number
  unfolding fitted
  list-number = go (eqb r.number 0) (ltb (length answer) (length words))
    where
      go : (b t : Bool) → (told b t).0.number ≡ cond b (cond t 8 0) r.number
      go true true = refl
      go true false = refl
      go false t = refl

  -- An answer whose number is not 0 leaves the slice as found.
  pub list-kept : eqb (unless_refused r answer (fitted v words answer)).0.number 0 ≡ false → (unless_refused r answer (fitted v words answer)).1 ≡ answer
  unfolding fitted
  list-kept = go (eqb r.number 0) (ltb (length answer) (length words))
    where
      go : (b t : Bool) → eqb (told b t).0.number 0 ≡ false → (told b t).1 ≡ answer
      go false t e = refl
      go true true e = refl
      go true false e = absurd (T_false {b = true} e)
