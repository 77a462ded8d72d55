-- A signed number passed to a call, or given back by one, goes by its bits. Where it fits they read back as the number.
use mathlib.Core.Path.{◌≡◌, ap, ◌∙◌}
use lib.IntN.{ℤ}
use mir.Syntax.{w32}
use mir.Val.{SFits, to_z, of_z}
use mir.Facts.{to_z-of_z}

-- A call's answer, handed on by its bits.
pub given_back : {r n : ℤ} → r ≡ n → SFits w32 r → to_z w32 (of_z w32 r) ≡ n
given_back e h = to_z-of_z h ∙ e

-- What is made of a number that went in by its bits is made of the number.
pub asked : {A : Type 0} (f : ℤ → A) (n : ℤ) {r : A} → r ≡ f (to_z w32 (of_z w32 n)) → SFits w32 n → r ≡ f n
asked f n e h = e ∙ ap f (to_z-of_z h)
