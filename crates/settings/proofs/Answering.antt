-- What an error that is handed on says.
use Rattle.std.specs.Prelude.{Result, Ok, Err, IsErrAnd, is_ok}
use mathlib.Core.Path.{◌≡◌, refl, ap}
use mathlib.Core.Bool.{true, false}
use Rattle.settings.specs.Answers.{Check}
use Rattle.settings.specs.declared.kinds.Fault.{Fault}

-- It is the answer.
pub err-of : {A E : Type 0} {r : Result A E} {e : E} → IsErrAnd r (λ x. x ≡ e) → r ≡ Err e
err-of {r = Ok n} h = absurd h
err-of {r = Err e} h = ap Err h

-- What passes is fine.
pub fine-of : {r : Check} → true ≡ is_ok r → r ≡ Ok tt
fine-of {r = Ok tt} e = refl
fine-of {r = Err f} e = absurd (cc)

-- What does not pass has a fault.
pub fault-of : {r : Check} → false ≡ is_ok r → (f : Fault) × (r ≡ Err f)
fault-of {r = Ok x} e = absurd (cc)
fault-of {r = Err f} e = (f, refl)
