-- What is told of an answer tells which answer it was.
use Rattle.std.specs.Prelude.{ℕ, ◌≡◌, refl, Result, Ok, Err, Some, None}
use Rattle.std.specs.Prelude.{Option as Found}
use Rattle.std.proofs.Common.{ap}
use Rattle.std.proofs.Math.Option.{Option, none, some}
use Rattle.refusal.specs.declared.Refusal.{Refusal}
use Rattle.refusal.specs.Forms.{placed, form}
use Rattle.refusal.proofs.Theorems.{refusal_back, form-back}
use Rattle.told.specs.Told.{Beside, values, needed, place, Told, failed, told_of, found_told}

-- The answer of which a number and what stands beside it are told.
abbrev answer_of : {A B : Type 0} → (B → A) → ℕ → Beside B → Result A Refusal
answer_of given n (values b) = Ok (given b)
answer_of given n (needed k) = Err (refusal_back (placed n k 0))
answer_of given n (place at axis) = Err (refusal_back (placed n at axis))

-- The way back from what a call tells.
abbrev pub told_back : {B : Type 0} → Told B → Result B Refusal
told_back t = answer_of (λ b. b) t.number t.beside

-- A value as the calls have it.
abbrev found_of : {A : Type 0} → Option A → Found A
found_of none = None
found_of (some a) = Some a

-- The way back from what a lookup tells.
abbrev pub found_back : {A : Type 0} → Told (Option A) → Result (Found A) Refusal
found_back t = answer_of found_of t.number t.beside

-- A refusal comes back from what is told of it.
fault-back : {A B : Type 0} (given : B → A) (r : Refusal) → answer_of given (failed {B = B} (form r)).number (failed {B = B} (form r)).beside ≡ Err r
fault-back given Refusal.TooShort = refl
fault-back given (Refusal.Broken p) = ap Err (form-back (Refusal.Broken p))
fault-back given Refusal.TooManyEvents = refl
fault-back given (Refusal.OutOfRange at a) = ap Err (form-back (Refusal.OutOfRange at a))
fault-back given Refusal.FewIds = refl
fault-back given Refusal.TooManyEntities = refl
fault-back given Refusal.TooManyCells = refl
fault-back given (Refusal.TooLong k) = refl
fault-back given (Refusal.BadCoordinate a) = ap Err (form-back (Refusal.BadCoordinate a))
fault-back given Refusal.BadError = refl
fault-back given Refusal.BadEdge = refl
fault-back given (Refusal.BadOrigin a) = ap Err (form-back (Refusal.BadOrigin a))
fault-back given Refusal.NoPath = refl
fault-back given Refusal.UnknownKind = refl

-- It comes back to the answer.
pub told-back : {B : Type 0} (r : Result B Refusal) → told_back (told_of r) ≡ r
told-back (Ok v) = refl
told-back (Err r) = fault-back (λ b. b) r

pub found-back : {A : Type 0} (r : Result (Found A) Refusal) → found_back (found_told r) ≡ r
found-back (Ok None) = refl
found-back (Ok (Some a)) = refl
found-back (Err r) = fault-back found_of r
