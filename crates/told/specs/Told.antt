-- An answer as document 01 tells it: its number, and what is given beside the number.
use Rattle.std.specs.Prelude.{ℕ, cond, List, ◌++◌, eqb, ltb, length, drop}
use Rattle.std.specs.Prelude.{Result, Ok, Err, Some, None}
use Rattle.std.specs.Prelude.{Option as Found}
use Rattle.std.proofs.Math.Option.{Option, none, some}
use Rattle.refusal.specs.declared.Refusal.{Refusal}
use Rattle.refusal.specs.Forms.{Refused, form}

-- Beside a number: the values of the answer, how many words are needed, or where the fault is (the thing, and its axis).
pub data Beside (B : Type 0) : Type 0 where
  values : B → Beside B
  needed : ℕ → Beside B
  place : ℕ → ℕ → Beside B

-- A number, and what is given beside it.
pub record Told (B : Type 0) : Type 0 where
  pub number : ℕ
  pub beside : Beside B

-- An answer that is given is told by 0 and its values.
abbrev pub done : {B : Type 0} → B → Told B
done v = record { number = 0; beside = values v }

-- One that is longer than its slice is told by 8 and the words that it needs.
abbrev pub too_long : {B : Type 0} → ℕ → Told B
too_long k = record { number = 8; beside = needed k }

-- A refusal is told by its number and its place.
abbrev pub refused : {B : Type 0} → Refused → Told B
refused r = record { number = r.number; beside = place r.at r.axis }

-- What is told of a refusal: of an answer that is too long the words needed, of every other one the place.
abbrev pub failed : {B : Type 0} → Refused → Told B
failed r = cond (eqb r.number 8) (too_long r.at) (refused r)

-- What a call tells: 0 and its values, or its refusal.
abbrev pub told_of : {B : Type 0} → Result B Refusal → Told B
told_of (Ok v) = done v
told_of (Err r) = failed (form r)

-- A value that may be missing, as the model has it.
abbrev pub maybe : {A : Type 0} → Found A → Option A
maybe None = none
maybe (Some a) = some a

-- What a lookup tells: 0 and what is found, 0 and none, or its refusal.
abbrev pub found_told : {A : Type 0} → Result (Found A) Refusal → Told (Option A)
found_told (Ok a) = done (maybe a)
found_told (Err r) = failed (form r)

-- An answer, unless it is refused.
abbrev pub unless : {A : Type 0} → Refused → (Refused → A) → A → A
unless r refuse answer = cond (eqb r.number 0) answer (refuse r)

-- What is found, seen through a function.
abbrev pub seen : {A B : Type 0} → (A → B) → Option A → Option B
seen f none = none
seen f (some a) = some (f a)

-- The values, and the words of the answer before the rest of its slice as it was; or how many words are needed, and the slice as found.
unfoldable pub fitted : {B : Type 0} → B → List ℕ → List ℕ → Told B × List ℕ
fitted v words answer =
    cond (ltb (length answer) (length words)) (too_long (length words), answer) (done v, words ++ drop (length words) answer)

-- An answer with its slice, unless it is refused; then the slice is as found.
abbrev pub unless_refused : {B : Type 0} → Refused → List ℕ → Told B × List ℕ → Told B × List ℕ
unless_refused r answer a = unless r (λ k. (refused k, answer)) a
