-- What the paper tells of each answer: number 0 where the call did what was asked, number 8 where there is no room, and names for the rest.
use Rattle.std.specs.Prelude.{Ok, Err, Some, None}
use Rattle.settings.specs.Answers.{Check, Reading, Writing, Keeping}
use Rattle.settings.specs.declared.kinds.ReadError.TheVariants as reading_error
use Rattle.settings.specs.declared.kinds.WriteError.TheVariants as writing_error
use Rattle.std.specs.Prelude.{ℕ, Bool, true, false, not, ◌&&◌, ◌≡◌, eqb}
use Prim.Native.String.{String}
use Rattle.settings.specs.declared.kinds.Fault.{Fault}
use Rattle.settings.specs.declared.kinds.Fault.TheVariants.{NewerRecord, BadMark, CutEnd, BadEdge, BadKind, BadOrigin}
use Rattle.settings.specs.Parsing.{Records, whole, faulty}

-- What is told: a number, a name, or a name with a place.
pub data Told : Type 0 where
  number : ℕ → Told
  name : String → Told
  name_at : String → ℕ → Told

-- The name of a fault.
abbrev pub name_of : Fault → String
name_of NewerRecord = "newer record"
name_of BadMark = "bad mark"
name_of CutEnd = "cut end"
name_of BadEdge = "bad edge"
name_of BadKind = "bad kind"
name_of BadOrigin = "bad origin"

-- What is told of a reader's answer; beside 0 stand the settings.
abbrev pub reading_told : Reading → Told
reading_told (Ok (Some s)) = number 0
reading_told (Ok None) = name "not found"
reading_told (Err reading_error.Overlong) = name "overlong"
reading_told (Err (reading_error.Faulty f p)) = name_at (name_of f) p

-- What is told of the writer's answer; beside 0 stands the new length, beside 8 the length needed.
abbrev pub writing_told : Writing → Told
writing_told (Ok n) = number 0
writing_told (Err writing_error.Overlong) = name "overlong"
writing_told (Err (writing_error.Refused f)) = name (name_of f)
writing_told (Err (writing_error.NoRoom n)) = number 8

-- What is told of the answer of keeping; beside 0 stands the new length.
abbrev pub keeping_told : Keeping → Told
keeping_told (Ok n) = number 0
keeping_told (Err reading_error.Overlong) = name "overlong"
keeping_told (Err (reading_error.Faulty f p)) = name_at (name_of f) p

-- What is told is a certain number.
abbrev pub is_number : ℕ → Told → Bool
is_number n (number m) = eqb m n
is_number n (name s) = false
is_number n (name_at s p) = false

-- Nothing is wrong.
abbrev pub is_fine : Check → Bool
is_fine (Ok tt) = true
is_fine (Err f) = false

-- Bytes are whole records.
abbrev pub is_whole : Records → Bool
is_whole (whole rs) = true
is_whole (faulty f p) = false

-- 8 is told exactly when the length is within the slice, nothing is wrong and there is no room; 0 exactly when there is room too.
pub record Exactly (t : Told) (within fine room : Bool) : Type 0 where
  pub eight : is_number 8 t ≡ (within && (fine && not room))
  pub zero : is_number 0 t ≡ (within && (fine && room))
