-- What the exported function of reports tells: document 02's number, the event's words, and floats by their bits.
use Rattle.std.specs.Prelude.{ℕ, cond, List, [], ◌∷◌, ◌++◌, eqb, Float, Option, None, Some}
use Rattle.std.specs.Float.{binary64}
use Rattle.std.specs.Float.Ieee.{ne, to_bits}
use Rattle.metres.specs.declared.Frame.{Frame}
use Rattle.metres.specs.declared.Report.{Report}
use Rattle.metres.specs.declared.Report.TheVariants.{Fix, Reckoned, Nothing}
use Rattle.metres.specs.Answer.{Answer, Event, NoEvent, Refused}
use Rattle.metres.specs.Numbers.{number_of}
use Rattle.moves.specs.Words.{move_words}
use Rattle.telling.specs.Words.{place_words}

-- A float by its bits; a NaN, which alone differs from itself and has many, by those of the quiet one.
unfoldable pub bits_of : Float → ℕ
bits_of x = cond (ne x x) 0x7ff8_0000_0000_0000 (to_bits binary64 x)

-- Whether a margin is said, and it; 0 where none is.
abbrev pub said_word : Option Float → ℕ
said_word None = 0
said_word (Some err) = 1

abbrev pub error_word : Option Float → ℕ
error_word None = 0
error_word (Some err) = bits_of err

-- The frame of an origin and an edge.
abbrev pub frame_of : Float → Float → Float → Float → Frame
frame_of x y z edge = record { x = x; y = y; z = z; edge = edge }

-- The report of a kind: 1 a fix, 2 a dead-reckoned place, any other nothing.
abbrev pub report_given : ℕ → Float → Float → Float → Float → Report
report_given kind x y z error = cond (eqb kind 1) (Fix x y z) (cond (eqb kind 2) (Reckoned x y z error) Nothing)

-- An event: 1, the five words of its move, the offsets, whether an error is said, and it. Of a refusal: its place.
abbrev pub event_words : Answer → List ℕ
event_words (Event e) =
    1 ∷ (move_words e ++ (bits_of e.offsets.x ∷ bits_of e.offsets.y ∷ bits_of e.offsets.z ∷ said_word e.margin ∷ error_word e.margin ∷ []))
event_words NoEvent = 0 ∷ 0 ∷ 0 ∷ 0 ∷ 0 ∷ 0 ∷ 0 ∷ 0 ∷ 0 ∷ 0 ∷ 0 ∷ []
event_words (Refused r) = place_words r.at r.axis

abbrev pub event_told : Answer → ℕ × List ℕ
event_told a = (number_of a, event_words a)
