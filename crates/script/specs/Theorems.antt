-- Any two answers that the promises of the script's functions allow are equal.
use Rattle.std.specs.Prelude.{ℕ, ◌≡◌, Bool, List}
use Rattle.std.proofs.Common.{sym, ◌∙◌}
use Rattle.script.specs.Lines.{line_of}
use Rattle.script.specs.Records.{step_len, step_of}
use Rattle.script.specs.declared.kinds.Step.{Step}

-- A line that is written: its length, and all bytes of the slice.
pub line-one : (line s : List ℕ) (p q : ℕ × List ℕ) → p ≡ line_of line s → q ≡ line_of line s → p ≡ q
line-one line s p q e f = e ∙ sym f

-- A record that is read.
pub step-one : (bytes : List ℕ) (last : Bool) (p q : Step) → p ≡ step_of bytes last → q ≡ step_of bytes last → p ≡ q
step-one bytes last p q e f = e ∙ sym f

-- The length of a record.
pub length-one : (s : Step) (p q : ℕ) → p ≡ step_len s → q ≡ step_len s → p ≡ q
length-one s p q e f = e ∙ sym f
