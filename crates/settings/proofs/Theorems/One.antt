-- Any two answers that the promise of a call allows are equal, with all that was lent.
use Rattle.settings.specs.Answers.{Reading, Writing, Keeping}
use Rattle.std.specs.Prelude.{ℕ, ◌≡◌, Bool, List}
use Rattle.std.proofs.Common.{sym, ◌∙◌}
use Rattle.settings.specs.declared.kinds.Settings.{Settings}
use Rattle.settings.specs.Reading.{read_of}
use Rattle.settings.specs.Writing.{write_of}
use Rattle.settings.specs.Keeping.{keep_of}

pub read_one : (two : Bool) (s : List ℕ) (n g : ℕ) (p q : Reading) → p ≡ read_of two s n g → q ≡ read_of two s n g → p ≡ q
read_one two s n g p q e f = e ∙ sym f

pub write-one : (s : List ℕ) (n g : ℕ) (a : Settings) (p q : Writing × List ℕ) → p ≡ write_of s n g a → q ≡ write_of s n g a → p ≡ q
write-one s n g a p q e f = e ∙ sym f

pub keep_one : (s : List ℕ) (n : ℕ) (t : List ℕ) (p q : Keeping × List ℕ × List ℕ) → p ≡ keep_of s n t → q ≡ keep_of s n t → p ≡ q
keep_one s n t p q e f = e ∙ sym f
