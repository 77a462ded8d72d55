-- What the writer answers, and the slice after it: it makes a record of version 2 behind the first n bytes.
use Rattle.std.specs.Prelude.{Ok, Err}
use Rattle.settings.specs.Answers.{Check, Writing}
use Rattle.settings.specs.declared.kinds.WriteError.TheVariants as writing_error
use Rattle.std.specs.Prelude.{ℕ, ◌+◌, ◌-◌, cond, List, ◌++◌, length, take, drop, ltb}
use Rattle.settings.specs.Settings.{good_of}
use Rattle.settings.specs.Records.{record_of}
use Rattle.settings.specs.declared.kinds.Settings.{Settings}

-- Bad settings are refused, then no room, with the length needed; else the record r stands behind the first n bytes.
abbrev pub write_good : Check → List ℕ → ℕ → List ℕ → Writing × List ℕ
write_good (Err f) s n r = (Err (writing_error.Refused f), s)
write_good (Ok tt) s n r = cond (ltb (length s - n) 24) (Err (writing_error.NoRoom (n + 24)), s) (Ok (n + 24), take n s ++ (r ++ drop (n + 24) s))

-- The same, with a length above the slice's first.
unfoldable pub write_of : List ℕ → ℕ → ℕ → Settings → Writing × List ℕ
write_of s n g a = cond (ltb (length s) n) (Err writing_error.Overlong, s) (write_good (good_of a) s n (record_of g a))
