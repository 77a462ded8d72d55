-- What a writer holds, where it is known.
use Rattle.std.specs.Prelude.{ℕ, List, Option}
use Rattle.std.specs.Io.KnownBytes.{Appends}

-- It keeps its bytes, and some may have come behind them.
abbrev pub Grows : Option (List ℕ) → Option (List ℕ) → Type 0
Grows old new = (bs : List ℕ) × Appends old new bs
