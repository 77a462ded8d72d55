-- Where reading stands in its buffer, and how many events are kept.
use Rattle.std.specs.Prelude.{ℕ, ◌+◌, ◌≤◌, List, Option}
use Rattle.std.specs.Io.KnownBytes.{Consumes}
use Rattle.model.specs.Update.{most_events}
use Rattle.script_reader.specs.declared.Reader.{Reader}
use Rattle.script_reader.specs.declared.Events.{Events}
use Rattle.script_reader.specs.declared.Gathered.{Gathered}

-- What is still to be read lies in a buffer of n bytes.
abbrev pub Reads : ℕ → Reader → Type 0
Reads n r = (r.at ≤ r.end) × (r.end ≤ n)

-- No more events are kept than a batch may have.
abbrev pub Counts : Events → Type 0
Counts v = v.removals + v.moves ≤ most_events

-- Both, of what is read of a batch.
abbrev pub Gathers : ℕ → Gathered → Type 0
Gathers n g = Reads n g.reader × Counts g.events

-- Of the bytes that a reader has left, where they are known, none comes but those that it had, and none is given twice.
abbrev pub MovesOn : Option (List ℕ) → Option (List ℕ) → Type 0
MovesOn old new = (bs : List ℕ) × Consumes old new bs
