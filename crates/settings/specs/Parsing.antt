-- What bytes are: records one behind the other, of which the first faulty one decides.
use Rattle.std.specs.Prelude.{Ok, Err}
use Rattle.settings.specs.Answers.{Check}
use Rattle.std.specs.Prelude.{ℕ, zero, suc, ◌+◌, Bool, cond, List, [], ◌∷◌, length, take, drop, eqb}
use Rattle.settings.specs.Records.{size_of, check_of}
use Rattle.settings.specs.declared.kinds.Fault.{Fault}

-- What bytes are: whole records, or a first faulty record with its fault and its place.
pub data Records : Type 0 where
  whole : List (List ℕ) → Records
  faulty : Fault → ℕ → Records

-- A record in front of what the bytes behind it are.
abbrev pub after : List ℕ → Records → Records
after r (whole rs) = whole (r ∷ rs)
after r (faulty f p) = faulty f p

-- A record that is bad is the first faulty one; behind one that is fine the others decide.
abbrev pub decide : Check → ℕ → Records → Records
decide (Ok tt) at rest = rest
decide (Err f) at rest = faulty f at

-- What bytes are that start at a place, up to k records.
unfoldable pub parse : Bool → ℕ → ℕ → List ℕ → Records
parse two zero at b = whole []
parse two (suc k) at b =
    let rest = after (take (size_of b) b) (parse two k (at + size_of b) (drop (size_of b) b)) in
    cond (eqb (length b) 0) (whole []) (decide (check_of two b) at rest)

-- What bytes are to a reader of version 2 or of version 1.
abbrev pub records_of : Bool → List ℕ → Records
records_of two b = parse two (length b) 0 b
