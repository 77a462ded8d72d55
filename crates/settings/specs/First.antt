-- What it means that a record is the first faulty one.
use Rattle.std.specs.Prelude.{Err}
use Rattle.std.specs.Prelude.{ℕ, ◌+◌, ◌<◌, ◌≡◌, Bool, List, ◌++◌, length}
use Rattle.settings.specs.declared.kinds.Fault.{Fault}
use Rattle.settings.specs.Records.{check_of}
use Rattle.settings.specs.Keeping.{joined}
use Rattle.settings.specs.Whole.{Ones}

-- Bytes that start at a place have a first faulty record: those before it are fine, and it stands at p with the fault f.
pub record FirstFault (two : Bool) (at : ℕ) (b : List ℕ) (f : Fault) (p : ℕ) : Type 0 where
  pub before : List (List ℕ)
  pub behind : List ℕ
  pub fine : Ones two before
  pub same : b ≡ joined before ++ behind
  pub place : p ≡ at + length (joined before)
  pub some : 0 < length behind
  pub fault : check_of two behind ≡ Err f
