-- Bytes that are whole records to a reader of version 2, and what is gathered of them.
use Rattle.std.specs.Prelude.{Ok}
use Rattle.std.specs.Prelude.{ℕ, ◌≤◌, ◌≡◌, Bool, true, List, [], ◌∷◌, length, take, drop}
use Rattle.settings.specs.Records.{size_of, check_of}
use Rattle.settings.specs.Keeping.{joined}

-- Bytes are one record with nothing wrong.
pub record One (two : Bool) (r : List ℕ) : Type 0 where
  pub fine : check_of two r ≡ Ok tt
  pub sized : size_of r ≡ length r

-- Each of some bytes is one record.
pub data Ones (two : Bool) : List (List ℕ) → Type 0 where
  none : Ones two []
  more : {r : List ℕ} {rs : List (List ℕ)} → One two r → Ones two rs → Ones two (r ∷ rs)

-- Bytes are these records, one behind the other.
pub record Whole (rs : List (List ℕ)) (b : List ℕ) : Type 0 where
  pub ones : Ones true rs
  pub same : b ≡ joined rs

-- The first m bytes of t are b, and what is behind the first n is as in s.
pub record Gathered (b s : List ℕ) (n m : ℕ) (t : List ℕ) : Type 0 where
  pub count : m ≡ length b
  pub room : m ≤ n
  pub front : take m t ≡ b
  pub rest : drop n t ≡ drop n s
