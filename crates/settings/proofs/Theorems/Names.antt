-- Which name a record's fault has: mark, cut end, edge, kind, origin, in that order.
use Rattle.std.specs.Prelude.{Ok, Err}
use Rattle.std.specs.Prelude.{ℕ, ◌<◌, ◌≤◌, ◌≡◌, Bool, true, false, not, ◌&&◌, List, length, take, eqb}
use Rattle.std.proofs.Common.{arith}
use borrow.Author.Tests.{eq-eqb, ne_eqb, lt-ltb, le-ltb}
use Rattle.settings.specs.declared.kinds.Settings.{Settings}
use Rattle.settings.specs.declared.kinds.Fault.TheVariants.{NewerRecord, BadMark, CutEnd, BadEdge, BadKind, BadOrigin}
use Rattle.settings.specs.Settings.{edge_ok, kind_ok, origin_ok, good_of}
use Rattle.settings.specs.Records.{size_of, settings_of, check_of}

module _ (two : Bool) (b : List ℕ) where
  -- A lone last byte is a cut end.
  pub lone-byte : length b < 2 → check_of two b ≡ Err CutEnd
  unfolding check_of
  lone-byte h = simp (lt-ltb (length b) 2 h)

  pub wrong-mark : 2 ≤ length b → size_of b ≡ 0 → check_of two b ≡ Err BadMark
  unfolding check_of
  wrong-mark h e = simp (le-ltb (length b) 2 h, eq-eqb (size_of b) 0 e)

  module _ (long : 2 ≤ length b) (marked : 0 < size_of b) (known : (not two && eqb (size_of b) 24) ≡ false) where
    pub cut_record : length b < size_of b → check_of two b ≡ Err CutEnd
    unfolding check_of
    cut_record h = simp (le-ltb (length b) 2 long, ne_eqb (size_of b) 0 (omega arith), known, lt-ltb (length b) (size_of b) h)

    -- A whole record is judged by what it says.
    pub whole-record : size_of b ≤ length b → check_of two b ≡ good_of (settings_of (take (size_of b) b))
    unfolding check_of
    whole-record h = simp (le-ltb (length b) 2 long, ne_eqb (size_of b) 0 (omega arith), known, le-ltb (length b) (size_of b) h)

-- A record of version 2, whole or cut, is a newer record to a reader of version 1.
pub newer-record : (b : List ℕ) → 2 ≤ length b → size_of b ≡ 24 → check_of false b ≡ Err NewerRecord
unfolding check_of
newer-record b h e = simp (le-ltb (length b) 2 h, ne_eqb (size_of b) 0 (λ z. absurd (omega arith)), eq-eqb (size_of b) 24 e)

module _ (a : Settings) where
  pub bad-edge : edge_ok a.edge ≡ false → good_of a ≡ Err BadEdge
  unfolding good_of
  bad-edge e = simp e

  pub bad_kind : edge_ok a.edge ≡ true → kind_ok a.kind ≡ false → good_of a ≡ Err BadKind
  unfolding good_of
  bad_kind e k = simp (e, k)

  pub bad-origin : edge_ok a.edge ≡ true → kind_ok a.kind ≡ true → origin_ok a ≡ false → good_of a ≡ Err BadOrigin
  unfolding good_of
  bad-origin e k o = simp (e, k, o)

  pub all-good : edge_ok a.edge ≡ true → kind_ok a.kind ≡ true → origin_ok a ≡ true → good_of a ≡ Ok tt
  unfolding good_of
  all-good e k o = simp (e, k, o)
