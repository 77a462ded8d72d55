-- The invariant: what is still to be told, with the record held so far, is what is to be told of all bytes.
use Rattle.settings.proofs.ReadingSteps.{left}
use Rattle.std.specs.Prelude.{MatchOption, []}
use Rattle.settings.specs.Parsing.{records_of}
use Rattle.settings.specs.Reading.{tell}
use lib.ListN.{length}
use mathlib.Core.List.{List}
use mathlib.Core.Path.{◌≡◌}
use Prim.Native.Nat.{ℕ, ◌-◌, ◌≤◌}
use Rattle.settings.proofs.reader.read_in.Given as goal

abbrev pub invariant-loop-at : goal.invariant-loop-at
invariant-loop-at l = (l.at ≤ length l.bytes) × ((h : List ℕ) × MatchOption l.held (h ≡ []) (λ r. (r.now ≡ h) × (12 ≤ length h)) × (left l.two l.grid l.bytes l.at h ≡ tell l.grid (records_of l.two l.bytes)))

abbrev pub decreases-loop-at : goal.decreases-loop-at
decreases-loop-at l = length l.bytes - l.at
