-- Each turn puts the lowest byte of what is left.
use Rattle.little_endian.specs.Bytes.{bytes}
use lib.Seq.{paste}
use lib.ListN.{length, drop}
use mathlib.Core.Path.{◌≡◌}
use Prim.Native.Nat.{◌+◌, ◌-◌, ◌≤◌}
use Rattle.little_endian.proofs.put_number.Given as goal

abbrev pub invariant-loop-i : goal.invariant-loop-i
invariant-loop-i l = (l.at + l.k ≤ length l.initial.out) × (length l.out ≡ length l.initial.out) × (l.out ≡ paste l.initial.out l.at (bytes l.k l.n) l.i) × (drop l.i (bytes l.k l.n) ≡ bytes (l.k - l.i) l.left)
