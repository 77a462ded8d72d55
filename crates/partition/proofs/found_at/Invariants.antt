-- After k neighbours the ids found are those at the first k of the kind.
use Rattle.arrayvec.specs.ArrayVec.{array_vec_len}
use Rattle.partition.specs.Held.{HeldRows, tried, ids_at}
use Rattle.model.specs.Groups.{Ids}
use mathlib.Core.Path.{◌≡◌}
use Prim.Native.Nat.{◌≤◌}
use Rattle.partition.proofs.found_at.Given as goal

abbrev pub invariant-loop-k : goal.invariant-loop-k
invariant-loop-k l = (array_vec_len l.found ≤ l.k) × ((t : Ids) → HeldRows l.ids l.n t → l.found.items ≡ ids_at t (tried l.kind l.c l.k))
