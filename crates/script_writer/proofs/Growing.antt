-- A writer that grows twice grows.
use Rattle.std.proofs.Common.{ℕ, List, ◌++◌, Option}
use Rattle.std.proofs.KnownBytes.{Appends-trans}
use Rattle.script_writer.specs.Written.{Grows}

-- First it grows from a to b, and then to c.
pub grows-on : (a b c : Option (List ℕ)) → Grows a b → Grows b c → Grows a c
grows-on a b c p q = (p.0 ++ q.0, Appends-trans a b c p.0 q.0 p.1 q.1)
