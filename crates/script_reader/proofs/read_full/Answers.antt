use Rattle.std.proofs.Common.{◌-◌, rules, length, subst}
use Rattle.std.proofs.KnownBytes.{Consumes-trans}
use Rattle.std.specs.Io.KnownBytes.{Consumes}
use Rattle.script_reader.proofs.Moving.{put-behind}
use Rattle.script_reader.proofs.read_full.Goals as goal

-- What the read gave comes behind what was read before.
pub loop-done-preserved : goal.loop-done-preserved
loop-done-preserved g c =
    let old = c.loop-done.buf in
    let done = c.loop-done.done in
    let behind = put-behind done (length old - done) c.in_ok-n.n old c.read.new.buf c.loop-done.invariant.0 c.in_ok-n.ensures.bound.0 in
    (search rules, search rules, subst (Consumes _ _) behind (Consumes-trans _ _ _ _ _ c.loop-done.invariant.2 c.in_ok-n.ensures.bytes.0))
