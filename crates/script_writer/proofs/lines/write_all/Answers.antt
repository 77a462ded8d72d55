use Rattle.std.proofs.Common.{rules, take, sym, ap, subst}
use Rattle.std.proofs.Math.Seq.{take-add}
use Rattle.std.proofs.lemmas.List.{take_rest}
use Rattle.std.proofs.KnownBytes.{Appends-trans}
use Rattle.std.specs.Io.KnownBytes.{Appends}
use Rattle.script_writer.proofs.lines.write_all.Goals as goal

-- What the write took comes behind what was written before.
pub loop-done-preserved : goal.loop-done-preserved
loop-done-preserved g c =
    let bytes = c.args.bytes.now in
    let done = c.loop-done.done in
    let n = c.in_ok-n.n in
    let more = subst (Appends _ _) (ap (take n) (take_rest bytes done)) c.in_ok-n.ensures.bytes in
    (search rules, subst (Appends _ _) (sym (take-add done n bytes)) (Appends-trans _ _ _ _ _ c.loop-done.invariant.1 more))
