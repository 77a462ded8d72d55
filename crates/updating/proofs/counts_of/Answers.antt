-- After i rows the first i numbers are written.
use native.Mathlib.Omega.{arith}
use lib.ListN.{length-set}
use Rattle.updating.specs.Laws.Counts.{counts-more, counts_all}
use Rattle.updating.proofs.counts_of.Goals as goal

pub loop-i-preserved : goal.loop-i-preserved
loop-i-preserved c =
    let s = c in
    let l = c.loop-i in
    let v = l.invariant in
    (simp length-set v.0, v.1, v.2, counts-more s.args.crowd.now s.args.n l.counts l.i (omega arith) (omega arith) v.3)

pub returns : goal.returns
returns c =
    let s = c in
    let l = c.loop-i in
    counts_all s.args.crowd.now s.args.n l.counts l.i (omega arith) l.invariant.3
