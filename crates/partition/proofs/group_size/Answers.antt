-- After i rows the count is the group's size among the first i.
use Rattle.partition.specs.Laws.Join.{size-more, size_same, size-all}
use mathlib.Core.Path.{◌∙◌}
use native.Mathlib.Omega.{arith}
use Rattle.partition.proofs.group_size.Goals.{then-ids-i, else-ids-i}
use Rattle.partition.proofs.group_size.Goals as goal

pub loop-i-preserved : goal.loop-i-preserved
loop-i-preserved c =
    let a = c.args in
    let v = c.loop-i in
    elim c.if-ids-i.branch [
      | then-ids-i w ↦ (omega arith, w.m-is ∙ size-more a.ids.now a.n a.g v.i (omega arith) v.m v.invariant.1 w.if-ids-i.true)
      | else-ids-i w ↦ (omega arith, w.m-is ∙ size_same a.ids.now a.n a.g v.i (omega arith) v.m v.invariant.1 w.if-ids-i.false)
    ]

pub returns : goal.returns
returns c = let s = c in size-all s.args.ids.now s.args.n s.args.g c.loop-i.i _ (omega arith) c.loop-i.invariant.1
