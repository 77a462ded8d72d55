-- After i rows the first i are merged and the others as they were.
use Rattle.partition.specs.Laws.Join.{merge-set, merge-same, has-found}
use mathlib.Core.Path.{◌∙◌}
use native.Mathlib.Omega.{arith}
use Rattle.partition.proofs.merge.Goals.{then-contains, else-contains}
use Rattle.partition.proofs.merge.Goals as goal

pub loop-i-preserved : goal.loop-i-preserved
loop-i-preserved c =
    let a = c.args in
    let v = c.loop-i in
    let e = c.contains.ensures.value ∙ has-found a.found.now _ in
    elim c.if-contains.branch [
      | then-contains w ↦ (v.invariant.0, λ t h. rw w.ids-is (merge-set a.into a.found.now a.ids.now v.ids a.n t h v.i (omega arith) (v.invariant.1 t h) c.contains.result e w.if-contains.true))
      | else-contains w ↦ (v.invariant.0, λ t h. rw w.ids-is (merge-same a.into a.found.now a.ids.now v.ids a.n t h v.i (omega arith) (v.invariant.1 t h) c.contains.result e w.if-contains.false))
    ]
