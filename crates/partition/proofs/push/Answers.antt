-- The row put is that of the cell with its id.
use Rattle.partition.specs.Laws.Ids.{push-asks, push-done}
use Rattle.partition.specs.Laws.Held.{put-shorter}
use Rattle.model.proofs.Laws.Orders.{cells}
use native.Mathlib.Omega.{arith}
use Rattle.partition.proofs.push.Goals as goal

pub put-requires : goal.put-requires
put-requires c = let s = c in push-asks s.args.ids.now s.args.n s.requires.0 s.requires.1 s.args.c s.args.g s.requires.3

pub returns : goal.returns
returns c =
    let s = c in
    let a = s.args in
    let t = s.requires.0 in
    let d = push-done a.ids.now a.n t s.requires.1 a.c a.g _ _ s.requires.2 s.requires.3 c.put.ensures in
    let e = d.count in
    let f = s.requires.1.count in (
      omega (arith, put-shorter cells t a.c a.g),
      λ t h. push-done a.ids.now a.n t h a.c a.g _ _ s.requires.2 s.requires.3 c.put.ensures,
    )
