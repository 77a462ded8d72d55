-- After i rows the records are those of the first i cells.
use Rattle.partition.specs.Laws.Records.{turn-asks, count-few, turn-done, all_done}
use Rattle.partition.specs.Laws.Held.{groups_none}
use native.Mathlib.Omega.{arith}
use Rattle.partition.proofs.build_records.Goals as goal

pub loop-i-init : goal.loop-i-init
loop-i-init c = let s = c in (s.requires.2.fits, s.requires.6, s.requires.3.fits, λ e t h k. groups_none s.args.groups.now s.requires.5)

pub count_cell-k-requires : goal.count_cell-k-requires
count_cell-k-requires c =
    let l = c in
    let s = l in
    let v = l.loop-i.invariant.3 s.requires.0 s.requires.1 s.requires.2 s.requires.3 in
    let a = turn-asks s.args.ids.now s.args.counts.now l.loop-i.groups s.args.n l.loop-i.k l.loop-i.i s.requires.0 s.requires.1 s.requires.2 s.requires.3 v (omega arith) (omega arith) (omega arith) s.requires.4 in
    let m = count-few s.args.ids.now s.args.counts.now l.loop-i.groups s.args.n l.loop-i.k l.loop-i.i s.requires.0 s.requires.1 s.requires.2 s.requires.3 v (omega arith) (omega arith) s.requires.4 in
    (a.0, a.1, a.2, a.3, m)

pub loop-i-preserved : goal.loop-i-preserved
loop-i-preserved c =
    let l = c in
    let s = l in (
      omega arith,
      omega arith,
      omega arith,
      λ e t h k. turn-done s.args.ids.now s.args.counts.now l.loop-i.groups s.args.n l.loop-i.k l.loop-i.i e t h k (l.loop-i.invariant.3 e t h k) (omega arith) (omega arith) _ _ _ c.cell_at.ensures c.count_cell-k.ensures,
    )

pub returns : goal.returns
returns c = let s = c in λ e t h k. all_done s.args.ids.now _ s.args.n _ c.loop-i.i e t h (c.loop-i.invariant.3 e t h k) (omega arith)
