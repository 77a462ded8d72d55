-- Each part is put behind what is there.
use Prim.Native.Nat.{zero-le}
use Rattle.little_endian.specs.Laws.Putting.{then}
use Rattle.script.proofs.Putting.{start, short}
use Rattle.script.specs.Lines.{batch_line}
use Rattle.script.proofs.lines.batch_line.Goals as goal

pub returns-then-out-lt128 : goal.returns-then-out-lt128
returns-then-out-lt128 c = short c.args.out.now _ c.if-out-lt128.true

pub returns : goal.returns
unfolding batch_line
returns c =
    let n = c in
    let k = n in
    let w = k in
    let m = w in
    let p = m in
    let t = p in
    let o = t.args.out.now in
    let pm = then o 0 _ _ zero-le p.put_text-a.ensures.0 m.put_number-b.ensures.0 in
    let pw = then o 0 _ _ zero-le pm w.put_text-c.ensures.0 in
    let pk = then o 0 _ _ zero-le pw k.put_number-d.ensures.0 in
    start o _ t.if-out-lt128.false (then o 0 _ _ zero-le pk n.put_byte.ensures.0)
