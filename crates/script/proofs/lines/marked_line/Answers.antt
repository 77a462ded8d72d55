-- Each part is put behind what is there.
use Prim.Native.Nat.{zero-le}
use Rattle.little_endian.specs.Laws.Putting.{then}
use Rattle.script.proofs.Putting.{start, short}
use Rattle.script.proofs.lines.marked_line.Goals as goal

pub returns-then-out-lt128 : goal.returns-then-out-lt128
returns-then-out-lt128 c = short c.args.out.now _ c.if-out-lt128.true

pub returns : goal.returns
returns c =
    let o = c.args.out.now in
    start o _ c.if-out-lt128.false (then o 0 _ _ zero-le c.put_cell-at.ensures.0 c.put_byte.ensures.0)
