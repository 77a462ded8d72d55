-- The text is put at the start.
use Rattle.script.proofs.Putting.{start, short}
use Rattle.script.specs.Lines.{end_line}
use Rattle.script.proofs.lines.end_line.Goals as goal

pub returns-then-out-lt128 : goal.returns-then-out-lt128
returns-then-out-lt128 c = short c.args.out.now _ c.if-out-lt128.true

pub returns : goal.returns
unfolding end_line
returns c =
    let p = c in
    let t = p in
    start t.args.out.now _ t.if-out-lt128.false p.put_text.ensures.0
