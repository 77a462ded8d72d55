-- Each number is put behind what is there.
use Prim.Native.Nat.{zero-le}
use native.Mathlib.Omega.{arith}
use Rattle.little_endian.specs.Laws.Putting.{then}
use Rattle.script.specs.Lines.{cell_text}
use Rattle.script.proofs.lines.put_cell.Goals as goal

pub returns : goal.returns
unfolding cell_text
returns c =
    let e = c in
    let d = e in
    let b = d in
    let a = b in
    let m = a in
    let s = m in
    let o = s.args.out.now in
    let ma = then o 0 _ _ zero-le m.put_byte-a.ensures.0 a.put_field-b.ensures.0 in
    let mb = then o 0 _ _ zero-le ma b.put_axis-c.ensures.0 in
    let md = then o 0 _ _ zero-le mb d.put_axis-d.ensures.0 in (
      then o 0 _ _ zero-le md e.put_axis.ensures.0,
      omega (arith, m.put_byte-a.ensures.1, a.put_field-b.ensures.1, b.put_axis-c.ensures.1, d.put_axis-d.ensures.1, e.put_axis.ensures.1),
    )
