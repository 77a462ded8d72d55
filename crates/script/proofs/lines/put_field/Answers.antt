-- The number is put behind the space.
use native.Mathlib.Omega.{arith}
use Rattle.little_endian.specs.Laws.Putting.{then}
use Rattle.script.proofs.lines.put_field.Goals as goal

pub returns : goal.returns
returns c =
    let p = c in
    let q = p in
    let s = q in
    let h = s.requires in
    (then s.args.out.now s.args.at _ _ (omega arith) q.put_byte-next.ensures.0 p.put_number.ensures.0, omega (arith, q.put_byte-next.ensures.1, p.put_number.ensures.1))
