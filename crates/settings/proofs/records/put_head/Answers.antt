-- Each part is put behind what is there.
use Rattle.little_endian.specs.Laws.Putting.{then}
use Rattle.little_endian.specs.Bytes.{bytes}
use native.Mathlib.Omega.{arith}
use Rattle.settings.proofs.records.put_head.Goals as goal

pub returns : goal.returns
unfolding bytes
returns c =
    let o = c.args.out.now in
    let h = c.requires in
    let xy = then o c.args.at _ _ (omega arith) c.put_byte-a.ensures.0 c.put_byte-b.ensures.0 in
    (then o c.args.at _ _ (omega arith) xy c.put_number.ensures.0, omega (arith, c.put_byte-a.ensures.1, c.put_byte-b.ensures.1, c.put_number.ensures.1))
