-- A negative number is put behind its sign.
use mathlib.Core.Path.{sym, ap, ◌∙◌}
use native.Mathlib.Omega.{arith}
use Rattle.little_endian.specs.Laws.Putting.{then}
use Rattle.script.specs.Laws.Decimal.{signed_low, signed_high}
use Rattle.little_endian.specs.Bytes.{put}
use Rattle.script.proofs.lines.put_signed.Goals as goal

pub returns-then-w-lt9223372036854775808 : goal.returns-then-w-lt9223372036854775808
returns-then-w-lt9223372036854775808 c =
    let p = c in
    let s = p in
    (p.put_number.ensures.0 ∙ ap (put s.args.out.now s.args.at) (sym (signed_low s.args.w p.if-w-lt9223372036854775808.true)), omega (arith, p.put_number.ensures.1))

pub returns : goal.returns
returns c =
    let p = c in
    let q = p in
    let s = q in
    let h = s.requires in (
      then s.args.out.now s.args.at _ _ (omega arith) q.put_byte-next.ensures.0 p.put_number-2.ensures.0
          ∙ ap (put s.args.out.now s.args.at) (sym (signed_high s.args.w q.if-w-lt9223372036854775808.false s.ranges.w.fits)),
      omega (arith, q.put_byte-next.ensures.1, p.put_number-2.ensures.1),
    )
