-- The digits of a number are those of its tenth and a last one.
use Rattle.std.proofs.Common.{sym, ap, ◌∙◌, arith, ◌∷◌, [], ◌++◌, ◌≤◌, length, ℕ, ◌/◌}
use Rattle.little_endian.specs.Bytes.{put}
use Rattle.little_endian.specs.Laws.Putting.{then}
use Rattle.script.specs.Lines.{decimal}
use Rattle.script.specs.Laws.Decimal.{decimal-small, decimal-more, length-small, length_more}
use Rattle.script.proofs.lines.+put_digits.Goals as goal

pub put_byte-requires : goal.put_byte-requires
put_byte-requires t c =
    let e = length-small c.args.n c.if-n-lt10.true in
    let h = c.requires in
    omega arith

pub returns-then-n-lt10 : goal.returns-then-n-lt10
returns-then-n-lt10 t c =
    let h = c.if-n-lt10.true in
    let a = c.args in
    let e = length-small a.n h in (
      c.put_byte.ensures.0 ∙ ap (put a.out.now a.at) (ap (λ (d : ℕ). d ∷ []) c.digit.ensures ∙ sym (decimal-small a.n h)),
      omega (arith, c.put_byte.ensures.1),
    )

pub put_digits-next-requires : goal.put_digits-next-requires
put_digits-next-requires t c =
    let h = c.if-n-lt10.false in
    let e = length_more c.args.n h in
    let p = c.decreases in
    let q = c.requires in
    (omega arith, omega arith)

pub put_byte-requires-2 : goal.put_byte-requires-2
put_byte-requires-2 t c =
    let e = length_more c.args.n c.if-n-lt10.false in
    let k = c.put_digits-next.auto.out in
    let p = c.put_digits-next.ensures.1 in
    let q = c.requires in
    omega arith

pub returns : goal.returns
returns t c =
    let h = c.if-n-lt10.false in
    let a = c.args in
    let e = length_more a.n h in
    let q = c.requires in
    let l : a.at ≤ length a.out.now = omega arith in (
      then a.out.now a.at (decimal (a.n / 10)) _ l c.put_digits-next.ensures.0 c.put_byte-2.ensures.0
          ∙ ap (put a.out.now a.at) (ap (λ (g : ℕ). decimal (a.n / 10) ++ (g ∷ [])) c.digit-2.ensures ∙ sym (decimal-more a.n h)),
      omega (arith, c.put_byte-2.ensures.1, c.put_digits-next.ensures.1),
    )
