-- A word has at most twenty digits.
use native.Mathlib.Omega.{arith}
use Rattle.script.specs.Laws.Decimal.{decimal-word}
use Rattle.script.proofs.lines.put_number.Goals as goal

pub put_digits-requires : goal.put_digits-requires
put_digits-requires c = let s = c in let e = decimal-word s.args.n s.ranges.n.fits in let p = s.requires in omega arith

pub returns : goal.returns
returns c = let p = c in let s = p in let e = decimal-word s.args.n s.ranges.n.fits in (p.put_digits.ensures.0, omega (arith, p.put_digits.ensures.1))
