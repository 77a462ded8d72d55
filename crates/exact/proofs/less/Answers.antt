-- `exact::less` meets its contract: the difference is the nearest float, but for the sign of a zero.
use Rattle.std.proofs.Common.{◌≡◌, ◌∙◌, ap, sym, ◌-ℤ◌}
use Rattle.std.specs.Prelude.{Float}
use lib.Ieee.{binary64, sub, eq}
use lib.Ieee.Fits.{sub-fits}
use Rattle.exact.specs.Units.{exact, nearest}
use Rattle.exact.specs.Finite.{Finite}
use Rattle.exact.specs.Laws.Round.{plus, sub-exact}
use Rattle.exact.specs.Laws.Tests.{zero-of-bits, zero-passed, zero-failed}
use Rattle.exact.proofs.less.Goals as goal

law : (a b : Float) → Finite a → Finite b → plus (sub binary64 a b) ≡ nearest (exact a -ℤ exact b)
law a b k l = sub-exact a b k.fits l.fits k.finite l.finite

pub returns-then-d : goal.returns-then-d
returns-then-d c =
    let d = sub binary64 c.args.a c.args.b in
    zero-of-bits ∙ zero-passed d (sub-fits binary64 c.args.a c.args.b) (ap (eq d) (sym zero-of-bits) ∙ c.if-d.true) ∙ law c.args.a c.args.b c.requires.a_finite c.requires.b_finite

pub returns : goal.returns
returns c =
    let d = sub binary64 c.args.a c.args.b in
    zero-failed d (ap (eq d) (sym zero-of-bits) ∙ c.if-d.false) ∙ law c.args.a c.args.b c.requires.a_finite c.requires.b_finite
