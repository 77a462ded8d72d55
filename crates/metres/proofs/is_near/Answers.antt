-- `metres::is_near` meets its contract.
use Rattle.std.proofs.Common.{◌≡◌, not, ◌&&◌, refl, ◌∙◌}
use lib.Ieee.{binary64, lt, of_bits, neg}
use Rattle.metres.proofs.Laws.Near.{near-test, high_f, low_f}
use Rattle.metres.proofs.is_near.Goals as goal

high : of_bits binary64 0x4130_0000_0000_0000 ≡ high_f
unfolding of_bits
high = refl

low : neg (of_bits binary64 0x4130_0000_0000_0000) ≡ low_f
unfolding of_bits neg
low = refl

pub returns : goal.returns
returns c =
    let x = c.args.x in
    (λ i. c.is_finite.ensures i && (not (lt x (low i)) && not (lt (high i) x))) ∙ near-test x c.requires
