-- Signed numbers of 32 bits and the bits that store them.
use Rattle.std.specs.Prelude.{ℕ, ◌+◌, ◌%◌, ◌<◌, ◌≡◌, ℤ}
use Rattle.std.proofs.Common.{arith, ap, ◌∙◌}
use Rattle.std.proofs.Math.IntN.{sub_ℕ}
use Rattle.std.specs.Int.Signed.{mag}
use Rattle.component.specs.Stored.{biased}
use Rattle.component.specs.Laws.Stored.{bias-below, unbias-bias}
use Rattle.settings.specs.Records.{signed_of, bits_of}

pub bits_below : (n : ℤ) → bits_of n < 4294967296
unfolding bits_of
bits_below n = omega arith

-- A signed number of 32 bits comes back from its bits.
pub signed-bits : (n : ℤ) → mag n < 2147483648 → signed_of (bits_of n) ≡ n
unfolding bits_of
signed-bits n h =
    let b = biased n in
    let l = bias-below 2147483648 n h in
    let e : ((b + 2147483648) % 4294967296 + 2147483648) % 4294967296 ≡ b % 4294967296 = omega arith in
    ap (λ (k : ℕ). sub_ℕ k 2147483648) e ∙ unbias-bias n h
