-- The stored form is below 2^32.
use Rattle.settings.proofs.Signed.{asked}
use Rattle.settings.specs.Records.{bits_of}
use Rattle.component.specs.Stored.{biased}
use Prim.Native.Nat.{ℕ, ◌+◌, ◌%◌}
use mathlib.Core.Path.{ap}
use borrow.Author.Rules.{rules}
use Rattle.settings.proofs.records.bits.Goals as goal

pub returns : goal.returns
unfolding bits_of
returns c = ap (λ (b : ℕ). (b + 2147483648) % 4294967296) (asked biased c.args.n c.bias.ensures (search rules))
