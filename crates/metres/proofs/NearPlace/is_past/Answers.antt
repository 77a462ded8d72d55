-- `metres::NearPlace::is_past` meets its contract.
use Rattle.std.proofs.Common.{ℕ, ◌^◌, ◌≤◌, arith}
use Rattle.metres.proofs.Laws.Near.{past-test}
use Rattle.metres.proofs.NearPlace.is_past.Goals as goal

wide : (n : ℕ) → n ≤ 1048576 → n ≤ 2 ^ 53
wide n h = omega arith

pub returns : goal.returns
returns c =
    past-test c.args.self.metres c.size.result c.args.n c.size.ensures (wide c.args.n c.requires)
