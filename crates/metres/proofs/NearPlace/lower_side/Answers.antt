-- The side is a whole number that a float holds.
use Rattle.std.proofs.Common.{ℕ, ◌+◌, ◌*◌, ◌^◌, ◌≤◌, arith}
use Rattle.exact.specs.Units.{exact}
use Rattle.exact.specs.Laws.Whole.{said-zero}
use Rattle.metres.proofs.Laws.Cell.{side-above, side-below}
use Rattle.metres.proofs.NearPlace.lower_side.Goals as goal

above : (w : ℕ) → w ≤ 1048576 → w ≤ 2 ^ 53
above w h = omega arith

below : (w e : ℕ) → w ≤ 1048576 → e ≤ 64 → w + e ≤ 2 ^ 53
below w e h k = omega arith

pub returns-then-self : goal.returns-then-self
returns-then-self c =
    side-below (exact c.args.self.metres) c.args.q c.args.e (below (c.args.q * c.args.e) c.args.e c.requires.side_in_range c.requires.edge_in_range)
    (said-zero c.args.self.metres c.args.self.near.known c.if-self.true)

pub returns : goal.returns
returns c =
    side-above (exact c.args.self.metres) c.args.q c.args.e (above (c.args.q * c.args.e) c.requires.side_in_range)
    (said-zero c.args.self.metres c.args.self.near.known c.if-self.false)
