-- `metres::frame_ok` meets its contract.
use Rattle.std.proofs.Common.{◌&&◌}
use Rattle.metres.specs.Place.{frame_ok}
use Rattle.metres.proofs.frame_ok.Goals as goal

pub returns : goal.returns
unfolding frame_ok
returns c = λ i. c.edge_ok.ensures i && (c.origin_ok.ensures i && (c.origin_ok-2.ensures i && c.origin_ok-3.ensures i))
