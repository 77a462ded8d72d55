-- `metres::ValidFrame::edge_metres` meets its contract.
use Rattle.metres.proofs.Laws.Frame.{edge-casts, edge-is}
use Rattle.metres.proofs.ValidFrame.edge_metres.Goals as goal

pub float_to_int-result : goal.float_to_int-result
float_to_int-result c = edge-casts c.args.self.frame.edge c.args.self.edge_named

pub returns : goal.returns
returns c = edge-is c.args.self.frame.edge c.args.self.edge_named
