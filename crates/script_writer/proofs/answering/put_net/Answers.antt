use Rattle.std.proofs.Common.{rules}
use Rattle.script_writer.proofs.Growing.{grows-on}
use Rattle.script_writer.proofs.answering.put_net.Goals as goal

pub returns-in_err-u-clause-grows : goal.returns-in_err-u-clause-grows
returns-in_err-u-clause-grows g c = grows-on _ _ _ c.loop-i.invariant.2 c.put.ensures.grows

pub loop-i-preserved : goal.loop-i-preserved
loop-i-preserved g c = (search rules, search rules, grows-on _ _ _ c.loop-i.invariant.2 c.put.ensures.grows)
