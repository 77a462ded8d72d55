use Rattle.script_writer.proofs.Growing.{grows-on}
use Rattle.script_writer.proofs.answering.answer.Goals as goal

pub returns-in_err-b-clause-grows : goal.returns-in_err-b-clause-grows
returns-in_err-b-clause-grows g c = grows-on _ _ _ c.put.ensures.grows c.put_net.ensures.grows

pub returns-in_err-c-clause-grows : goal.returns-in_err-c-clause-grows
returns-in_err-c-clause-grows g c = grows-on _ _ _ c.put.ensures.grows (grows-on _ _ _ c.put_net.ensures.grows c.put_net-2.ensures.grows)

pub returns-clause-grows : goal.returns-clause-grows
returns-clause-grows g c =
    grows-on _ _ _ c.put.ensures.grows (grows-on _ _ _ c.put_net.ensures.grows (grows-on _ _ _ c.put_net-2.ensures.grows c.put_ids.ensures.grows))
