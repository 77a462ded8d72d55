use Rattle.std.proofs.Common.{rules}
use Rattle.script_reader.proofs.Moving.{moves-on}
use Rattle.script_reader.proofs.gather.Goals as goal

pub returns-in_err-g-clause-moves : goal.returns-in_err-g-clause-moves
returns-in_err-g-clause-moves g c = moves-on _ _ _ c.loop-turns.invariant.2 c.take.ensures.moves

pub loop-turns-preserved : goal.loop-turns-preserved
loop-turns-preserved g c = (search rules, search rules, moves-on _ _ _ c.loop-turns.invariant.2 c.take.ensures.moves)
