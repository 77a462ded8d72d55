use Rattle.std.proofs.Common.{rules}
use Rattle.script_reader.proofs.Moving.{moves-on}
use Rattle.script_writer.proofs.Growing.{grows-on}
use Rattle.player.proofs.playing.play_all.Goals as goal

pub returns-in_err-p-clause-moves : goal.returns-in_err-p-clause-moves
returns-in_err-p-clause-moves g c = moves-on _ _ _ c.loop-turns.invariant.3 c.turn.ensures.moves

pub returns-in_err-p-clause-grows : goal.returns-in_err-p-clause-grows
returns-in_err-p-clause-grows g c = grows-on _ _ _ c.loop-turns.invariant.4 c.turn.ensures.grows

pub loop-turns-preserved : goal.loop-turns-preserved
loop-turns-preserved g c =
    (search rules, search rules, search rules, moves-on _ _ _ c.loop-turns.invariant.3 c.turn.ensures.moves, grows-on _ _ _ c.loop-turns.invariant.4 c.turn.ensures.grows)

pub returns-clause-grows : goal.returns-clause-grows
returns-clause-grows g c = grows-on _ _ _ c.loop-turns.invariant.4 c.flush.ensures.grows
