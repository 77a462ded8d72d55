-- The loop writes the next key behind those that are written.
use native.Mathlib.Omega.{arith}
use Rattle.lists.proofs.Laws.Scans.{over_none, key_step, key-end}
use Rattle.lists.proofs.keys_into.Goals as goal

pub loop-i-init : goal.loop-i-init
loop-i-init c = over_none _

pub loop-i-preserved : goal.loop-i-preserved
loop-i-preserved c = key_step c.args.rows.now c.args.n c.args.words.now c.loop-i.words c.loop-i.i c.loop-i.invariant (omega (arith, c.requires.1, c.loop-i.auto.words, c.loop-i-test.true)) c.loop-i-test.true

pub returns : goal.returns
returns c = key-end c.args.rows.now c.args.n c.args.words.now c.loop-i.words c.loop-i.i c.loop-i.invariant (omega (arith, c.loop-i.auto.i-end, c.loop-i-test.false))
