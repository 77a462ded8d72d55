-- The loop writes the next cell behind those that are written.
use native.Mathlib.Omega.{arith}
use Rattle.layout.specs.Rows.{net_in}
use Rattle.neighbourhood.proofs.Laws.Filling.{filled_none}
use Rattle.lists.proofs.Laws.Scans.{net-step, net-end}
use Rattle.lists.proofs.net_into.Goals as goal

pub loop-i-init : goal.loop-i-init
loop-i-init c = filled_none c.args.words.now (net_in c.args.n c.args.rows.now)

pub loop-i-preserved : goal.loop-i-preserved
loop-i-preserved c = net-step c.args.rows.now c.args.n c.args.words.now c.loop-i.words _ c.loop-i.i c.cell_at-c.result c.loop-i.invariant c.loop-i-test.true c.cell_at-c.ensures c.write_cell.ensures

pub returns : goal.returns
returns c = net-end c.args.rows.now c.args.n c.args.words.now c.loop-i.words c.loop-i.i c.loop-i.invariant (omega (arith, c.loop-i.auto.i-end, c.loop-i-test.false))
