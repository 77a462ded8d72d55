-- The loop writes the entity of the next row if it stands in the cell.
use native.Mathlib.Omega.{arith}
use mathlib.Core.Path.{refl, ◌∙◌, ap}
use lib.ListN.{length}
use Rattle.model.specs.Cells.{same}
use Rattle.table.specs.Moves.{over}
use Rattle.lists.proofs.Laws.Scans.{over_none, entity-step, entity-past, entity-end}
use Rattle.lists.proofs.entities_into.Goals as goal
use Rattle.lists.proofs.entities_into.Goals.{then-eq, else-eq}

pub loop-i-init : goal.loop-i-init
loop-i-init c = (omega arith, refl, over_none _)

pub loop-i-preserved : goal.loop-i-preserved
loop-i-preserved c =
    let l = c.loop-i in
    let v = l.invariant in
    let here = c.eq.ensures ∙ ap (same c.args.c) c.cell_at.ensures in
    elim c.if-eq.branch [
      | then-eq w ↦
          let e = entity-step c.args.rows.now c.args.n c.args.c l.i c.loop-i-test.true c.eq.result here c.args.words.now l.words l.k v.1 v.2 (omega (arith, c.requires.1, l.auto.words, v.0, c.loop-i-test.true)) w.if-eq.true in
          (omega (arith, v.0, w.k-is), w.k-is ∙ e.0, w.words-is ∙ e.1)
      | else-eq w ↦
          let e = entity-past c.args.rows.now c.args.n c.args.c l.i c.loop-i-test.true c.eq.result here c.args.words.now l.words l.k v.1 v.2 w.if-eq.false in
          (omega (arith, v.0, w.k-is), w.k-is ∙ e.0, w.words-is ∙ e.1)
    ]

pub returns : goal.returns
returns c =
    let v = c.loop-i.invariant in
    let e = entity-end c.args.rows.now c.args.n c.args.c c.loop-i.i (omega (arith, c.loop-i.auto.i-end, c.loop-i-test.false)) in
    (v.1 ∙ ap length e, v.2 ∙ ap (over c.args.words.now 0) e)
