-- After i rows those that stay fill the first j, and the words behind them are as they were.
use Rattle.partition.specs.Laws.Leave.{sift-drop, sift-keep, sift-back}
use Rattle.partition.specs.Laws.Held.{cells-table, cells-keys}
use Rattle.model.specs.Cells.{same}
use Rattle.model.specs.Lists.{has}
use mathlib.Core.Path.{◌∙◌}
use Rattle.layout.specs.Widths.{id_width}
use Rattle.partition.specs.Held.{HeldCells}
use Rattle.model.specs.Cells.{Cell}
use lib.ListN.{length}
use mathlib.Core.List.{List}
use Prim.Native.Nat.{◌*◌, ◌≤◌}
use native.Mathlib.Omega.{arith}
use Rattle.partition.proofs.sift.Goals.{then-not-contains, else-not-contains}
use Rattle.partition.proofs.sift.Goals as goal

pub contains-requires : goal.contains-requires
contains-requires c = let s = c in cells-table s.args.emptied.now s.args.m s.requires.1 s.requires.3

pub loop-i-preserved : goal.loop-i-preserved
loop-i-preserved c =
    let s = c in
    let a = s.args in
    let l = c.loop-i in
    let v = l.invariant in
    let long : id_width * a.n ≤ length l.ids = omega arith in
    let h₀ = s.requires.2 in
    let k₀ = s.requires.3 in
    let member = λ (z : List Cell) (k : HeldCells a.emptied.now a.m z). c.contains.ensures ∙ (λ d. has same (cells-keys a.emptied.now a.m z k d) (c.cell_at.ensures d)) in
    elim c.if-not-contains.branch [
      | then-not-contains w ↦
          let q = w.copy_row.ensures in (
            omega (arith, w.j-is),
            v.1,
            rw (w.j-is, w.ids-is) (sift-back a.ids.now l.ids a.n _ h₀ s.requires.1 l.i l.j c.loop-i-test.true v.2 long v.0 (v.3 _ s.requires.1 h₀ k₀) _ q),
            λ t z h k. rw (w.j-is, w.ids-is) (sift-keep a.ids.now l.ids a.n t h z l.i l.j c.loop-i-test.true v.2 long v.0 (v.3 t z h k) c.contains.result (member z k) w.if-not-contains.true _ q),
          )
      | else-not-contains w ↦ (
        omega (arith, w.j-is),
        v.1,
        rw (w.j-is, w.ids-is) v.2,
        λ t z h k. rw (w.j-is, w.ids-is) (sift-drop a.ids.now l.ids a.n t h z l.i l.j c.loop-i-test.true v.2 long v.0 (v.3 t z h k) c.contains.result (member z k) w.if-not-contains.false),
      )
    ]
