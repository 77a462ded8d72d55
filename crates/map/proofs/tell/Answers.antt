-- After k numbers the first k neighbours are told.
use Rattle.layout.specs.Widths.{cell_width}
use Rattle.map.specs.Laws.Tables.{told_none, told_more, told-skip}
use Rattle.map.specs.Told.{told_one, of_kind}
use Rattle.table.specs.Rows.{table4}
use Rattle.layout.specs.Rows.{neighbour_of}
use Rattle.model.specs.Lists.{change}
use mathlib.Core.Path.{refl, sym, ap, ◌∙◌}
use Prim.Native.Nat.{◌+◌, ◌-◌}
use Rattle.map.proofs.tell.Goals as goal
use Rattle.map.proofs.tell.Goals.{then-has_offset, else-has_offset}

pub loop-k-init : goal.loop-k-init
loop-k-init c =
    let a = c.args in
    (refl, record { table = c.requires; is = told_none (of_kind a.kind) a.joins (neighbour_of a.c) (table4 cell_width a.m a.cells.now) })

pub loop-k-preserved : goal.loop-k-preserved
loop-k-preserved c =
    let l = c.loop-k in
    let a = c.args in
    let t = table4 cell_width a.m a.cells.now in
    elim c.if-has_offset.branch [
      | then-has_offset w ↦
          let r = w.tell_one-near.ensures.1 in
          rw w.cells-is (
            w.tell_one-near.auto.cells ∙ l.invariant.0,
            record { table = r.table; is = r.is ∙ ap (change (told_one a.joins (neighbour_of a.c (l.k + 1)) (26 - (l.k + 1)))) l.invariant.1.is ∙ told_more (of_kind a.kind) a.joins (neighbour_of a.c) l.k t (sym c.has_offset.ensures ∙ w.if-has_offset.true) },
          )
      | else-has_offset w ↦
          rw w.cells-is (
            l.invariant.0,
            record { table = l.invariant.1.table; is = l.invariant.1.is ∙ told-skip (of_kind a.kind) a.joins (neighbour_of a.c) l.k t (sym c.has_offset.ensures ∙ w.if-has_offset.false) },
          )
    ]
