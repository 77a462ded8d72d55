-- After k numbers the bits of the first k neighbours are noted.
use Rattle.layout.specs.Widths.{cell_width}
use Rattle.map.specs.Laws.Tables.{note-none, note-yes, note-no, note-skip}
use Rattle.map.specs.Told.{of_kind}
use Rattle.table.specs.Rows.{cell, table4, is_found}
use Rattle.table.specs.Laws.Kinds.{cell-lawful}
use Rattle.table.specs.Laws.Answers.{is_among}
use Rattle.layout.specs.Rows.{neighbour_of}
use Rattle.model.specs.Lists.{has, keys}
use Rattle.component.specs.Order.{same}
use mathlib.Core.Path.{sym, ap, ◌∙◌}
use Rattle.map.proofs.note.Goals as goal
use Rattle.map.proofs.note.Goals.{then-has_offset+in-Ok, then-has_offset+in-Err, else-has_offset}

pub loop-k-init : goal.loop-k-init
loop-k-init c = let a = c.args in note-none (of_kind a.kind) (keys (table4 cell_width a.m a.cells.now)) (neighbour_of a.c)

pub loop-k-preserved : goal.loop-k-preserved
loop-k-preserved c =
    let l = c.loop-k in
    let a = c.args in
    let k = keys (table4 cell_width a.m a.cells.now) in
    elim c.if-has_offset.branch [
      | then-has_offset+in-Ok w ↦
          let p = w.find_near in let d = w.neighbour_of in
          rw w.mask-is
          (note-yes (of_kind a.kind) k (neighbour_of a.c) l.k l.mask l.invariant (sym c.has_offset.ensures ∙ w.if-has_offset.true)
          (ap (has same k) (sym d.ensures) ∙ sym (is_among cell cell-lawful cell_width a.m a.cells.now c.requires d.result p.result p.ensures) ∙ ap is_found w.in-Ok.is)
          w.set-mask.result w.set-mask.ensures)
      | then-has_offset+in-Err w ↦
          let p = w.find_near in let d = w.neighbour_of in
          rw w.mask-is
          (note-no (of_kind a.kind) k (neighbour_of a.c) l.k l.mask l.invariant (sym c.has_offset.ensures ∙ w.if-has_offset.true)
          (ap (has same k) (sym d.ensures) ∙ sym (is_among cell cell-lawful cell_width a.m a.cells.now c.requires d.result p.result p.ensures) ∙ ap is_found w.in-Err.is))
      | else-has_offset w ↦
          rw w.mask-is (note-skip (of_kind a.kind) k (neighbour_of a.c) l.k l.mask l.invariant (sym c.has_offset.ensures ∙ w.if-has_offset.false))
    ]
