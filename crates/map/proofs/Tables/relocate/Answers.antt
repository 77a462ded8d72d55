-- The row of the entity says the new cell, and the entity has left the old one and entered the new.
use Rattle.map.proofs.Passing.{same-peopled}
use Rattle.map.proofs.Moving.{same-held, same-enters, moves-shows, moves-room, moves-leaves, moves-enters, moved-held}
use Rattle.map.specs.Held.{Peopled}
use Rattle.model.specs.Cells.{touch_at}
use Rattle.model.specs.Occupancy.{enter, leave}
use Prim.Native.Nat.{ℕ}
use mathlib.Core.Path.{refl, sym, ◌∙◌, subst}
use Rattle.map.proofs.Tables.relocate.Goals as goal

pub set_stand-requires : goal.set_stand-requires
set_stand-requires c = ((moves-shows c.requires.1).table, moves-room c.requires.1)

pub enter_cell-requires : goal.enter_cell-requires
enter_cell-requires c =
    let a = c.args in let h = c.requires.1 in let l = c.leave_cell.ensures in let k = l.kept in (
      a.e,
      leave (touch_at a.self.now.kind) a.e a.d c.requires.0,
      same-enters k.kind (moves-enters h l.entities.count k.cells-long k.crowd-long k.occupied-long (same-peopled (sym k.kind) refl (l.by_index a.e c.requires.0 (moves-leaves h)))),
    )

pub returns-clause-held : goal.returns-clause-held
returns-clause-held c =
    let a = c.args in let l = c.leave_cell.ensures in let k = l.kept in let r = c.enter_cell.ensures in
    let t = c.enter_cell.new.self in
    λ o h.
    let u = leave (touch_at a.self.now.kind) a.e a.d o in
    let x = moves-enters h l.entities.count k.cells-long k.crowd-long k.occupied-long (same-peopled (sym k.kind) refl (l.by_index a.e o (moves-leaves h))) in
    let y = subst (λ (j : ℕ). Peopled t.kind t.cells.now t.crowd.now t.occupied.now t.emptied.now t.counts (enter (touch_at j) a.e a.c u)) k.kind (r.by_index a.e u (same-enters k.kind x)) in
    same-held (r.kept.kind ∙ k.kind) (r.entities.rows ∙ l.entities.rows)
    (moved-held h (r.entities.count ∙ l.entities.count) c.set_stand.ensures (same-peopled (sym (r.kept.kind ∙ k.kind)) refl y))
