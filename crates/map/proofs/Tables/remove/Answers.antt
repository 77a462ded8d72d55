-- The row of the entity is gone, and the entity has left the cell.
use Rattle.map.proofs.Passing.{same-peopled}
use Rattle.map.proofs.Moving.{same-held, ents-shows, leaves-cell, left-held}
use mathlib.Core.Path.{refl, sym}
use Rattle.map.proofs.Tables.remove.Goals as goal

pub remove-self-requires : goal.remove-self-requires
remove-self-requires c = (ents-shows c.requires.1.held).table

pub leave_cell-requires : goal.leave_cell-requires
leave_cell-requires c = (c.args.e, c.requires.0, leaves-cell c.requires.1 c.remove-self.result)

pub returns-clause-held : goal.returns-clause-held
returns-clause-held c =
    let r = c.leave_cell.ensures in
    λ o h. same-held r.kept.kind r.entities.rows
    (left-held h c.remove-self.ensures r.entities.count (same-peopled (sym r.kept.kind) refl (r.by_index c.args.e o (leaves-cell h c.remove-self.result))))
