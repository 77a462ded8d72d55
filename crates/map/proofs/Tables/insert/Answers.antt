-- The row of the entity says the cell, and the entity has entered it.
use Rattle.layout.specs.Widths.{entity_width}
use Rattle.map.proofs.Passing.{same-peopled}
use Rattle.map.proofs.Moving.{same-held, ents-shows, enters-cell, entered-held}
use Rattle.table.specs.Laws.Next.{room-space}
use Rattle.table.specs.Rows.{number}
use mathlib.Core.Path.{refl, sym}
use Rattle.map.proofs.Tables.insert.Goals as goal

pub set_stand-self-requires : goal.set_stand-self-requires
set_stand-self-requires c =
    let h = c.requires.1 in let t = c.args.self.now in
    ((ents-shows h.held).table, room-space number entity_width t.counts.entities t.entities.now c.args.e h.space.entities-room)

pub enter_cell-requires : goal.enter_cell-requires
enter_cell-requires c = (c.args.e, c.requires.0, enters-cell c.requires.1 c.set_stand-self.ensures)

pub returns-clause-held : goal.returns-clause-held
returns-clause-held c =
    let w = c.set_stand-self.ensures in let r = c.enter_cell.ensures in
    λ o h. same-held r.kept.kind r.entities.rows
    (entered-held h w r.entities.count (same-peopled (sym r.kept.kind) refl (r.by_index c.args.e o (enters-cell h w))))
