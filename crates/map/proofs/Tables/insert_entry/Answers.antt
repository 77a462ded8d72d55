-- The tables are those of `Entries`, opened.
use Rattle.layout.specs.Widths.{cell_width}
use Rattle.map.proofs.Entries.{opens-shown, opened-stored}
use Rattle.table.specs.Rows.{cell}
use Rattle.table.specs.Laws.Next.{room-space}
use native.Mathlib.Omega.{arith}
use Rattle.map.proofs.Tables.insert_entry.Goals as goal

pub mask_of-w-requires : goal.mask_of-w-requires
mask_of-w-requires c = (opens-shown c.requires.1).masks.table

pub tell-requires : goal.tell-requires
tell-requires c = (opens-shown c.requires.1).masks.table

pub put-self-requires : goal.put-self-requires
put-self-requires c = (c.tell.ensures.table, room-space cell cell_width c.args.self.now.counts.cells c.tell.new.cells c.args.c (omega (arith, c.requires.1.space.cells-room, c.tell.auto.cells)))

pub cross-x-requires : goal.cross-x-requires
cross-x-requires c = let x = opens-shown c.requires.1 in (x.emptied.table, x.opened.table, c.requires.1.space.occupied-room)

pub returns-clause-stored : goal.returns-clause-stored
returns-clause-stored c = λ o h. opened-stored h _ c.mask_of-w.ensures c.tell.ensures c.put-self.ensures c.cross-x.ensures
