-- Each way out is one of `Passing`: the cell was empty, or it was not.
use Rattle.layout.specs.Widths.{crowd_width}
use Rattle.map.proofs.Passing.{same-peopled, crowd-shows, enters-fits, enters-nobody, enters-somebody, enters-opens, entered}
use Rattle.table.specs.Laws.Next.{room-space}
use Rattle.table.specs.Rows.{cell}
use mathlib.Core.Bool.{true, false}
use native.Mathlib.Omega.{arith}
use Rattle.map.proofs.Tables.enter_cell.Goals as goal

pub standing-k-requires : goal.standing-k-requires
standing-k-requires c = (crowd-shows c.requires.2.peopled).table

pub overflow_add-k : goal.overflow_add-k
overflow_add-k c = let f = enters-fits c.requires.2 c.standing-k.ensures in omega arith

pub set_count-requires : goal.set_count-requires
set_count-requires c = let t = c.args.self.now in ((crowd-shows c.requires.2.peopled).table, room-space cell crowd_width t.counts.cells t.crowd.now c.args.c c.requires.2.crowd-room)

pub insert_entry-requires : goal.insert_entry-requires
insert_entry-requires c = (c.requires.1, enters-opens c.requires.2 c.standing-k.ensures c.if-k-eq0.true)

pub returns-then-k-eq0-clause-by_index : goal.returns-then-k-eq0-clause-by_index
returns-then-k-eq0-clause-by_index c =
    let r = c.insert_entry.ensures in let q = c.standing-k.ensures in let z = c.if-k-eq0.true in
    λ e o h. same-peopled r.kept.kind r.crowd (entered h q c.set_count.ensures false (enters-nobody h q z) (r.stored o (enters-opens h q z)))

pub returns-else-k-eq0-clause-by_index : goal.returns-else-k-eq0-clause-by_index
returns-else-k-eq0-clause-by_index c =
    let q = c.standing-k.ensures in
    λ e o h. entered h q c.set_count.ensures true (enters-somebody h q c.if-k-eq0.false) h.peopled.stored
