-- Each way out is one of `Passing`: the last has left, or others stay.
use Rattle.map.proofs.Passing.{same-peopled, crowd-shows, leaves-closes, leaves-room, left-last, left-others}
use Rattle.map.proofs.Tables.leave_cell.Goals as goal

pub standing-k-requires : goal.standing-k-requires
standing-k-requires c = (crowd-shows c.requires.2.peopled).table

pub remove-requires : goal.remove-requires
remove-requires c = (crowd-shows c.requires.2.peopled).table

pub remove_entry-requires : goal.remove_entry-requires
remove_entry-requires c = (c.requires.1, leaves-closes c.requires.2)

pub set_count-requires : goal.set_count-requires
set_count-requires c = ((crowd-shows c.requires.2.peopled).table, leaves-room c.requires.2)

pub returns-then-k-le1-clause-by_index : goal.returns-then-k-le1-clause-by_index
returns-then-k-le1-clause-by_index c =
    let r = c.remove_entry.ensures in
    λ e o h. same-peopled r.kept.kind r.crowd (left-last h c.standing-k.ensures c.if-k-le1.true c.remove.ensures (r.stored o (leaves-closes h)))

pub returns-else-k-le1-clause-by_index : goal.returns-else-k-le1-clause-by_index
returns-else-k-le1-clause-by_index c = λ e o h. left-others h c.standing-k.ensures c.if-k-le1.false c.set_count.ensures h.peopled.stored
