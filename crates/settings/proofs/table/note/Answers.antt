-- The table knows the new mark, at its place or for want of one.
use Rattle.settings.proofs.Laws.Table.{known-full, known-noted}
use Rattle.settings.proofs.table.note.Goals as goal

pub returns-then-k-t : goal.returns-then-k-t
returns-then-k-t c = λ f known.
    known-noted known c.place_of-k.ensures c.args.mark c.requires c.if-k-t.true

pub returns-else-k-t : goal.returns-else-k-t
returns-else-k-t c = λ f known.
    known-full known c.place_of-k.ensures c.args.mark c.if-k-t.false
