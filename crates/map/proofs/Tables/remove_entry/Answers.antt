-- The tables are those of `Entries`, closed.
use Rattle.map.proofs.Entries.{closes-shown, closes-gone, closed-stored}
use Rattle.map.proofs.Tables.remove_entry.Goals as goal

pub remove-k-requires : goal.remove-k-requires
remove-k-requires c = (closes-shown c.requires.1).masks.table

pub tell-requires : goal.tell-requires
tell-requires c = closes-gone c.requires.1 _ c.remove-k.ensures

pub cross-x-requires : goal.cross-x-requires
cross-x-requires c = let x = closes-shown c.requires.1 in (x.opened.table, x.emptied.table, c.requires.1.space)

pub returns-clause-stored : goal.returns-clause-stored
returns-clause-stored c = λ o h. closed-stored h _ c.remove-k.ensures c.tell.ensures c.cross-x.ensures
