-- `write_front` meets its contract.
use native.Mathlib.Omega.{arith}
use Rattle.layout.specs.State.{entities_len, cells_len, net_len, entities_from, cells_from, occupied_from, emptied_from, state_len}
use Rattle.writing.specs.Laws.Writing.{front-written}
use Rattle.writing.proofs.write_front.Goals as goal

pub write_row-requires : goal.write_row-requires
unfolding state_len
write_row-requires c = let p = c.requires in omega (arith, p.0, p.1)

pub store-requires : goal.store-requires
unfolding entities_len state_len
store-requires c = let p = c.requires in (p.2, omega (arith, p.0, c.write_row.auto.s))

pub store-requires-2 : goal.store-requires-2
unfolding cells_len state_len
store-requires-2 c = let p = c.requires in (p.3, omega (arith, p.0, c.store.auto.state, c.write_row.auto.s))

pub store-requires-3 : goal.store-requires-3
unfolding net_len state_len
store-requires-3 c = let p = c.requires in (p.4, omega (arith, p.0, c.store-2.auto.state, c.store.auto.state, c.write_row.auto.s))

pub store-requires-4 : goal.store-requires-4
unfolding net_len state_len
store-requires-4 c = let p = c.requires in (p.5, omega (arith, p.0, c.store-3.auto.state, c.store-2.auto.state, c.store.auto.state, c.write_row.auto.s))

pub returns : goal.returns
unfolding entities_len cells_len net_len entities_from cells_from occupied_from emptied_from
returns c =
    let s = c in
    let a = s.args in
    let p = s.requires in
    let r = c.write_row in
    let i = c.store in
    let j = c.store-2 in
    let k = c.store-3 in
    let l = c.store-4 in
    front-written a.state.now a.head.now a.ents.now a.cells.now a.occ.now a.emp.now p.1 p.2 p.3 p.4 p.5
    r.new.s i.new.state j.new.state k.new.state l.new.state r.ensures i.ensures j.ensures k.ensures l.ensures
