-- `write_back` meets its contract.
use native.Mathlib.Omega.{arith}
use Rattle.layout.specs.State.{ids_len, groups_len, ids_from, groups_from, state_len}
use Rattle.writing.specs.Laws.Writing.{back-written}
use Rattle.writing.proofs.write_back.Goals as goal

pub store-requires : goal.store-requires
unfolding ids_len state_len
store-requires c = let p = c.requires in (omega (arith, p.1), omega (arith, p.0))

pub store-requires-2 : goal.store-requires-2
unfolding groups_len state_len
store-requires-2 c = let p = c.requires in (omega (arith, p.2), omega (arith, p.0, c.store.auto.state))

pub returns : goal.returns
unfolding ids_len groups_len ids_from groups_from
returns c =
    let s = c in
    let a = s.args in
    let k = c.store in
    let l = c.store-2 in
    λ w p g. back-written w a.state.now p a.ids.now a.groups.now g s.requires.1 s.requires.2 k.new.state l.new.state k.ensures l.ensures
