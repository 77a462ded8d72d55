-- There is room in the zeros.
use Prim.Native.Nat.{ℕ, ◌≤◌}
use native.Mathlib.Omega.{arith}
use lib.ListN.{length, replicate, length-replicate}
use Rattle.model.specs.Occupancy.{play_batch}
use Rattle.model.specs.Update.{touch_of}
use Rattle.layout.specs.State.{decode}
use Rattle.layout.proofs.Laws.Cut.{whole}
use Rattle.writing.specs.Parts.{front_words}
use Rattle.updating.specs.Steps.{id_space, group_space}
use Rattle.updating.specs.Laws.Steps.{zeros-blank, ids-spare, groups-spare, finish-regroups}
use Rattle.updating.specs.Laws.Writing.{finish-written}
use Rattle.updating.proofs.finish.Goals as goal

ids-zeros : id_space ≤ length (replicate {A = ℕ} id_space 0)
ids-zeros = omega (arith, length-replicate {A = ℕ} id_space 0)

groups-zeros : group_space ≤ length (replicate {A = ℕ} group_space 0)
groups-zeros = omega (arith, length-replicate {A = ℕ} group_space 0)

pub regroup_state-g-requires : goal.regroup_state-g-requires
regroup_state-g-requires c =
    let s = c in
    let o = play_batch (touch_of (decode s.args.state.now)) s.requires.0 (decode s.args.state.now).occupancy in
    let k = c.counts_of in
    (o.newly_occupied, o.newly_emptied, o.entities, finish-regroups s.requires.1 (replicate id_space 0) k.new.counts (replicate group_space 0) (zeros-blank id_space) ids-zeros k.ensures (zeros-blank group_space) groups-zeros s.args.tables.now.kind s.requires.6)

pub write_back-requires : goal.write_back-requires
write_back-requires c =
    let s = c in
    let r = c.regroup_state-g in (
      omega (arith, whole s.args.state.now s.requires.1.known.long, c.write_front.auto.state),
      omega (arith, ids-spare, r.auto.ids, ids-zeros),
      omega (arith, groups-spare, r.auto.groups, groups-zeros),
    )

pub returns : goal.returns
returns c =
    let s = c in
    let a = s.args in
    let p = s.requires in
    let r = c.regroup_state-g in
    let h = c.header-head in
    let z = c.write_back in
    let k = c.counts_of in
    let t = a.tables.now in
    λ b f.
    let o = play_batch (touch_of (decode a.state.now)) b (decode a.state.now).occupancy in
    finish-written f r.new.ids r.new.groups r.result a.tables.now.kind p.6
    (r.ensures o.newly_occupied o.newly_emptied o.entities (finish-regroups f (replicate id_space 0) k.new.counts (replicate group_space 0) (zeros-blank id_space) ids-zeros k.ensures (zeros-blank group_space) groups-zeros a.tables.now.kind p.6))
    p.2 p.3 p.4 p.5 (omega (arith, ids-spare, r.auto.ids, ids-zeros)) (omega (arith, groups-spare, r.auto.groups, groups-zeros))
    h.result z.new.state h.ensures (z.ensures a.state.now (front_words h.result t.entities.now t.cells.now t.occupied.now t.emptied.now) c.write_front.ensures)
