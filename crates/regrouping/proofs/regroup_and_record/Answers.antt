-- `regroup_and_record` meets its contract.
use native.Mathlib.Omega.{arith}
use Rattle.model.specs.Cells.{touch_at}
use Rattle.model.specs.Groups.{regroup}
use Rattle.partition.specs.Laws.Held.{plain}
use Rattle.regrouping.specs.Laws.{counts-held}
use Rattle.regrouping.proofs.regroup_and_record.Goals as goal

pub build_records-k-requires : goal.build_records-k-requires
build_records-k-requires c =
    let a = c in
    let p = a.requires in
    let x = p.4 in
    let h = c.regroup-r.ensures p.0 p.1 p.2 x.held x.opened x.emptied in
    let t = (regroup (touch_at a.args.kind) p.1 p.2 p.0).ids in
    (p.3, t, plain h.rows, counts-held _ _ t (plain h.rows) _ p.3 x.counted, x.few-entities, x.groups-blank, omega (arith, h.rows.count, x.few, x.groups-room))

pub returns : goal.returns
returns c =
    let kind = c.args.kind in
    λ s o e entities x.
    let h = c.regroup-r.ensures s o e x.held x.opened x.emptied in
    let t = (regroup (touch_at kind) o e s).ids in
    record { ids-held = h; groups-held = c.build_records-k.ensures entities t (plain h.rows) (counts-held _ _ t (plain h.rows) _ entities x.counted) }
