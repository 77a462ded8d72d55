-- The cells with an id stand in their words, and can be regrouped.
use native.Mathlib.Omega.{arith}
use mathlib.Core.Path.{ap}
use lib.ListN.{length}
use Rattle.layout.specs.State.{decode}
use Rattle.layout.proofs.Laws.Cut.{ids-long}
use Rattle.updating.specs.Laws.Steps.{ids-spare, regroup-ready}
use Rattle.updating.proofs.regroup_state.Goals as goal

pub write_row-requires : goal.write_row-requires
write_row-requires c =
    let x = c.requires.3 in
    omega (arith, ap length c.id_words.ensures, ids-long c.args.state.now x.known.long, x.ids-room, ids-spare)

pub regroup_and_record-requires : goal.regroup_and_record-requires
regroup_and_record-requires c =
    let p = c.requires in
    let i = c.id_words in
    let r = c.write_row in
    let k = c.count_at-n in
    ((decode c.args.state.now).groups, p.0, p.1, p.2, regroup-ready p.3 i.result.now r.new.s i.ensures r.ensures r.auto.s k.result k.ensures)

pub returns : goal.returns
returns c =
    let i = c.id_words in
    let r = c.write_row in
    let k = c.count_at-n in
    λ o e entities x. c.regroup_and_record.ensures (decode c.args.state.now).groups o e entities (regroup-ready x i.result.now r.new.s i.ensures r.ensures r.auto.s k.result k.ensures)
