-- `open_map` meets its contract.
use native.Mathlib.Omega.{arith}
use mathlib.Core.Path.{refl, ap, ◌∙◌}
use lib.ListN.{length}
use Rattle.layout.proofs.Laws.Cut.{entities-long, cells-long}
use Rattle.layout.proofs.Laws.Lengths.{entities-room}
use Rattle.updating.specs.Laws.Steps.{entities-loaded, cells-loaded, crowd-room, map-opened}
use Rattle.updating.proofs.open_map.Goals as goal

pub write_row-requires : goal.write_row-requires
write_row-requires c =
    let s = c in
    omega (arith, ap length c.entity_words.ensures, entities-long s.args.state.now s.requires.0.long, s.requires.2)

pub write_row-requires-2 : goal.write_row-requires-2
write_row-requires-2 c =
    let s = c in
    omega (arith, ap length c.cell_words.ensures, cells-long s.args.state.now s.requires.0.long, s.requires.4)

pub crowd_of-requires : goal.crowd_of-requires
crowd_of-requires c =
    let s = c in
    let w = s.args.state.now in
    let p = s.requires in
    let r = c.write_row in
    let k = c.count_at-n in
    let n = k.ensures ∙ p.0.stands.entity-count in
    let e = entities-loaded w p.0 s.args.ents.now p.1 c.entity_words.result.now r.new.s r.ensures r.auto.s c.entity_words.ensures p.2 in
    (omega (arith, n, entities-room _ p.0.ok.few-entities, p.2, r.auto.s), p.5, crowd-room w p.0 k.result n r.new.s e _ p.6)

pub returns : goal.returns
returns c =
    let s = c in
    let w = s.args.state.now in
    let p = s.requires in
    let r = c.write_row in
    let q = c.write_row-2 in
    let k = c.count_at-n in
    let d = c.crowd_of in
    let n = k.ensures ∙ p.0.stands.entity-count in
    let e = entities-loaded w p.0 s.args.ents.now p.1 c.entity_words.result.now r.new.s r.ensures r.auto.s c.entity_words.ensures p.2 in
    let f = cells-loaded w p.0 s.args.cells.now p.3 c.cell_words.result.now q.new.s q.ensures q.auto.s c.cell_words.ensures p.4 in
    map-opened w p.0 k.result n r.new.s e q.new.s f s.args.crowd.now d.new.crowd d.auto.crowd d.ensures.1 _ refl c.count_at.ensures refl refl
