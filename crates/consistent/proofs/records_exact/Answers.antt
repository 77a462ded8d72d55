-- Point 5, over the words of the entities, of the cells with an id and of the groups.
use native.Mathlib.Omega.{arith}
use mathlib.Core.Path.{ap, ◌∙◌}
use lib.ListN.{length}
use Rattle.model.specs.Lists.{all, has, keys, values}
use Rattle.model.specs.Cells.{same}
use Rattle.table.specs.Rows.{table4, is_table4}
use Rattle.layout.specs.Widths.{id_width}
use Rattle.layout.specs.Rows.{entities_in}
use Rattle.layout.proofs.Laws.Cut.{groups-long}
use Rattle.points_check.specs.Points.{records_right}
use Rattle.consistent.specs.Laws.Points.{tables, all-with-id, entities-there, point5-is}
use Rattle.consistent.proofs.records_exact.Goals as goal

pub records_right-requires : goal.records_right-requires
records_right-requires c =
    let g = c in
    let k = g in
    let i = k in
    let n = i in
    let e = n in
    let s = e in
    let w = s.args.state.now.words.now in
    let t = tables w s.args.state.now.long s.requires.1 in (
      omega (arith, entities-there w s.args.state.now.long s.requires.0, n.entities-n.ensures.count, ap length e.entities-n.ensures.words),
      (λ j. is_table4 id_width (k.ids-k.ensures.count j) (i.ids-k.ensures.words j)) ∙ t.ids-table,
      omega (arith, t.few-ids, k.ids-k.ensures.count),
      ap length g.groups-g.ensures.words ∙ groups-long w s.args.state.now.long,
      (λ j. all (has same (keys (table4 id_width (k.ids-k.ensures.count j) (i.ids-k.ensures.words j)))) (values (entities_in (n.entities-n.ensures.count j) (e.entities-n.ensures.words j)))) ∙ all-with-id w s.args.state.now.long s.requires.1,
    )

pub returns : goal.returns
returns c =
    let h = c in
    let g = h in
    let k = g in
    let i = k in
    let n = i in
    let e = n in
    c.records_right.ensures
    ∙ (λ j. records_right (e.entities-n.ensures.words j) (n.entities-n.ensures.count j) (i.ids-k.ensures.words j) (k.ids-k.ensures.count j) (g.groups-g.ensures.words j) (h.groups-g.ensures.count j))
    ∙ point5-is e.args.state.now.words.now
