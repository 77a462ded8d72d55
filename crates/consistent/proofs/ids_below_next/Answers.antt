-- Point 6, over the words of the cells with an id.
use native.Mathlib.Omega.{arith}
use mathlib.Core.Path.{ap, ◌∙◌}
use lib.Dec.{ltb}
use lib.ListN.{length}
use Rattle.model.specs.Lists.{all, values}
use Rattle.table.specs.Rows.{cell}
use Rattle.table.specs.Laws.Images.{table-facts}
use Rattle.layout.specs.Widths.{id_width}
use Rattle.layout.specs.Rows.{ids_in}
use Rattle.layout.specs.State.{id_words, id_count, next_id}
use Rattle.layout.proofs.Laws.Cut.{header-fits}
use Rattle.consistent.specs.Laws.Points.{tables, point6-is}
use Rattle.consistent.proofs.ids_below_next.Goals as goal

pub bounds-state-6 : goal.bounds-state-6
bounds-state-6 c = let s = c in omega (arith, header-fits s.args.state.now.words.now s.args.state.now.long)

pub ids_below-requires : goal.ids_below-requires
ids_below-requires c =
    let s = c in
    let w = s.args.state.now.words.now in
    omega (arith, (table-facts cell id_width (id_count w) (id_words w) (tables w s.args.state.now.long s.requires).ids-table).fits, c.ids-k.ensures.count, ap length c.ids-k.ensures.words)

pub returns : goal.returns
returns c =
    let w = c.args.state.now.words.now in
    c.ids_below.ensures
    ∙ (λ i. all (λ g. ltb g (next_id w)) (values (ids_in (c.ids-k.ensures.count i) (c.ids-k.ensures.words i))))
    ∙ point6-is w
