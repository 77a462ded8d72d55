-- Point 8, over the words of the occupied cells and of both net lists.
use mathlib.Core.Path.{ap, ◌∙◌}
use lib.ListN.{length}
use Rattle.table.specs.Rows.{is_table4}
use Rattle.layout.specs.Widths.{cell_width}
use Rattle.points_check.specs.Points.{nets_right}
use Rattle.layout.specs.State.{net_len}
use Rattle.layout.proofs.Laws.Cut.{occupied-long, emptied-long}
use Rattle.consistent.specs.Laws.Points.{tables, point8-is}
use Rattle.consistent.proofs.nets_in_order.Goals as goal

pub nets_right-requires : goal.nets_right-requires
unfolding net_len
nets_right-requires c =
    let s = c in
    let w = s.args.state.now.words.now in (
      (λ i. is_table4 cell_width (c.cells-m.ensures.count i) (c.cells-m.ensures.words i)) ∙ (tables w s.args.state.now.long s.requires).cells-table,
      ap length c.occupied-k.ensures.words ∙ occupied-long w s.args.state.now.long,
      ap length c.emptied-l.ensures.words ∙ emptied-long w s.args.state.now.long,
    )

pub returns : goal.returns
returns c =
    let w = c.args.state.now.words.now in
    c.nets_right.ensures
    ∙ (λ i. nets_right (c.cells-m.ensures.words i) (c.cells-m.ensures.count i) (c.occupied-k.ensures.words i)
    (c.occupied-k.ensures.count i) (c.emptied-l.ensures.words i) (c.emptied-l.ensures.count i))
    ∙ point8-is w
