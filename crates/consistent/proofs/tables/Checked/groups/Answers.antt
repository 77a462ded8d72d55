-- The words are those of a consistent state.
use native.Mathlib.Omega.{arith}
use mathlib.Core.Path.{ap, ◌∙◌}
use lib.ListN.{length}
use Rattle.table.specs.Rows.{is_table1}
use Rattle.layout.specs.Widths.{group_width}
use Rattle.consistent.specs.Laws.Words.{groups-table, groups-few}
use Rattle.consistent.proofs.tables.Checked.groups.Goals as goal

pub returns-clause-table : goal.returns-clause-table
returns-clause-table c =
    let s = c.args.self.now in
    (λ i. is_table1 group_width (c.groups.ensures.count i) (c.groups.ensures.words i)) ∙ groups-table s.words.now (record { long = s.long; good = s.sound })

pub returns-clause-few : goal.returns-clause-few
returns-clause-few c =
    let s = c.args.self.now in
    let f = groups-few s.words.now (record { long = s.long; good = s.sound }) in
    (omega (arith, f.0, c.groups.ensures.count, ap length c.groups.ensures.words), omega (arith, f.1, c.groups.ensures.count))
