-- The words are those of a consistent state.
use native.Mathlib.Omega.{arith}
use mathlib.Core.Path.{ap, ◌∙◌}
use lib.ListN.{length}
use Rattle.table.specs.Rows.{is_table1}
use Rattle.layout.specs.Widths.{entity_width}
use Rattle.consistent.specs.Laws.Words.{entities-table, entities-few}
use Rattle.consistent.proofs.tables.Checked.entities.Goals as goal

pub returns-clause-table : goal.returns-clause-table
returns-clause-table c =
    let s = c.args.self.now in
    (λ i. is_table1 entity_width (c.entities.ensures.count i) (c.entities.ensures.words i)) ∙ entities-table s.words.now (record { long = s.long; good = s.sound })

pub returns-clause-few : goal.returns-clause-few
returns-clause-few c =
    let s = c.args.self.now in
    let f = entities-few s.words.now (record { long = s.long; good = s.sound }) in
    (omega (arith, f.0, c.entities.ensures.count, ap length c.entities.ensures.words), omega (arith, f.1, c.entities.ensures.count))
