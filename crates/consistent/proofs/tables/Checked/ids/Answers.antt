-- The words are those of a consistent state.
use mathlib.Core.Path.{◌∙◌}
use Rattle.table.specs.Rows.{is_table4}
use Rattle.layout.specs.Widths.{id_width}
use Rattle.consistent.specs.Laws.Words.{ids-table}
use Rattle.consistent.proofs.tables.Checked.ids.Goals as goal

pub returns-clause-table : goal.returns-clause-table
returns-clause-table c =
    let s = c.args.self.now in
    (λ i. is_table4 id_width (c.ids.ensures.count i) (c.ids.ensures.words i)) ∙ ids-table s.words.now (record { long = s.long; good = s.sound })
