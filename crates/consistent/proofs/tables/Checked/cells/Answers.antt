-- The words are those of a consistent state.
use native.Mathlib.Omega.{arith}
use Rattle.consistent.specs.Laws.Words.{cells-here, cells-few}
use Rattle.consistent.proofs.tables.Checked.cells.Goals as goal

pub returns-clause-stand : goal.returns-clause-stand
returns-clause-stand c =
    let s = c.args.self.now in
    cells-here c.cells.result.1 c.cells.result.0.now s.words.now (record { long = s.long; good = s.sound }) c.cells.ensures.count c.cells.ensures.words

pub returns-clause-few : goal.returns-clause-few
returns-clause-few c = let s = c.args.self.now in omega (arith, cells-few s.words.now (record { long = s.long; good = s.sound }), c.cells.ensures.count)
