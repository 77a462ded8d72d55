-- The words are those of a consistent state.
use native.Mathlib.Omega.{arith}
use mathlib.Core.Path.{ap}
use lib.ListN.{length}
use Rattle.consistent.specs.Laws.Words.{occupied-few}
use Rattle.consistent.proofs.tables.Checked.occupied.Goals as goal

pub returns-clause-few : goal.returns-clause-few
returns-clause-few c =
    let s = c.args.self.now in
    let f = occupied-few s.words.now (record { long = s.long; good = s.sound }) in
    (omega (arith, f.0, c.occupied.ensures.count, ap length c.occupied.ensures.words), omega (arith, f.1, c.occupied.ensures.count))
