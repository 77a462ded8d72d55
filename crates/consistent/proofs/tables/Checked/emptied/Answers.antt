-- The words are those of a consistent state.
use native.Mathlib.Omega.{arith}
use mathlib.Core.Path.{ap}
use lib.ListN.{length}
use Rattle.consistent.specs.Laws.Words.{emptied-few}
use Rattle.consistent.proofs.tables.Checked.emptied.Goals as goal

pub returns-clause-few : goal.returns-clause-few
returns-clause-few c =
    let s = c.args.self.now in
    let f = emptied-few s.words.now (record { long = s.long; good = s.sound }) in
    (omega (arith, f.0, c.emptied.ensures.count, ap length c.emptied.ensures.words), omega (arith, f.1, c.emptied.ensures.count))
