-- The wave leaves the distances, and the walk goes by them.
-- From a row that the wave does not reach no path is shown, and of one that it does the path has cells.
use native.Mathlib.Omega.{arith}
use mathlib.Core.Path.{refl, ap}
use lib.ListN.{length}
use Rattle.model.specs.Update.{most_cells}
use Rattle.path.specs.Laws.Walking.{walk-count, shown-none, shown-cells}
use Rattle.path.specs.Laws.Waves.{wave-asks, wave-levels, walk-asks}
use Rattle.path.proofs.path_rows.Goals as goal

pub flood_rows-requires : goal.flood_rows-requires
flood_rows-requires c =
    let s = c in
    wave-asks s.args.cells.now s.args.n s.args.to s.requires.0 s.requires.2 most_cells s.requires.3 s.requires.3

pub path_into-requires : goal.path_into-requires
path_into-requires c =
    let s = c in
    (s.args.to, walk-asks s.args.cells.now s.args.n s.args.to s.requires.0 s.requires.2 most_cells s.requires.3 _ _ _ (c.flood_rows.ensures s.requires.0.kind s.requires.0.table s.requires.0.cells) s.args.from s.args.answer.now s.requires.1 s.requires.4)

pub returns-then-marks-from-eq0 : goal.returns-then-marks-from-eq0
returns-then-marks-from-eq0 c =
    let a = c.args in
    λ kind t k.
    let w = wave-levels a.cells.now a.n a.to c.requires.0 c.requires.2 most_cells c.requires.3 _ _ _ (c.flood_rows.ensures c.requires.0.kind c.requires.0.table c.requires.0.cells) in
    (shown-none a.cells.now a.n t k a.to c.requires.2 _ w a.from c.requires.1 c.if-marks-from-eq0.true, refl)

pub returns : goal.returns
returns c =
    let a = c.args in
    λ kind t k.
    let w = wave-levels a.cells.now a.n a.to c.requires.0 c.requires.2 most_cells c.requires.3 _ _ _ (c.flood_rows.ensures c.requires.0.kind c.requires.0.table c.requires.0.cells) in
    let q = c.path_into.ensures kind t k a.to c.requires.2 w in
    let e = shown-cells a.cells.now a.n t k a.to c.requires.2 _ w a.from c.requires.1 in
    (q, omega (arith, q.number, ap length e, walk-count a.cells.now a.n c.flood_rows.new.marks a.from, c.if-marks-from-eq0.false))
