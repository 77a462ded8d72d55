-- The invariant: all places from the home up to k are taken by other grids.
use Rattle.settings.specs.Table.{places_of}
use Rattle.settings.proofs.Laws.Table.{home-within}
use native.Mathlib.Omega.{arith}
use mathlib.Core.Path.{refl}
use Rattle.settings.proofs.table.place_of.Goals as goal

pub loop-k-init : goal.loop-k-init
loop-k-init c =
    let t = c.args.t.now in
    let e = c.home-k.ensures in
    let w = home-within c.args.grid (places_of t) in
    (refl, omega arith, omega arith, λ i l h. absurd (omega arith))
