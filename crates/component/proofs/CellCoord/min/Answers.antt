-- Each axis is the smaller number, which went into std's `min` and came out by its bits.
use Rattle.std.proofs.Common.{rules, arith}
use Rattle.component.specs.Coord.{min_z}
use Rattle.component.proofs.Signed.{axes, by_bits}
use Rattle.component.proofs.CellCoord.min.Goals as goal

pub returns : goal.returns
unfolding min_z
returns c =
    axes min_z c.args.a c.args.b
    (by_bits min_z {a = c.args.a.x} {b = c.args.b.x} c.min.ensures.value (record { sfits = omega (arith, c.min.type_inv) }) (search rules) (search rules))
    (by_bits min_z {a = c.args.a.y} {b = c.args.b.y} c.min-2.ensures.value (record { sfits = omega (arith, c.min-2.type_inv) }) (search rules) (search rules))
    (by_bits min_z {a = c.args.a.z} {b = c.args.b.z} c.min-3.ensures.value (record { sfits = omega (arith, c.min-3.type_inv) }) (search rules) (search rules))
