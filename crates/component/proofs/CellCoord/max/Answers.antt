-- Each axis is the larger number, which went into std's `max` and came out by its bits.
use Rattle.std.proofs.Common.{rules, arith, ◌∙◌}
use Rattle.component.specs.Coord.{max_z}
use Rattle.component.proofs.Signed.{axes, by_bits, larger}
use Rattle.component.proofs.CellCoord.max.Goals as goal

pub returns : goal.returns
returns c =
    axes max_z c.args.a c.args.b
    (by_bits max_z (c.max.ensures.value ∙ larger _ _) (record { sfits = omega (arith, c.max.type_inv) }) (search rules) (search rules))
    (by_bits max_z (c.max-2.ensures.value ∙ larger _ _) (record { sfits = omega (arith, c.max-2.type_inv) }) (search rules) (search rules))
    (by_bits max_z (c.max-3.ensures.value ∙ larger _ _) (record { sfits = omega (arith, c.max-3.type_inv) }) (search rules) (search rules))
