-- The derived order is cell order.
use Rattle.std.proofs.Common.{◌≡◌, ◌∙◌, rules, is_lt, nat_cmp, int_cmp}
use Rattle.std.specs.Ordering.{ordering_then, partial_lt}
use Rattle.component.specs.contracts.CellIdPartialOrd.TheImpl.{partial_cmp-value}
use Rattle.component.specs.declared.CellId.{CellId}
use Rattle.component.proofs.Signed.{id_below}
use Rattle.component.proofs.CellId.comes_before.Goals as goal

derived : (a b : CellId) → partial_lt partial_cmp-value.it a b
    ≡ is_lt (ordering_then (nat_cmp a.grid b.grid) (ordering_then (int_cmp a.coord.z b.coord.z) (ordering_then (int_cmp a.coord.y b.coord.y) (int_cmp a.coord.x b.coord.x))))
derived a b = search rules

pub returns : goal.returns
returns c =
    c.lt.ensures ∙ (derived c.args.self c.args.other
    ∙ id_below c.args.self c.args.other (record { z = search rules; y = search rules; x = search rules }) (record { z = search rules; y = search rules; x = search rules }))
