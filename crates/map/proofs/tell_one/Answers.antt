-- The row that is found is revised; where there is none, nothing changes.
use Rattle.layout.specs.Widths.{cell_width}
use Rattle.map.proofs.Steps.{found-row, told-found, told-missing}
use Rattle.table.specs.Rows.{placed, table4, place_of}
use Rattle.model.specs.Lists.{keys}
use Rattle.component.specs.Order.{below}
use mathlib.Core.Path.{◌∙◌, ap}
use Prim.Native.Nat.{◌-◌}
use native.Mathlib.Omega.{arith}
use Rattle.map.proofs.tell_one.Goals as goal

pub revise-requires : goal.revise-requires
revise-requires c = let a = c.args in (found-row _ _ c.requires.0 a.joins _ (26 - a.k) _ c.in-Ok.ensures, omega arith)

pub returns-in-Ok : goal.returns-in-Ok
returns-in-Ok c =
    let a = c.args in
    let e = c.in-Ok.ensures ∙ ap (place_of below (keys (table4 cell_width a.m a.cells.now))) c.neighbour_of.ensures in
    (ap placed e, told-found _ _ c.requires.0 a.joins _ (26 - a.k) _ e _ c.revise.ensures)

pub returns-in-Err : goal.returns-in-Err
returns-in-Err c =
    let a = c.args in
    let e = c.in-Err.ensures ∙ ap (place_of below (keys (table4 cell_width a.m a.cells.now))) c.neighbour_of.ensures in
    (ap placed e, told-missing _ _ c.requires.0 a.joins _ (26 - a.k) _ e)
