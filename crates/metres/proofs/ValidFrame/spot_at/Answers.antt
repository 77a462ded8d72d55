-- `metres::ValidFrame::spot_at` meets its contract.
use Rattle.std.proofs.Common.{ℕ, ◌/◌, ap, ◌∙◌, to_z-of_z, w32, rules}
use Rattle.metres.specs.Place.{spot_of}
use Rattle.metres.proofs.Laws.Cell.{cell-is, offset-is}
use Rattle.metres.proofs.ValidFrame.spot_at.Goals as goal

pub returns : goal.returns
unfolding spot_of
returns c =
    let e = c.edge_metres-e in
    let p = c.args.p.metres in
    let edge = c.args.self.frame.edge in
    let q = ap (λ (r : ℕ). r / e.result) c.passed.ensures in
    let cell = to_z-of_z {w = w32} {z = c.cell_number-cell.result} (search rules) ∙ c.cell_number-cell.ensures ∙ cell-is p edge e.result (c.passed.result / e.result) e.ensures q in
    let offset = c.less-offset.ensures ∙ offset-is p edge e.result (c.passed.result / e.result) e.ensures q c.lower_side.result c.lower_side.ensures in
    λ i. record { cell = cell i; offset = offset i }
