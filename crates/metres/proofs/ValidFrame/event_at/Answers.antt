-- `metres::ValidFrame::event_at` meets its contract.
use Rattle.std.proofs.Common.{◌∙◌, to_z-of_z, w32, rules}
use Rattle.metres.proofs.Laws.Answer.{x-ok, y-ok, z-ok, event-is}
use Rattle.metres.proofs.ValidFrame.event_at.Goals as goal

pub axis_spot-x-requires : goal.axis_spot-x-requires
axis_spot-x-requires c =
    let p = c.args.p in
    record { fits = search rules; origin = c.args.self.x_finite; ok = x-ok c.args.self.frame p.x p.y p.z c.requires }

pub axis_spot-y-requires : goal.axis_spot-y-requires
axis_spot-y-requires c =
    let p = c.args.p in
    record { fits = search rules; origin = c.args.self.y_finite; ok = y-ok c.args.self.frame p.x p.y p.z c.requires }

pub axis_spot-z-requires : goal.axis_spot-z-requires
axis_spot-z-requires c =
    let p = c.args.p in
    record { fits = search rules; origin = c.args.self.z_finite; ok = z-ok c.args.self.frame p.x p.y p.z c.requires }

pub returns : goal.returns
returns c =
    let p = c.args.p in
    let cx = to_z-of_z {w = w32} {z = c.axis_spot-x.result.cell} (search rules) in
    let cy = to_z-of_z {w = w32} {z = c.axis_spot-y.result.cell} (search rules) in
    let cz = to_z-of_z {w = w32} {z = c.axis_spot-z.result.cell} (search rules) in
    event-is c.args.self.frame p.x p.y p.z c.args.margin c.args.entity c.args.grid
    (record { cell = _; offset = c.axis_spot-x.result.offset })
    (record { cell = _; offset = c.axis_spot-y.result.offset })
    (record { cell = _; offset = c.axis_spot-z.result.offset })
    ((λ i. record { cell = cx i; offset = c.axis_spot-x.result.offset }) ∙ c.axis_spot-x.ensures)
    ((λ i. record { cell = cy i; offset = c.axis_spot-y.result.offset }) ∙ c.axis_spot-y.ensures)
    ((λ i. record { cell = cz i; offset = c.axis_spot-z.result.offset }) ∙ c.axis_spot-z.ensures)
