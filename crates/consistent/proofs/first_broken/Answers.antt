-- The ways out, by the first point that does not hold: those before it hold.
use mathlib.Core.Path.{sym, ◌∙◌}
use Rattle.layout.proofs.Laws.Broken.{broken1, broken2, broken3, broken4, broken5, broken6, broken7, broken8, broken9, unbroken}
use Rattle.consistent.proofs.first_broken.Goals as goal

pub returns-then-not-kind_known : goal.returns-then-not-kind_known
returns-then-not-kind_known c = broken9 c.args.state.now.words.now (sym c.kind_known.ensures ∙ c.if-not-kind_known.true)

pub returns-then-not-entities_within : goal.returns-then-not-entities_within
returns-then-not-entities_within c = broken1 c.args.state.now.words.now (sym c.kind_known.ensures ∙ c.if-not-kind_known.false) (sym c.entities_within.ensures ∙ c.if-not-entities_within.true)

pub returns-then-not-cells_exact : goal.returns-then-not-cells_exact
returns-then-not-cells_exact c = broken2 c.args.state.now.words.now (sym c.kind_known.ensures ∙ c.if-not-kind_known.false) (sym c.entities_within.ensures ∙ c.if-not-entities_within.false) (sym c.cells_exact.ensures ∙ c.if-not-cells_exact.true)

pub returns-then-not-masks_exact : goal.returns-then-not-masks_exact
returns-then-not-masks_exact c = broken3 c.args.state.now.words.now (sym c.kind_known.ensures ∙ c.if-not-kind_known.false) (sym c.entities_within.ensures ∙ c.if-not-entities_within.false) (sym c.cells_exact.ensures ∙ c.if-not-cells_exact.false) (sym c.masks_exact.ensures ∙ c.if-not-masks_exact.true)

pub returns-then-not-ids_shared : goal.returns-then-not-ids_shared
returns-then-not-ids_shared c = broken4 c.args.state.now.words.now (sym c.kind_known.ensures ∙ c.if-not-kind_known.false) (sym c.entities_within.ensures ∙ c.if-not-entities_within.false) (sym c.cells_exact.ensures ∙ c.if-not-cells_exact.false) (sym c.masks_exact.ensures ∙ c.if-not-masks_exact.false) (sym c.ids_shared.ensures ∙ c.if-not-ids_shared.true)

pub returns-then-not-records_exact : goal.returns-then-not-records_exact
returns-then-not-records_exact c = broken5 c.args.state.now.words.now (sym c.kind_known.ensures ∙ c.if-not-kind_known.false) (sym c.entities_within.ensures ∙ c.if-not-entities_within.false) (sym c.cells_exact.ensures ∙ c.if-not-cells_exact.false) (sym c.masks_exact.ensures ∙ c.if-not-masks_exact.false) (sym c.ids_shared.ensures ∙ c.if-not-ids_shared.false) (sym c.records_exact.ensures ∙ c.if-not-records_exact.true)

pub returns-then-not-ids_below_next : goal.returns-then-not-ids_below_next
returns-then-not-ids_below_next c = broken6 c.args.state.now.words.now (sym c.kind_known.ensures ∙ c.if-not-kind_known.false) (sym c.entities_within.ensures ∙ c.if-not-entities_within.false) (sym c.cells_exact.ensures ∙ c.if-not-cells_exact.false) (sym c.masks_exact.ensures ∙ c.if-not-masks_exact.false) (sym c.ids_shared.ensures ∙ c.if-not-ids_shared.false) (sym c.records_exact.ensures ∙ c.if-not-records_exact.false) (sym c.ids_below_next.ensures ∙ c.if-not-ids_below_next.true)

pub returns-then-not-coordinates_in_range : goal.returns-then-not-coordinates_in_range
returns-then-not-coordinates_in_range c = broken7 c.args.state.now.words.now (sym c.kind_known.ensures ∙ c.if-not-kind_known.false) (sym c.entities_within.ensures ∙ c.if-not-entities_within.false) (sym c.cells_exact.ensures ∙ c.if-not-cells_exact.false) (sym c.masks_exact.ensures ∙ c.if-not-masks_exact.false) (sym c.ids_shared.ensures ∙ c.if-not-ids_shared.false) (sym c.records_exact.ensures ∙ c.if-not-records_exact.false) (sym c.ids_below_next.ensures ∙ c.if-not-ids_below_next.false) (sym c.coordinates_in_range.ensures ∙ c.if-not-coordinates_in_range.true)

pub returns-then-not-nets_in_order : goal.returns-then-not-nets_in_order
returns-then-not-nets_in_order c = broken8 c.args.state.now.words.now (sym c.kind_known.ensures ∙ c.if-not-kind_known.false) (sym c.entities_within.ensures ∙ c.if-not-entities_within.false) (sym c.cells_exact.ensures ∙ c.if-not-cells_exact.false) (sym c.masks_exact.ensures ∙ c.if-not-masks_exact.false) (sym c.ids_shared.ensures ∙ c.if-not-ids_shared.false) (sym c.records_exact.ensures ∙ c.if-not-records_exact.false) (sym c.ids_below_next.ensures ∙ c.if-not-ids_below_next.false) (sym c.coordinates_in_range.ensures ∙ c.if-not-coordinates_in_range.false) (sym c.nets_in_order.ensures ∙ c.if-not-nets_in_order.true)

pub returns : goal.returns
returns c = unbroken c.args.state.now.words.now (sym c.kind_known.ensures ∙ c.if-not-kind_known.false) (sym c.entities_within.ensures ∙ c.if-not-entities_within.false) (sym c.cells_exact.ensures ∙ c.if-not-cells_exact.false) (sym c.masks_exact.ensures ∙ c.if-not-masks_exact.false) (sym c.ids_shared.ensures ∙ c.if-not-ids_shared.false) (sym c.records_exact.ensures ∙ c.if-not-records_exact.false) (sym c.ids_below_next.ensures ∙ c.if-not-ids_below_next.false) (sym c.coordinates_in_range.ensures ∙ c.if-not-coordinates_in_range.false) (sym c.nets_in_order.ensures ∙ c.if-not-nets_in_order.false)
