-- An event is a removal or a move.
use mathlib.Core.Path.{ap, ◌∙◌}
use lib.ListN.{get_or}
use Rattle.model.specs.Cells.{cell_in_range}
use Rattle.model.specs.Occupancy.{move_to}
use Rattle.batch_events.specs.Events.{move_place}
use Rattle.batch_events.specs.Laws.Events.{removal-at, move-at}
use Rattle.batch_events.specs.Laws.Going.{ready-leave, ready-enter, held-event}
use Rattle.batch_events.proofs.play_event.Goals as goal

pub play_removal-requires : goal.play_removal-requires
play_removal-requires c =
    let p = c.requires in
    (p.1, p.2.held, ready-leave p.2)

pub returns-then-k-removals-clause-held : goal.returns-then-k-removals-clause-held
returns-then-k-removals-clause-held c =
    let a = c.args in
    λ o h. held-event a.tables.now.kind o (removal-at a.batch.now a.removals a.k c.if-k-removals.true) (c.play_removal.ensures.held o h)

pub play_move-requires : goal.play_move-requires
play_move-requires c =
    let p = c.requires in
    (p.1, p.2.held, ap cell_in_range c.move_cell-c.ensures ∙ p.3.move-ranged c.if-k-removals.false, ready-enter p.2, ready-leave p.2)

pub returns-else-k-removals-clause-held : goal.returns-else-k-removals-clause-held
returns-else-k-removals-clause-held c =
    let a = c.args in
    let b = a.batch.now in
    let e = ap (move_to (get_or b (move_place a.removals a.k) 0)) c.move_cell-c.ensures ∙ move-at b a.removals a.k c.if-k-removals.false in
    λ o h. held-event a.tables.now.kind o e (c.play_move.ensures.held o h)
