-- What is left of the events decides for all.
use mathlib.Core.List.{List}
use Rattle.model.specs.Cells.{Cell}
use Rattle.model.specs.Occupancy.{Occupancy, events}
use Rattle.batch.specs.Words.{batch_of}
use Rattle.map.specs.Tables.{Kept}
use Rattle.batch_events.specs.Playing.{ReadyIn, GoingIn}
use Rattle.batch_events.specs.Laws.Events.{events_left}
use Rattle.batch_events.proofs.play_batch.Given as goal

abbrev pub invariant-loop-i : goal.invariant-loop-i
invariant-loop-i l =
    Kept l.initial.tables l.tables
    × ((was : List Cell) (o : Occupancy) → ReadyIn l.initial.tables was o
    → GoingIn l.tables was o (events (batch_of l.batch l.removals l.moves)) (events_left l.batch l.removals l.moves l.i))
