-- The events of a batch in words, by their number: the removals first, one word each, then the moves, five words each.
use Rattle.std.specs.Prelude.{ℕ, ◌+◌, ◌-◌, ◌*◌, ◌≤◌, ◌<◌, ◌≡◌, Bool, true, cond, List, ltb, length, get_or}
use Rattle.model.specs.Cells.{Cell, cell_in_range}
use Rattle.model.specs.Occupancy.{Event, remove, move_to}
use Rattle.layout.specs.Widths.{move_width}
use Rattle.batch.specs.Words.{move_at}

-- Whether a move goes to a cell in range.
abbrev pub in_range : ℕ × Cell → Bool
in_range m = cell_in_range m.1

-- A move as an event.
abbrev pub to_move : ℕ × Cell → Event
to_move m = move_to m.0 m.1

-- Where the move of event k begins.
abbrev pub move_place : ℕ → ℕ → ℕ
move_place removals k = removals + move_width * (k - removals)

-- Event k.
unfoldable pub event_at : List ℕ → ℕ → ℕ → Event
event_at b removals k = cond (ltb k removals) (remove (get_or b k 0)) (to_move (move_at b (move_place removals k)))

-- A batch has more words than k, as each event has one at least; the words of event k are there, and a move goes to a cell in range.
pub record EventFits (b : List ℕ) (removals k : ℕ) : Type 0 where
  pub more-words : k < length b
  pub move-there : removals ≤ k → move_place removals k + move_width ≤ length b
  pub move-ranged : removals ≤ k → in_range (move_at b (move_place removals k)) ≡ true
