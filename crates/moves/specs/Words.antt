-- Events as moves: the words of a move, where they are put in a batch, and the move that they stand for.
use Rattle.std.specs.Prelude.{ℕ, ◌+◌, cond, List, ◌∷◌, leb, length}
use Rattle.component.specs.Stored.{stored}
use Rattle.refusal.specs.Forms.{Refused, none, too_short}
use Rattle.model.specs.Cells.{Cell}
use Rattle.table.specs.Moves.{over}
use Rattle.neighbourhood.specs.Answers.{answer_words}
use Rattle.metres.specs.declared.Placing.{Placing}
use Rattle.layout.specs.Widths.{move_width}

-- The words of the move that an event makes: entity, grid, x, y, z.
abbrev pub move_words : Placing → List ℕ
move_words e = e.entity ∷ answer_words (stored e.cell)

-- They are put at a place of a batch; or refused by 1, the words as they were, where the batch ends before.
unfoldable pub moved : List ℕ → ℕ → Placing → Refused × List ℕ
moved s at e = cond (leb (at + move_width) (length s)) (none, over s at (move_words e)) (too_short, s)

-- The move that an event makes: its entity goes to its cell.
abbrev pub move_of : Placing → ℕ × Cell
move_of e = (e.entity, stored e.cell)
