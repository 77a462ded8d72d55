-- What the lists speak of.
use Rattle.std.specs.Prelude.{ℕ, not, List, [], eqb, length}
use Rattle.model.specs.Lists.{keep, keys}
use Rattle.model.specs.Questions.{Listed}
use Rattle.model.specs.Cells.{Cell, same}
use Rattle.model.specs.Update.{State}

-- A state with a table of occupied cells and nothing else, not even a kind of touching.
abbrev pub having : List (Cell × ℕ) → State
having t =
    record {
      kind = 0;
      occupancy = record { entities = []; masks = t; newly_occupied = []; newly_emptied = [] };
      groups = record { ids = []; next = 0 };
      records = [];
    }

-- The entities that stand in a cell.
abbrev pub standing_in : List (ℕ × Cell) → Cell → List ℕ
standing_in t c = keys (keep (λ (p : ℕ × Cell). same c p.1) t)

-- A list that is found if it holds any.
abbrev pub any_of : List ℕ → Listed ℕ
any_of l = record { found = not (eqb (length l) 0); list = l }
