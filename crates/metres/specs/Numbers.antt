-- What the theorems speak of: the number of an answer, and what an event holds.
use Rattle.std.specs.Prelude.{◌≡◌, ℕ, Bool, true, not, ◌&&◌, nat_eq, Float, Option, None, Some}
use Rattle.component.specs.Coord.{coord_in_range}
use Rattle.metres.specs.declared.Report.{Report}
use Rattle.metres.specs.declared.Report.TheVariants.{Fix, Reckoned, Nothing}
use Rattle.metres.specs.declared.Placing.{Placing}
use Rattle.metres.specs.Answer.{Answer, Event, NoEvent, Refused}

-- The number that an answer gives back: an event or none is 0, and a refusal its number.
abbrev pub number_of : Answer → ℕ
number_of (Event e) = 0
number_of NoEvent = 0
number_of (Refused r) = r.number

-- The report of three coordinates with a margin.
abbrev pub report_at : Float → Float → Float → Option Float → Report
report_at x y z None = Fix x y z
report_at x y z (Some err) = Reckoned x y z err

-- The margin that a report says.
abbrev pub margin_of : Report → Option Float
margin_of (Fix x y z) = None
margin_of (Reckoned x y z err) = Some err
margin_of Nothing = None

-- 11 is given exactly when the frame is not valid, 10 exactly when it is and the report's values may not be, and else 0.
pub record Exactly (n : ℕ) (frame report : Bool) : Type 0 where
  pub eleven : nat_eq n 11 ≡ not frame
  pub ten : nat_eq n 10 ≡ (frame && not report)
  pub done : nat_eq n 0 ≡ (frame && report)

-- An event has the caller's entity and grid, the error that was reported, and a cell in the scope's range.
pub record Sound (entity grid : ℕ) (margin : Option Float) (e : Placing) : Type 0 where
  pub named : e.entity ≡ entity
  pub there : e.cell.grid ≡ grid
  pub carried : e.margin ≡ margin
  pub within : coord_in_range e.cell.coord ≡ true
