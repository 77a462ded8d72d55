-- What a report makes: 11 first, then no event for nothing, then 10, then the event.
use Rattle.std.specs.Prelude.{ℕ, Bool, true, cond, ◌&&◌, Float, Option, None, Some, Result, Ok, Err}
use Rattle.component.specs.Coord.{first_bad}
use Rattle.refusal.specs.declared.Refusal.{Refusal}
use Rattle.refusal.specs.Forms.{Refused as Fault}
use Rattle.refusal.specs.Forms.{bad_report, bad_frame, form}
use Rattle.metres.specs.Place.{edge_ok, origin_ok, frame_ok, error_ok, margin_ok, place_of, axis_ok, axes_ok, spot_of}
use Rattle.metres.specs.declared.Frame.{Frame}
use Rattle.metres.specs.declared.Spot.{Spot}
use Rattle.metres.specs.declared.Report.{Report}
use Rattle.metres.specs.declared.Report.TheVariants.{Fix, Reckoned, Nothing}
use Rattle.metres.specs.declared.Placing.{Placing}

-- An answer as the theorems have it: an event, none, or a refusal as it is told.
pub data Answer : Type 0 where
  Event : Placing → Answer
  NoEvent : Answer
  Refused : Fault → Answer

-- The answer that is given by an event or a refusal.
abbrev pub placing_told : Result Placing Refusal → Answer
placing_told (Ok e) = Event e
placing_told (Err r) = Refused (form r)

-- The answer that is given by an event, none, or a refusal.
abbrev pub answer_told : Result (Option Placing) Refusal → Answer
answer_told (Ok (Some e)) = Event e
answer_told (Ok None) = NoEvent
answer_told (Err r) = Refused (form r)

-- 11: thing 0 is the edge, tried first, and thing 1 the origin.
unfoldable pub frame_fault : Frame → Fault
frame_fault f = cond (edge_ok f.edge) (bad_frame 1 (first_bad (origin_ok f.x) (origin_ok f.y))) (bad_frame 0 0)

-- 10: thing 0 is the coordinates, tried first, and thing 1 the error.
unfoldable pub place_fault : Frame → Float → Float → Float → Fault
place_fault f x y z = cond (axes_ok f x y z) (bad_report 1 0) (bad_report 0 (first_bad (axis_ok x f.x) (axis_ok y f.y)))

-- The values of a report are ones that may be: 10 is for one whose values are not.
abbrev pub report_ok : Frame → Report → Bool
report_ok f (Fix x y z) = axes_ok f x y z
report_ok f (Reckoned x y z err) = axes_ok f x y z && error_ok err
report_ok f Nothing = true

-- The event of an entity in a grid at three places.
abbrev pub placing : Spot → Spot → Spot → Option Float → ℕ → ℕ → Placing
placing x y z margin entity grid =
    record {
      entity = entity;
      cell = record { grid = grid; coord = record { x = x.cell; y = y.cell; z = z.cell } };
      offsets = record { x = x.offset; y = y.offset; z = z.offset };
      margin = margin;
    }

-- The event of three coordinates.
unfoldable pub event_at : Frame → Float → Float → Float → Option Float → ℕ → ℕ → Placing
event_at f x y z margin entity grid = placing (spot_of (place_of x f.x) f.edge) (spot_of (place_of y f.y) f.edge) (spot_of (place_of z f.z) f.edge) margin entity grid

-- It, or 10.
unfoldable pub placed_at : Frame → Float → Float → Float → Option Float → ℕ → ℕ → Answer
placed_at f x y z margin entity grid = cond (axes_ok f x y z && margin_ok margin) (Event (event_at f x y z margin entity grid)) (Refused (place_fault f x y z))

-- What a report makes in a valid frame.
unfoldable pub made : Frame → Report → ℕ → ℕ → Answer
made f (Fix x y z) entity grid = placed_at f x y z None entity grid
made f (Reckoned x y z err) entity grid = placed_at f x y z (Some err) entity grid
made f Nothing entity grid = NoEvent

-- What a report makes.
unfoldable pub answer : Frame → Report → ℕ → ℕ → Answer
answer f r entity grid = cond (frame_ok f) (made f r entity grid) (Refused (frame_fault f))
