-- The forms of a refusal: for each case its number, and where it tells that the fault is.
use Rattle.std.specs.Prelude.{ℕ, Result, Ok, Err}
use Rattle.component.specs.Coord.{axis_number}
use Rattle.refusal.specs.declared.Point.{Point}
use Rattle.refusal.specs.declared.Refusal.{Refusal}

-- A refusal as it is told: its number, 0 where nothing is refused, the thing that is meant, and its axis.
pub record Refused : Type 0 where
  pub number : ℕ
  pub at : ℕ
  pub axis : ℕ

-- One that tells the thing at a place, and its axis.
abbrev pub placed : ℕ → ℕ → ℕ → Refused
placed number at axis = record { number = number; at = at; axis = axis }

-- One that tells no place.
abbrev pub plain : ℕ → Refused
plain number = placed number 0 0

-- None: the call is done.
abbrev pub none : Refused
none = plain 0

-- 1: words are too few.
abbrev pub too_short : Refused
too_short = plain 1

-- 2: the state is not consistent; told is its first broken point.
abbrev pub broken : ℕ → Refused
broken point = placed 2 point 0

-- 4: a coordinate is out of range; told is the position of its move or cell, and the axis.
abbrev pub out_of_range : ℕ → ℕ → Refused
out_of_range at axis = placed 4 at axis

-- 5: too few ids are left.
abbrev pub few_ids : Refused
few_ids = plain 5

-- 10: the values of a report; told is the thing, 0 the coordinates and 1 the error, and the axis.
abbrev pub bad_report : ℕ → ℕ → Refused
bad_report at axis = placed 10 at axis

-- 11: a frame; told is the thing, 0 the edge and 1 the origin, and the axis.
abbrev pub bad_frame : ℕ → ℕ → Refused
bad_frame at axis = placed 11 at axis

-- 12: no path leads there.
abbrev pub no_path : Refused
no_path = plain 12

-- 13: what touching means is none of the three kinds.
abbrev pub unknown_kind : Refused
unknown_kind = plain 13

-- The number of a point of consistency.
abbrev pub point_number : Point → ℕ
point_number Point.Entities = 1
point_number Point.Cells = 2
point_number Point.Masks = 3
point_number Point.Ids = 4
point_number Point.Records = 5
point_number Point.NextId = 6
point_number Point.Coordinates = 7
point_number Point.Nets = 8
point_number Point.Kind = 9

-- The form of each case.
abbrev pub form : Refusal → Refused
form Refusal.TooShort = too_short
form (Refusal.Broken p) = broken (point_number p)
form Refusal.TooManyEvents = plain 3
form (Refusal.OutOfRange at axis) = out_of_range at (axis_number axis)
form Refusal.FewIds = few_ids
form Refusal.TooManyEntities = plain 6
form Refusal.TooManyCells = plain 7
form (Refusal.TooLong k) = placed 8 k 0
form (Refusal.BadCoordinate axis) = bad_report 0 (axis_number axis)
form Refusal.BadError = bad_report 1 0
form Refusal.BadEdge = bad_frame 0 0
form (Refusal.BadOrigin axis) = bad_frame 1 (axis_number axis)
form Refusal.NoPath = no_path
form Refusal.UnknownKind = unknown_kind

-- What a call that gives no more than whether it is refused tells.
abbrev pub outcome : Result (Unit {0}) Refusal → Refused
outcome (Ok _) = none
outcome (Err r) = form r
