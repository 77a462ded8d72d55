-- What holds on the way to an answer.
use Rattle.std.specs.Prelude.{◌≡◌, ℕ, ◌%◌, Bool, true, false, cond, ◌&&◌, T, ◌==◌, unsigned_abs, Float, Option}
use Rattle.std.proofs.Common.{sym, ◌∙◌}
use Rattle.std.proofs.Math.Path.{ap}
use Rattle.std.proofs.lemmas.Bool.{false≢true}
use Rattle.std.specs.Float.{nan, inf, fin}
use Rattle.std.specs.Float.Ieee.Scale.{finite}
use Rattle.component.specs.Coord.{first_bad}
use Rattle.component.specs.Laws.Tests.{both}
use Rattle.refusal.specs.Forms.{Refused as Fault}
use Rattle.refusal.specs.Forms.{placed}
use Rattle.exact.specs.Units.{metre, exact}
use Rattle.exact.specs.Laws.Tests.{true-T}
use Rattle.metres.specs.Place.{near, edge_ok, origin_ok, frame_ok, margin_ok, place_of, axis_ok, axes_ok, spot_of}
use Rattle.metres.specs.Answer.{frame_fault, place_fault, placing, event_at, placed_at, made, answer}
use Rattle.metres.specs.declared.Frame.{Frame}
use Rattle.metres.specs.declared.Spot.{Spot}
use Rattle.metres.specs.declared.Report.{Report}
use Rattle.metres.specs.declared.Placing.{Placing}
use Rattle.metres.specs.Answer.{Answer}
use Rattle.metres.specs.Answer.{Event, Refused}

-- One side of a choice, by its test.
pub chosen : {A : Type 0} (t : Bool) (a b : A) → t ≡ true → a ≡ cond t a b
chosen t a b h = ap (λ (u : Bool). cond u a b) (sym h)

pub other : {A : Type 0} (t : Bool) (a b : A) → t ≡ false → b ≡ cond t a b
other t a b h = ap (λ (u : Bool). cond u a b) (sym h)

near-finite : (x : Float) → near x ≡ true → T (finite x)
unfolding near
near-finite nan h = absurd (false≢true h)
near-finite (inf s) h = absurd (false≢true h)
near-finite (fin s m e) h = tt

origin-finite : (x : Float) → origin_ok x ≡ true → T (finite x)
unfolding origin_ok
origin-finite x h = near-finite x (both (near x) (unsigned_abs (exact x) % metre == 0) h).0

-- ---- a frame that is valid
module _ (f : Frame) (h : frame_ok f ≡ true) where
  pub frame-edge : edge_ok f.edge ≡ true
  unfolding frame_ok
  frame-edge = (both (edge_ok f.edge) (origin_ok f.x && (origin_ok f.y && origin_ok f.z)) h).0

  origins : (origin_ok f.x && (origin_ok f.y && origin_ok f.z)) ≡ true
  unfolding frame_ok
  origins = (both (edge_ok f.edge) (origin_ok f.x && (origin_ok f.y && origin_ok f.z)) h).1

  pub frame-x : T (finite f.x)
  frame-x = origin-finite f.x (both (origin_ok f.x) (origin_ok f.y && origin_ok f.z) origins).0

  pub frame-y : T (finite f.y)
  frame-y = origin-finite f.y (both (origin_ok f.y) (origin_ok f.z) (both (origin_ok f.x) (origin_ok f.y && origin_ok f.z) origins).1).0

  pub frame-z : T (finite f.z)
  frame-z = origin-finite f.z (both (origin_ok f.y) (origin_ok f.z) (both (origin_ok f.x) (origin_ok f.y && origin_ok f.z) origins).1).1

-- ---- a coordinate
pub axis-off : (x o : Float) → finite x ≡ false → false ≡ axis_ok x o
unfolding axis_ok
axis-off x o h = sym (ap (λ (b : Bool). b && near (place_of x o)) h)

pub axis-on : (x o : Float) → finite x ≡ true → near (place_of x o) ≡ axis_ok x o
unfolding axis_ok
axis-on x o h = sym (ap (λ (b : Bool). b && near (place_of x o)) h)

pub axis-finite : (x o : Float) → axis_ok x o ≡ true → T (finite x)
unfolding axis_ok
axis-finite x o h = true-T (both (finite x) (near (place_of x o)) h).0

pub axis-near : (x o : Float) → axis_ok x o ≡ true → near (place_of x o) ≡ true
unfolding axis_ok
axis-near x o h = (both (finite x) (near (place_of x o)) h).1

-- ---- three coordinates that pass
module _ (f : Frame) (x y z : Float) (h : axes_ok f x y z ≡ true) where
  pub x-ok : axis_ok x f.x ≡ true
  x-ok = (both (axis_ok x f.x) (axis_ok y f.y && axis_ok z f.z) h).0

  rest_ok : (axis_ok y f.y && axis_ok z f.z) ≡ true
  rest_ok = (both (axis_ok x f.x) (axis_ok y f.y && axis_ok z f.z) h).1

  pub y-ok : axis_ok y f.y ≡ true
  y-ok = (both (axis_ok y f.y) (axis_ok z f.z) rest_ok).0

  pub z-ok : axis_ok z f.z ≡ true
  z-ok = (both (axis_ok y f.y) (axis_ok z f.z) rest_ok).1

-- ---- where the fault is
pub frame-by-edge : (f : Frame) → edge_ok f.edge ≡ false → placed 11 0 0 ≡ frame_fault f
unfolding frame_fault
frame-by-edge f h = other (edge_ok f.edge) _ _ h

pub frame-by-origin : (f : Frame) (n : ℕ) → edge_ok f.edge ≡ true → n ≡ first_bad (origin_ok f.x) (origin_ok f.y) → placed 11 1 n ≡ frame_fault f
unfolding frame_fault
frame-by-origin f n h e = ap (placed 11 1) e ∙ chosen (edge_ok f.edge) _ _ h

module _ (f : Frame) (x y z : Float) where
  pub place-by-error : axes_ok f x y z ≡ true → placed 10 1 0 ≡ place_fault f x y z
  unfolding place_fault
  place-by-error h = chosen (axes_ok f x y z) _ _ h

  pub place-by-axis : (n : ℕ) → axes_ok f x y z ≡ false → n ≡ first_bad (axis_ok x f.x) (axis_ok y f.y) → placed 10 0 n ≡ place_fault f x y z
  unfolding place_fault
  place-by-axis n h e = ap (placed 10 0) e ∙ other (axes_ok f x y z) _ _ h

-- ---- an event, or 10
module _ (f : Frame) (x y z : Float) (margin : Option Float) (entity grid : ℕ) where
  pub event-is : (a b c : Spot) → a ≡ spot_of (place_of x f.x) f.edge → b ≡ spot_of (place_of y f.y) f.edge → c ≡ spot_of (place_of z f.z) f.edge
      → placing a b c margin entity grid ≡ event_at f x y z margin entity grid
  unfolding event_at
  event-is a b c p q r = λ i. placing (p i) (q i) (r i) margin entity grid

  pub placed_off : (r : Fault) → (axes_ok f x y z && margin_ok margin) ≡ false → r ≡ place_fault f x y z → Refused r ≡ placed_at f x y z margin entity grid
  unfolding placed_at
  placed_off r h e = ap Refused e ∙ other (axes_ok f x y z && margin_ok margin) _ _ h

  pub placed_on : (e : Placing) → (axes_ok f x y z && margin_ok margin) ≡ true → e ≡ event_at f x y z margin entity grid → Event e ≡ placed_at f x y z margin entity grid
  unfolding placed_at
  placed_on e h p = ap Event p ∙ chosen (axes_ok f x y z && margin_ok margin) _ _ h

-- ---- a report
module _ (f : Frame) (r : Report) (entity grid : ℕ) where
  pub answer-11 : (a : Fault) → frame_ok f ≡ false → a ≡ frame_fault f → Refused a ≡ answer f r entity grid
  unfolding answer
  answer-11 a h e = ap Refused e ∙ other (frame_ok f) _ _ h

  pub answer-made : (a : Answer) → frame_ok f ≡ true → a ≡ made f r entity grid → a ≡ answer f r entity grid
  unfolding answer
  answer-made a h e = e ∙ chosen (frame_ok f) _ _ h
