-- What R-4 says of an event: whose it is, and that its cell is in the scope's range.
use Rattle.std.specs.Prelude.{◌≡◌, ℕ, Bool, true, false, cond, ◌&&◌, T, ◌≢◌, Float, Option, None, Some}
use Rattle.std.proofs.Math.Path.{refl, subst}
use Rattle.std.proofs.Common.{arith}
use Rattle.std.specs.Float.{binary64}
use Rattle.std.specs.Float.Ieee.{fits}
use Rattle.component.specs.Coord.{axis_in}
use Rattle.component.specs.Laws.Tests.{both}
use Rattle.refusal.specs.Forms.{Refused as Fault}
use Rattle.metres.specs.Place.{frame_ok, margin_ok, place_of, axis_ok, axes_ok, cell_of, spot_of}
use Rattle.metres.specs.Answer.{frame_fault, place_fault, event_at, placed_at, made, answer}
use Rattle.metres.specs.Numbers.{margin_of, Sound}
use Rattle.metres.proofs.Laws.Answer.{frame-edge, axis-near, x-ok, y-ok, z-ok}
use Rattle.metres.proofs.Theorems.Cells.{cell-in-range}
use Rattle.metres.specs.declared.Frame.{Frame}
use Rattle.metres.specs.declared.Report.{Report}
use Rattle.metres.specs.declared.Report.TheVariants.{Fix, Reckoned, Nothing}
use Rattle.metres.specs.declared.Placing.{Placing}
use Rattle.metres.specs.Answer.{Event, NoEvent, Refused}

-- A frame whose edge is a 64-bit float, as every `f64` is.
module _ (f : Frame) (t : T (fits binary64 f.edge)) (entity grid : ℕ) where
  axis-in : (v : frame_ok f ≡ true) (x o : Float) → axis_ok x o ≡ true → axis_in (cell_of (place_of x o) f.edge) ≡ true
  axis-in v x o h = cell-in-range (place_of x o) f.edge (record { fits = t; named = frame-edge f v }) (axis-near x o h)

  at-sound : (v : frame_ok f ≡ true) (x y z : Float) (margin : Option Float) → axes_ok f x y z ≡ true → Sound entity grid margin (event_at f x y z margin entity grid)
  unfolding event_at spot_of
  at-sound v x y z margin h =
      let ix = axis-in v x f.x (x-ok f x y z h) in
      let iy = axis-in v y f.y (y-ok f x y z h) in
      let iz = axis-in v z f.z (z-ok f x y z h) in
      record { named = refl; there = refl; carried = refl; within = λ i. ix i && (iy i && iz i) }

  no-event : (r : Fault) (e : Placing) → Refused r ≢ Event e
  no-event r e q = let z : ◌≡◌ {A = ℕ} 0 1 = cc in no z
    where
      no : ◌≡◌ {A = ℕ} 0 1 → ⊥
      no z = omega arith

  none-event : (e : Placing) → NoEvent ≢ Event e
  none-event e q = let z : ◌≡◌ {A = ℕ} 0 1 = cc in no z
    where
      no : ◌≡◌ {A = ℕ} 0 1 → ⊥
      no z = omega arith

  placed-sound : (v : frame_ok f ≡ true) (x y z : Float) (margin : Option Float) (e : Placing) → placed_at f x y z margin entity grid ≡ Event e → Sound entity grid margin e
  unfolding placed_at
  placed-sound v x y z margin e = go (axes_ok f x y z && margin_ok margin) refl
    where
      go : (b : Bool) → (axes_ok f x y z && margin_ok margin) ≡ b → cond b (Event (event_at f x y z margin entity grid)) (Refused (place_fault f x y z)) ≡ Event e → Sound entity grid margin e
      go true h q = let same : event_at f x y z margin entity grid ≡ e = cc in subst (Sound entity grid margin) same (at-sound v x y z margin (both (axes_ok f x y z) (margin_ok margin) h).0)
      go false h q = absurd (no-event (place_fault f x y z) e q)

  made-sound : (v : frame_ok f ≡ true) (r : Report) (e : Placing) → made f r entity grid ≡ Event e → Sound entity grid (margin_of r) e
  unfolding made
  made-sound v (Fix x y z) e q = placed-sound v x y z None e q
  made-sound v (Reckoned x y z err) e q = placed-sound v x y z (Some err) e q
  made-sound v Nothing e q = absurd (none-event e q)

  pub event-sound : (r : Report) (e : Placing) → answer f r entity grid ≡ Event e → Sound entity grid (margin_of r) e
  unfolding answer
  event-sound r e = go (frame_ok f) refl
    where
      go : (b : Bool) → frame_ok f ≡ b → cond b (made f r entity grid) (Refused (frame_fault f)) ≡ Event e → Sound entity grid (margin_of r) e
      go true v q = made-sound v r e q
      go false v q = absurd (no-event (frame_fault f) e q)
