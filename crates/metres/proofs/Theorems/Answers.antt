-- What R-4 says of refusals: which number is given exactly when, and where the fault is; and that no other answer is allowed.
use Rattle.std.specs.Prelude.{◌≡◌, ℕ, Bool, true, false, cond, ◌&&◌, refl, Float, Option, None, Some, Result, Ok, Err}
use Rattle.std.proofs.Common.{sym, ap, ◌∙◌, subst}
use Rattle.component.specs.Coord.{first_bad}
use Rattle.refusal.specs.declared.Refusal.{Refusal}
use Rattle.refusal.specs.Forms.{placed}
use Rattle.refusal.proofs.Theorems.{refusal_back, form-back}
use Rattle.metres.specs.Place.{edge_ok, origin_ok, frame_ok, margin_ok, axis_ok, axes_ok}
use Rattle.metres.specs.Answer.{frame_fault, place_fault, report_ok, event_at, placed_at, made, answer, Answer, Event, NoEvent, Refused, answer_told}
use Rattle.metres.specs.Numbers.{number_of, report_at, Exactly}
use Rattle.metres.proofs.Laws.Told.{answer-number, frame_off, frame_on, made_at, place-off}
use Rattle.metres.specs.declared.Frame.{Frame}
use Rattle.metres.specs.declared.Report.{Report}
use Rattle.metres.specs.declared.Report.TheVariants.{Nothing}
use Rattle.metres.specs.declared.Placing.{Placing}

-- The way back from an answer to what gives it.
answer_back : Answer → Result (Option Placing) Refusal
answer_back (Event e) = Ok (Some e)
answer_back NoEvent = Ok None
answer_back (Refused f) = Err (refusal_back f)

answer-back : (a : Result (Option Placing) Refusal) → answer_back (answer_told a) ≡ a
unfolding answer_back
answer-back (Ok (Some e)) = refl
answer-back (Ok None) = refl
answer-back (Err r) = ap Err (form-back r)

-- What gives the same answer is the same.
pub answer-told-one : (a b : Result (Option Placing) Refusal) → answer_told a ≡ answer_told b → a ≡ b
answer-told-one a b e = sym (answer-back a) ∙ (ap answer_back e ∙ answer-back b)

-- Any two answers that the promise of `event_of` allows are equal.
pub one_answer : (f : Frame) (r : Report) (entity grid : ℕ) (a b : Result (Option Placing) Refusal) → answer_told a ≡ answer f r entity grid → answer_told b ≡ answer f r entity grid → a ≡ b
one_answer f r entity grid a b p q = answer-told-one a b (p ∙ sym q)

-- ---- the numbers
module _ (f : Frame) (entity grid : ℕ) where
  pub answer-exactly : (r : Report) → Exactly (number_of (answer f r entity grid)) (frame_ok f) (report_ok f r)
  answer-exactly r = subst (λ (n : ℕ). Exactly n (frame_ok f) (report_ok f r)) (sym (answer-number f entity grid r)) (go (frame_ok f) (report_ok f r))
    where
      go : (s t : Bool) → Exactly (cond s (cond t 0 10) 11) s t
      go false t = record { eleven = refl; ten = refl; done = refl }
      go true false = record { eleven = refl; ten = refl; done = refl }
      go true true = record { eleven = refl; ten = refl; done = refl }

  -- ---- where the fault is: the edge before the origin, x before y before z, and 11 before all of the report
  pub eleven-edge : (r : Report) → edge_ok f.edge ≡ false → answer f r entity grid ≡ Refused (placed 11 0 0)
  unfolding frame_ok frame_fault
  eleven-edge r h = frame_off f entity grid r (λ i. h i && (origin_ok f.x && (origin_ok f.y && origin_ok f.z))) ∙ (λ i. Refused (cond (h i) (placed 11 1 (first_bad (origin_ok f.x) (origin_ok f.y))) (placed 11 0 0)))

  pub eleven-x : (r : Report) → edge_ok f.edge ≡ true → origin_ok f.x ≡ false → answer f r entity grid ≡ Refused (placed 11 1 0)
  unfolding frame_ok frame_fault
  eleven-x r h x = frame_off f entity grid r (λ i. h i && (x i && (origin_ok f.y && origin_ok f.z))) ∙ (λ i. Refused (cond (h i) (placed 11 1 (first_bad (x i) (origin_ok f.y))) (placed 11 0 0)))

  pub eleven-y : (r : Report) → edge_ok f.edge ≡ true → origin_ok f.x ≡ true → origin_ok f.y ≡ false → answer f r entity grid ≡ Refused (placed 11 1 1)
  unfolding frame_ok frame_fault
  eleven-y r h x y = frame_off f entity grid r (λ i. h i && (x i && (y i && origin_ok f.z))) ∙ (λ i. Refused (cond (h i) (placed 11 1 (first_bad (x i) (y i))) (placed 11 0 0)))

  pub eleven-z : (r : Report) → edge_ok f.edge ≡ true → origin_ok f.x ≡ true → origin_ok f.y ≡ true → origin_ok f.z ≡ false → answer f r entity grid ≡ Refused (placed 11 1 2)
  unfolding frame_ok frame_fault
  eleven-z r h x y z = frame_off f entity grid r (λ i. h i && (x i && (y i && z i))) ∙ (λ i. Refused (cond (h i) (placed 11 1 (first_bad (x i) (y i))) (placed 11 0 0)))

  -- ---- in a valid frame: the coordinates before the error, x before y before z
  module _ (v : frame_ok f ≡ true) where
    -- Nothing makes no event.
    pub nothing-makes-none : answer f Nothing entity grid ≡ NoEvent
    unfolding made
    nothing-makes-none = frame_on f entity grid v Nothing

    module _ (x y z : Float) (margin : Option Float) where
      pub ten-x : axis_ok x f.x ≡ false → answer f (report_at x y z margin) entity grid ≡ Refused (placed 10 0 0)
      unfolding place_fault
      ten-x h = place-off f entity grid v x y z margin (λ i. (h i && (axis_ok y f.y && axis_ok z f.z)) && margin_ok margin) ∙ (λ i. Refused (cond (h i && (axis_ok y f.y && axis_ok z f.z)) (placed 10 1 0) (placed 10 0 (first_bad (h i) (axis_ok y f.y)))))

      pub ten-y : axis_ok x f.x ≡ true → axis_ok y f.y ≡ false → answer f (report_at x y z margin) entity grid ≡ Refused (placed 10 0 1)
      unfolding place_fault
      ten-y h k = place-off f entity grid v x y z margin (λ i. (h i && (k i && axis_ok z f.z)) && margin_ok margin) ∙ (λ i. Refused (cond (h i && (k i && axis_ok z f.z)) (placed 10 1 0) (placed 10 0 (first_bad (h i) (k i)))))

      pub ten-z : axis_ok x f.x ≡ true → axis_ok y f.y ≡ true → axis_ok z f.z ≡ false → answer f (report_at x y z margin) entity grid ≡ Refused (placed 10 0 2)
      unfolding place_fault
      ten-z h k l = place-off f entity grid v x y z margin (λ i. (h i && (k i && l i)) && margin_ok margin) ∙ (λ i. Refused (cond (h i && (k i && l i)) (placed 10 1 0) (placed 10 0 (first_bad (h i) (k i)))))

      pub ten-error : axes_ok f x y z ≡ true → margin_ok margin ≡ false → answer f (report_at x y z margin) entity grid ≡ Refused (placed 10 1 0)
      unfolding place_fault
      ten-error h k = place-off f entity grid v x y z margin (λ i. h i && k i) ∙ (λ i. Refused (cond (h i) (placed 10 1 0) (placed 10 0 (first_bad (axis_ok x f.x) (axis_ok y f.y)))))

      -- Else there is an event, with the definition's cell and offsets.
      pub makes-event : axes_ok f x y z ≡ true → margin_ok margin ≡ true → answer f (report_at x y z margin) entity grid ≡ Event (event_at f x y z margin entity grid)
      unfolding placed_at
      makes-event h k = made_at f entity grid v x y z margin ∙ (λ i. cond (h i && k i) (Event (event_at f x y z margin entity grid)) (Refused (place_fault f x y z)))
