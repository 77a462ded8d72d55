-- The number of each answer, and which way a report takes.
use Rattle.std.specs.Prelude.{◌≡◌, ℕ, Bool, true, false, cond, ◌&&◌, Float, Option, None, Some}
use Rattle.std.proofs.Math.Path.{refl, sym, ap}
use Rattle.std.proofs.Common.{◌∙◌}
use Rattle.std.proofs.Math.Bool.{and-true}
use Rattle.component.specs.Coord.{first_bad}
use Rattle.refusal.specs.Forms.{placed}
use Rattle.metres.specs.Place.{edge_ok, origin_ok, frame_ok, margin_ok, axis_ok, axes_ok}
use Rattle.metres.specs.Answer.{frame_fault, place_fault, report_ok, event_at, placed_at, made, answer}
use Rattle.metres.specs.Numbers.{number_of, report_at}
use Rattle.metres.proofs.Laws.Answer.{chosen, other}
use Rattle.metres.specs.declared.Frame.{Frame}
use Rattle.metres.specs.declared.Report.{Report}
use Rattle.metres.specs.declared.Report.TheVariants.{Fix, Reckoned, Nothing}
use Rattle.metres.specs.Answer.{Event, Refused}

frame-number : (f : Frame) → (frame_fault f).number ≡ 11
unfolding frame_fault
frame-number f = go (edge_ok f.edge)
  where
    go : (t : Bool) → (cond t (placed 11 1 (first_bad (origin_ok f.x) (origin_ok f.y))) (placed 11 0 0)).number ≡ 11
    go true = refl
    go false = refl

place-number : (f : Frame) (x y z : Float) → (place_fault f x y z).number ≡ 10
unfolding place_fault
place-number f x y z = go (axes_ok f x y z)
  where
    go : (t : Bool) → (cond t (placed 10 1 0) (placed 10 0 (first_bad (axis_ok x f.x) (axis_ok y f.y)))).number ≡ 10
    go true = refl
    go false = refl

module _ (f : Frame) (entity grid : ℕ) where
  placed-number : (x y z : Float) (margin : Option Float) → number_of (placed_at f x y z margin entity grid) ≡ cond (axes_ok f x y z && margin_ok margin) 0 10
  unfolding placed_at
  placed-number x y z margin = go (axes_ok f x y z && margin_ok margin)
    where
      go : (t : Bool) → number_of (cond t (Event (event_at f x y z margin entity grid)) (Refused (place_fault f x y z))) ≡ cond t 0 10
      go true = refl
      go false = place-number f x y z

  made-number : (r : Report) → number_of (made f r entity grid) ≡ cond (report_ok f r) 0 10
  unfolding made
  made-number (Fix x y z) = placed-number x y z None ∙ ap (λ (t : Bool). cond t 0 10) (and-true (axes_ok f x y z))
  made-number (Reckoned x y z err) = placed-number x y z (Some err)
  made-number Nothing = refl

  pub answer-number : (r : Report) → number_of (answer f r entity grid) ≡ cond (frame_ok f) (cond (report_ok f r) 0 10) 11
  unfolding answer
  answer-number r = go (frame_ok f)
    where
      go : (t : Bool) → number_of (cond t (made f r entity grid) (Refused (frame_fault f))) ≡ cond t (cond (report_ok f r) 0 10) 11
      go true = made-number r
      go false = frame-number f

  pub frame_off : (r : Report) → frame_ok f ≡ false → answer f r entity grid ≡ Refused (frame_fault f)
  unfolding answer
  frame_off r h = sym (other (frame_ok f) _ _ h)

  module _ (v : frame_ok f ≡ true) where
    pub frame_on : (r : Report) → answer f r entity grid ≡ made f r entity grid
    unfolding answer
    frame_on r = sym (chosen (frame_ok f) _ _ v)

    module _ (x y z : Float) (margin : Option Float) where
      pub made_at : answer f (report_at x y z margin) entity grid ≡ placed_at f x y z margin entity grid
      unfolding made
      made_at = frame_on (report_at x y z margin) ∙ go margin
        where
          go : (m : Option Float) → made f (report_at x y z m) entity grid ≡ placed_at f x y z m entity grid
          go None = refl
          go (Some err) = refl

      pub place-off : (axes_ok f x y z && margin_ok margin) ≡ false → answer f (report_at x y z margin) entity grid ≡ Refused (place_fault f x y z)
      unfolding placed_at
      place-off h = made_at ∙ sym (other (axes_ok f x y z && margin_ok margin) _ _ h)
