-- What a call leaves, by its number.
use Rattle.std.specs.Prelude.{ℕ, ◌+◌, ◌*◌, ◌≡◌, Bool, false, cond, not, ◌||◌, eqb, ltb, length}
use Rattle.std.proofs.Common.{arith, sym, ◌∙◌, subst, eqb-true}
use Rattle.std.proofs.Math.Path.{refl, ap}
use Rattle.std.proofs.Math.Bool.{true}
use mathlib.Core.List.{List, ◌++◌}
use Rattle.std.proofs.Math.Dec.{T}
use Rattle.std.proofs.Math.ListN.{drop}
use Rattle.std.proofs.lemmas.Bool.{eqb-false}
use Rattle.refusal.specs.Forms.{Refused}
use Rattle.refusal.specs.Forms as form
use Rattle.model.specs.Update.{State, update}
use Rattle.model.specs.Consistent.{consistent}
use Rattle.model.proofs.Theorems.Kinds.{kind-kept, consistent-update-kind}
use Rattle.layout.specs.Widths.{move_width}
use Rattle.layout.specs.State.{state_len, encode, decode}
use Rattle.layout.specs.Points.{long_enough, first_broken, consistent_words}
use Rattle.layout.proofs.Theorems.DecodeEncode.{decode-longer}
use Rattle.layout.proofs.Theorems.Canonical.{consistent-image, image-consistent}
use Rattle.batch.specs.Words.{batch_of, too_short}
use Rattle.batch.specs.Places.{batch_refusal}
use Rattle.updating.specs.Done.{done}
use Rattle.yard.specs.Update.{update_of}
use Rattle.yard.specs.Laws.Numbers.{number-stays}

-- What a call that is done leaves: the update of the model is done too, and the words begin with the image of the state after it, which is consistent.
pub record Done (w b : List ℕ) (removals moves : ℕ) : Type 0 where
  pub number : (update (decode w) (batch_of b removals moves)).0 ≡ 0
  pub words : (update_of w b removals moves).1 ≡ encode (update (decode w) (batch_of b removals moves)).1 ++ drop state_len w
  pub sound : T (consistent (update (decode w) (batch_of b removals moves)).1)
  pub stands : decode (update_of w b removals moves).1 ≡ (update (decode w) (batch_of b removals moves)).1

long_of : (a b : Bool) → (not a || b) ≡ false → a ≡ true
long_of true b e = refl
long_of false b e = absurd (subst (λ (t : Bool). cond t (Unit {0}) ⊥) e tt)

module _ (w b : List ℕ) (removals moves : ℕ) where
  abbrev after : ℕ × State
  after = update (decode w) (batch_of b removals moves)

  abbrev answer : Bool → Bool → Refused × List ℕ
  answer s c =
      cond s (form.too_short, w)
      (cond (not c) (form.broken (first_broken w), w)
      (batch_refusal (batch_of b removals moves) after.0, cond (eqb after.0 0) (encode after.1 ++ drop state_len w) w))

  -- The number is that of the model's update.
  stays : (batch_refusal (batch_of b removals moves) after.0).number ≡ after.0
  stays = number-stays (decode w) (batch_of b removals moves)

  answer-is : update_of w b removals moves ≡ answer (too_short w b removals moves) (consistent_words w)
  unfolding update_of done
  answer-is = refl

  -- A number that is not 0 leaves the words.
  left : (s c : Bool) → ((answer s c).0.number ≡ 0 → ⊥) → (answer s c).1 ≡ w
  left true c f = refl
  left false false f = refl
  left false true f = go (eqb after.0 0) refl
    where
      go : (t : Bool) → eqb after.0 0 ≡ t → cond t (encode after.1 ++ drop state_len w) w ≡ w
      go true e = absurd (f (stays ∙ eqb-true after.0 0 e))
      go false e = refl

  -- A refusal leaves the words as found.
  pub update-kept : ((update_of w b removals moves).0.number ≡ 0 → ⊥) → (update_of w b removals moves).1 ≡ w
  update-kept f =
      ap (λ (p : Refused × List ℕ). p.1) answer-is
      ∙ left (too_short w b removals moves) (consistent_words w) (λ e. f (ap (λ (p : Refused × List ℕ). p.0.number) answer-is ∙ e))

  -- The number 0.
  zero : (s c : Bool) → (answer s c).0.number ≡ 0 → (s ≡ false) × (c ≡ true) × (after.0 ≡ 0) × ((answer s c).1 ≡ encode after.1 ++ drop state_len w)
  zero true c e = absurd (omega arith)
  zero false false e = absurd (omega arith)
  zero false true e = (refl, refl, sym stays ∙ e, go (eqb after.0 0) refl)
    where
      go : (t : Bool) → eqb after.0 0 ≡ t → cond t (encode after.1 ++ drop state_len w) w ≡ encode after.1 ++ drop state_len w
      go true f = refl
      go false f = absurd (eqb-false after.0 0 f (sym stays ∙ e))

  -- A call on words that are long enough and consistent, and done.
  pub call-done : (update_of w b removals moves).0.number ≡ 0 → Done w b removals moves
  unfolding too_short
  call-done e =
      let z = zero (too_short w b removals moves) (consistent_words w) (sym (ap (λ (p : Refused × List ℕ). p.0.number) answer-is) ∙ e) in
      let l : long_enough w ≡ true = long_of (long_enough w) (ltb (length b) (removals + move_width * moves)) z.0 in
      let c = consistent-image w z.1 l in
      let s : T (consistent after.1) = consistent-update-kind (decode w) (batch_of b removals moves) c.0 z.2 in
      let v : (update_of w b removals moves).1 ≡ encode after.1 ++ drop state_len w = ap (λ (p : Refused × List ℕ). p.1) answer-is ∙ z.3 in
      record { number = z.2; words = v; sound = s; stands = ap decode v ∙ decode-longer after.1 s (drop state_len w) }

  -- Every call on consistent words leaves consistent words.
  pub update-consistent : consistent_words w ≡ true → consistent_words (update_of w b removals moves).1 ≡ true
  update-consistent c = go (eqb (update_of w b removals moves).0.number 0) refl
    where
      go : (t : Bool) → eqb (update_of w b removals moves).0.number 0 ≡ t → consistent_words (update_of w b removals moves).1 ≡ true
      go true e =
          let d = call-done (eqb-true (update_of w b removals moves).0.number 0 e) in
          ap consistent_words d.words ∙ image-consistent after.1 (drop state_len w) d.sound
      go false e = ap consistent_words (update-kept (eqb-false (update_of w b removals moves).0.number 0 e)) ∙ c

  -- No call changes what touching means.
  pub update-kind : (decode (update_of w b removals moves).1).kind ≡ (decode w).kind
  update-kind = go (eqb (update_of w b removals moves).0.number 0) refl
    where
      go : (t : Bool) → eqb (update_of w b removals moves).0.number 0 ≡ t → (decode (update_of w b removals moves).1).kind ≡ (decode w).kind
      go true e =
          let d = call-done (eqb-true (update_of w b removals moves).0.number 0 e) in
          ap (λ (s : State). s.kind) d.stands ∙ kind-kept (decode w) (batch_of b removals moves)
      go false e = ap (λ (v : List ℕ). (decode v).kind) (update-kept (eqb-false (update_of w b removals moves).0.number 0 e))
