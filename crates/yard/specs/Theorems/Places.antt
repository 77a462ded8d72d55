-- What a refusal of `update` tells beside its number: with 2 the first broken point, with 4 the first move that goes out of range and its
-- first axis that does, with every other number nothing.
use Prim.Native.Nat.{ℕ}
use Rattle.std.proofs.Common.{arith, sym, ◌∙◌, eqb-true}
use Rattle.std.specs.Prelude.{◌≡◌, refl, Bool, true, false, cond, not, List, eqb}
use Rattle.std.proofs.lemmas.Bool.{eqb-false}
use Rattle.refusal.specs.Forms.{Refused}
use Rattle.refusal.specs.Forms as form
use Rattle.model.specs.Cells.{Cell}
use Rattle.model.specs.Occupancy.{Batch}
use Rattle.model.specs.Update.{update}
use Rattle.layout.specs.State.{decode}
use Rattle.layout.specs.Points.{first_broken, consistent_words}
use Rattle.batch.specs.Words.{batch_of, too_short}
use Rattle.batch.specs.Places.{first_out, batch_refusal}
use Rattle.batch.proofs.Theorems.FirstOut.{BadMove, first-out-bad}
use Rattle.updating.specs.Done.{done}
use Rattle.yard.specs.Update.{placed_in, update_of}
use Rattle.yard.specs.Laws.Numbers.{update-not-two, number-stays}

-- A refusal tells its place: of a state the broken point, of moves the bad one.
pub record Tells (r : Refused) (point : ℕ) (moves : List (ℕ × Cell)) : Type 0 where
  pub two : r.number ≡ 2 → (r.at ≡ point) × (r.axis ≡ 0)
  pub four : r.number ≡ 4 → BadMove r.at r.axis moves
  pub others : (r.number ≡ 2 → ⊥) → (r.number ≡ 4 → ⊥) → (r.at ≡ 0) × (r.axis ≡ 0)

-- One with no place, where its number has none.
plain-tells : (n point : ℕ) (moves : List (ℕ × Cell)) → (n ≡ 2 → ⊥) → (n ≡ 4 → ⊥) → Tells (form.plain n) point moves
plain-tells n point moves f g = record { two = λ e. absurd (f e); four = λ e. absurd (g e); others = λ _ _. (refl, refl) }

-- One of a batch, for a number other than 2 that is given as 4 for a bad move only.
batch-tells : (b : Batch) (n point : ℕ) → (n ≡ 2 → ⊥) → (batch_refusal b n).number ≡ n → Tells (batch_refusal b n) point b.moves
unfolding batch_refusal
batch-tells b n point f = go (eqb n 4) refl
  where
    go : (t : Bool) → eqb n 4 ≡ t → (cond t (first_out 0 b.moves) (form.plain n)).number ≡ n → Tells (cond t (first_out 0 b.moves) (form.plain n)) point b.moves
    go false e k = plain-tells n point b.moves f (eqb-false n 4 e)
    go true e k =
        let g : (first_out 0 b.moves).number ≡ 4 = k ∙ eqb-true n 4 e in
        record { two = λ h. absurd (f (sym k ∙ h)); four = λ h. first-out-bad b.moves g; others = λ _ h. absurd (h g) }

module _ (w b : List ℕ) (removals moves : ℕ) where
  -- The place that an update tells.
  pub update-tells : Tells (update_of w b removals moves).0 (first_broken w) (batch_of b removals moves).moves
  unfolding update_of done
  update-tells = go (too_short w b removals moves) (consistent_words w)
    where
      n : ℕ
      n = (update (decode w) (batch_of b removals moves)).0

      go : (s c : Bool) → Tells (cond {A = Refused × List ℕ} s (form.too_short, w) (cond {A = Refused × List ℕ} (not c) (form.broken (first_broken w), w) (placed_in (batch_of b removals moves) (done w (update (decode w) (batch_of b removals moves)))))).0 (first_broken w) (batch_of b removals moves).moves
      go true c = plain-tells 1 (first_broken w) (batch_of b removals moves).moves (λ e. omega arith) (λ e. omega arith)
      go false false = record { two = λ _. (refl, refl); four = λ e. absurd (omega arith); others = λ f _. absurd (f refl) }
      go false true = batch-tells (batch_of b removals moves) n (first_broken w) (update-not-two (decode w) (batch_of b removals moves)) (number-stays (decode w) (batch_of b removals moves))
