-- Each number of `update` is given exactly when document 01's table says so, in its order.
use Rattle.std.specs.Prelude.{ℕ, ◌≡◌, Bool, not}
use Rattle.std.proofs.Math.Path.{refl}
use Rattle.std.proofs.Common.{sym, ◌∙◌, subst}
use Rattle.std.proofs.Math.Bool.{true, false, cond}
use mathlib.Core.List.{List}
use Rattle.refusal.specs.Forms.{Refused}
use Rattle.refusal.specs.Forms as form
use Rattle.model.specs.Occupancy.{Batch, start_batch, events}
use Rattle.model.specs.Update.{State, too_many_events, out_of_range, few_ids, touch_of, broken_by, refusal_by, refusal, update}
use Rattle.layout.specs.State.{decode}
use Rattle.layout.specs.Points.{first_broken, consistent_words}
use Rattle.batch.specs.Words.{batch_of, too_short}
use Rattle.updating.specs.Done.{done}
use Rattle.yard.specs.Numbers.{number_by, Exactly}
use Rattle.yard.specs.Update.{placed_in, update_of}
use Rattle.yard.specs.Laws.Numbers.{Late, broken-late, update-number, number-stays}

-- The tests in order decide the number.
exact : (short good many out few : Bool) (broken : ℕ) → Late broken → Exactly (number_by short good many out few broken) short good many out few broken
exact true good many out few broken h = record { one = refl; two = refl; three = refl; four = refl; five = refl; six = refl; seven = refl; done = refl }
exact false false many out few broken h = record { one = refl; two = refl; three = refl; four = refl; five = refl; six = refl; seven = refl; done = refl }
exact false true true out few broken h = record { one = refl; two = refl; three = refl; four = refl; five = refl; six = refl; seven = refl; done = refl }
exact false true false true few broken h = record { one = refl; two = refl; three = refl; four = refl; five = refl; six = refl; seven = refl; done = refl }
exact false true false false true broken h = record { one = refl; two = refl; three = refl; four = refl; five = refl; six = refl; seven = refl; done = refl }
exact false true false false false broken h = record { one = h.one; two = h.two; three = h.three; four = h.four; five = h.five; six = refl; seven = refl; done = refl }

module _ (w b : List ℕ) (removals moves : ℕ) where
  -- The state that the words stand for, and the batch.
  abbrev pub given : State
  given = decode w

  abbrev pub asked : Batch
  asked = batch_of b removals moves

  -- The number of the first event that breaks 6 or 7, 0 where none does.
  abbrev pub broken : ℕ
  broken = broken_by (touch_of given) (start_batch given.occupancy) (events asked)

  number-by : (update_of w b removals moves).0.number ≡ number_by (too_short w b removals moves) (consistent_words w) (too_many_events asked) (out_of_range asked) (few_ids given.groups.next) broken
  unfolding update_of done refusal_by
  number-by = go (too_short w b removals moves) (consistent_words w)
    where
      go : (t g : Bool) → (cond {A = Refused × List ℕ} t (form.too_short, w) (cond {A = Refused × List ℕ} (not g) (form.broken (first_broken w), w) (placed_in asked (done w (update given asked))))).0.number
          ≡ cond t 1 (cond (not g) 2 (refusal given asked))
      go true g = refl
      go false false = refl
      go false true = number-stays given asked ∙ update-number given asked

  -- The number of an update.
  pub update-exactly : Exactly (update_of w b removals moves).0.number (too_short w b removals moves) (consistent_words w) (too_many_events asked) (out_of_range asked) (few_ids given.groups.next) broken
  update-exactly =
      subst (λ (n : ℕ). Exactly n (too_short w b removals moves) (consistent_words w) (too_many_events asked) (out_of_range asked) (few_ids given.groups.next) broken) (sym number-by)
      (exact (too_short w b removals moves) (consistent_words w) (too_many_events asked) (out_of_range asked) (few_ids given.groups.next) broken (broken-late (touch_of given) (start_batch given.occupancy) (events asked)))
