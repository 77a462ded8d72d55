-- The number of an update: it stays when its place is told.
use Prim.Native.Nat.{ℕ}
use native.Mathlib.Omega.{arith}
use Rattle.std.specs.Prelude.{◌≡◌, Bool, List, [], ◌∷◌}
use Rattle.std.proofs.Math.Path.{refl, sym, ap}
use Rattle.std.proofs.Common.{◌∙◌, eqb-true}
use Rattle.std.proofs.Math.Bool.{true, false, cond}
use Rattle.std.proofs.Math.Dec.{eqb}
use Rattle.model.specs.Cells.{Cell}
use Rattle.model.specs.Occupancy.{Occupancy, Event, Batch, start_batch, play, events}
use Rattle.model.specs.Update.{State, too_many_events, out_of_range, few_ids, too_many_entities, too_many_cells, touch_of, broken_by, refusal_by, update_by, refusal, accepted, update}
use Rattle.model.proofs.Laws.Tests.{T_true}
use Rattle.batch.specs.Places.{batch_refusal}
use Rattle.batch.proofs.Laws.Places.{placed-number}

-- A number that is none of the first five.
pub record Late (n : ℕ) : Type 0 where
  pub one : eqb n 1 ≡ false
  pub two : eqb n 2 ≡ false
  pub three : eqb n 3 ≡ false
  pub four : eqb n 4 ≡ false
  pub five : eqb n 5 ≡ false

-- The events give 0, 6 or 7.
pub broken-late : (touch : Cell → Cell → Bool) (o : Occupancy) (es : List Event) → Late (broken_by touch o es)
broken-late touch o [] = record { one = refl; two = refl; three = refl; four = refl; five = refl }
broken-late touch o (e ∷ es) = go (too_many_entities (play touch o e)) (too_many_cells (play touch o e)) (broken-late touch (play touch o e) es)
  where
    go : (a b : Bool) → Late (broken_by touch (play touch o e) es) → Late (cond a 6 (cond b 7 (broken_by touch (play touch o e) es)))
    go true b h = record { one = refl; two = refl; three = refl; four = refl; five = refl }
    go false true h = record { one = refl; two = refl; three = refl; four = refl; five = refl }
    go false false h = h

module _ (s : State) (b : Batch) where
  -- The number of the model's update is that of its refusal.
  pub update-number : (update s b).0 ≡ refusal s b
  unfolding update_by
  update-number = go (eqb (refusal s b) 0) refl
    where
      go : (t : Bool) → eqb (refusal s b) 0 ≡ t → (cond {A = ℕ × State} t (0, accepted s b) (refusal s b, s)).0 ≡ refusal s b
      go true e = sym (eqb-true (refusal s b) 0 e)
      go false e = refl

  -- 4 is given for a coordinate out of range only.
  refusal-four : refusal s b ≡ 4 → out_of_range b ≡ true
  unfolding refusal_by
  refusal-four = go (too_many_events b) (out_of_range b) (few_ids s.groups.next) (broken_by (touch_of s) (start_batch s.occupancy) (events b)) (broken-late (touch_of s) (start_batch s.occupancy) (events b))
    where
      go : (x y z : Bool) (n : ℕ) → Late n → cond x 3 (cond y 4 (cond z 5 n)) ≡ 4 → y ≡ true
      go x true z n h e = refl
      go true false z n h e = absurd (omega arith)
      go false false true n h e = absurd (omega arith)
      go false false false n h e = absurd (T_true {b = false} (sym h.four ∙ ap (λ (k : ℕ). eqb k 4) e))

  -- 2 is not given.
  refusal-not-two : refusal s b ≡ 2 → ⊥
  unfolding refusal_by
  refusal-not-two = go (too_many_events b) (out_of_range b) (few_ids s.groups.next) (broken_by (touch_of s) (start_batch s.occupancy) (events b)) (broken-late (touch_of s) (start_batch s.occupancy) (events b))
    where
      go : (x y z : Bool) (n : ℕ) → Late n → cond x 3 (cond y 4 (cond z 5 n)) ≡ 2 → ⊥
      go true y z n h e = omega arith
      go false true z n h e = omega arith
      go false false true n h e = omega arith
      go false false false n h e = T_true {b = false} (sym h.two ∙ ap (λ (k : ℕ). eqb k 2) e)

  pub update-not-two : (update s b).0 ≡ 2 → ⊥
  update-not-two e = refusal-not-two (sym update-number ∙ e)

  pub update-four : (update s b).0 ≡ 4 → out_of_range b ≡ true
  update-four e = refusal-four (sym update-number ∙ e)

  -- The number with its place is the number.
  pub number-stays : (batch_refusal b (update s b).0).number ≡ (update s b).0
  number-stays = placed-number b (update s b).0 update-four
