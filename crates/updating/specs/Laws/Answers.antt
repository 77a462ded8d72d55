-- The ways out of an update that was not refused before, and of one that is refused by 3, 4 or 5.
use Prim.Native.Nat.{ℕ}
use Rattle.std.proofs.Common.{arith, ◌∙◌, subst}
use Rattle.std.proofs.Math.Path.{◌≡◌, sym, ap}
use Rattle.std.specs.Prelude.{refl, Bool, true, not, take}
use Rattle.std.proofs.Math.Bool.{false, cond}
use mathlib.Core.List.{List, ◌++◌}
use Rattle.std.proofs.Math.Dec.{eqb}
use Rattle.std.proofs.Math.ListN.{drop}
use borrow.Author.Tests.{ne_eqb}
use Rattle.model.specs.Lists.{all}
use Rattle.model.specs.Cells.{touch_at}
use Rattle.model.specs.Occupancy.{Batch, occupied, start_batch, events, play_batch}
use Rattle.model.specs.Update.{State, too_many_events, out_of_range, few_ids, broken_by, touch_of, refusal_by, update_by, refusal, accepted, update}
use Rattle.layout.specs.State.{state_len, encode, decode, next_id, kind_of}
use Rattle.batch.specs.Words.{moves_in, batch_of, early}
use Rattle.map.specs.declared.Counts.{Counts}
use Rattle.updating.specs.Known.{Known}
use Rattle.batch_events.specs.Events.{in_range}
use Rattle.batch_events.specs.Playing.{Ready}
use Rattle.updating.specs.Steps.{Finishes}
use Rattle.refusal.specs.Forms.{Refused, plain, none}
use Rattle.updating.specs.Done.{done, plainly}

-- The three first tests of a batch, and what follows them.
first_stops : (a b c : Bool) (k m : ℕ) → k ≡ cond a 3 (cond b 4 (cond c 5 0)) → (k ≡ 0 → ⊥) → k ≡ cond a 3 (cond b 4 (cond c 5 m))
first_stops true b c k m e f = e
first_stops false true c k m e f = e
first_stops false false true k m e f = e
first_stops false false false k m e f = absurd (f e)

first_passes : (a b c : Bool) (m : ℕ) → ◌≡◌ {A = ℕ} (cond a 3 (cond b 4 (cond c 5 0))) 0 → (b ≡ false) × (m ≡ cond a 3 (cond b 4 (cond c 5 m)))
first_passes true b c m e = absurd (omega arith)
first_passes false true c m e = absurd (omega arith)
first_passes false false true m e = absurd (omega arith)
first_passes false false false m e = (refl, refl)

not-not : (t : Bool) → not t ≡ false → t ≡ true
not-not true e = refl
not-not false e = sym e

module _ (s : State) (b : Batch) where
  -- An early number is the number of the batch.
  early-refuses : (k : ℕ) → k ≡ early s.groups.next b → (k ≡ 0 → ⊥) → k ≡ refusal s b
  unfolding early refusal_by
  early-refuses k e f =
      first_stops (too_many_events b) (out_of_range b) (few_ids s.groups.next) k (broken_by (touch_of s) (start_batch s.occupancy) (events b)) e f

  -- Without one the events decide.
  early-passes : early s.groups.next b ≡ 0 → broken_by (touch_of s) (start_batch s.occupancy) (events b) ≡ refusal s b
  unfolding early refusal_by
  early-passes e =
      (first_passes (too_many_events b) (out_of_range b) (few_ids s.groups.next) (broken_by (touch_of s) (start_batch s.occupancy) (events b)) e).1

  module _ (w : List ℕ) where
    -- A batch that is refused leaves the words.
    refused : (k : ℕ) → k ≡ refusal s b → (k ≡ 0 → ⊥) → (k, w) ≡ done w (update s b)
    unfolding done update_by
    refused k e f =
        let n : eqb k 0 ≡ false = ne_eqb k 0 f in
        let u : ◌≡◌ {A = ℕ × State} (k, s) (cond (eqb (refusal s b) 0) (0, accepted s b) (refusal s b, s)) =
        (λ i. cond (sym n i) (0, accepted s b) (k, s)) ∙ ap (λ (m : ℕ). cond (eqb m 0) (0, accepted s b) (m, s)) e in
        (λ i. (k, cond (sym n i) (encode s ++ drop state_len w) w))
        ∙ ap (λ (p : ℕ × State). (p.0, cond (eqb p.0 0) (encode p.1 ++ drop state_len w) w)) u

    -- A batch that is accepted leaves the state after it.
    written : 0 ≡ refusal s b → (v : List ℕ) → v ≡ encode (accepted s b) ++ drop state_len w → (0, v) ≡ done w (update s b)
    unfolding done update_by
    written e v q =
        ap (λ (l : List ℕ). (0, l)) q
        ∙ ap (λ (m : ℕ). ((cond {A = ℕ × State} (eqb m 0) (0, accepted s b) (m, s)).0, cond (eqb (cond {A = ℕ × State} (eqb m 0) (0, accepted s b) (m, s)).0 0) (encode (cond {A = ℕ × State} (eqb m 0) (0, accepted s b) (m, s)).1 ++ drop state_len w) w)) e

  -- The number of a batch that is accepted.
  number-none : 0 ≡ refusal s b → (update s b).0 ≡ 0
  unfolding update_by
  number-none e = sym (ap (λ (m : ℕ). (cond {A = ℕ × State} (eqb m 0) (0, accepted s b) (m, s)).0) e)

-- The moves of a batch without an early number go to cells in range.
pub early-ranged : (next : ℕ) (b : List ℕ) (r m : ℕ) → early next (batch_of b r m) ≡ 0 → all in_range (moves_in m (drop r b)) ≡ true
unfolding early batch_of
early-ranged next b r m e =
    let p : Batch = record { removals = take r b; moves = moves_in m (drop r b) } in
    not-not (all in_range (moves_in m (drop r b))) (first_passes (too_many_events p) (out_of_range p) (few_ids next) 0 e).0

module _ (w : List ℕ) (k : Known w) (b : Batch) where
  abbrev next : ℕ
  next = next_id w

  early-next : early (next_id w) b ≡ early (decode w).groups.next b
  early-next = ap (λ (n : ℕ). early n b) k.stands.next-id

  -- 3, 4 and 5.
  pub early-answer : (n : ℕ) → n ≡ early (next_id w) b → (n ≡ 0 → ⊥) → (n, w) ≡ done w (update (decode w) b)
  early-answer n e f = refused (decode w) b w n (early-refuses (decode w) b n (e ∙ early-next) f) f

  module _ (z : early (next_id w) b ≡ 0) {r : Refused} (e : r ≡ plain (broken_by (touch_at (kind_of w)) (start_batch (decode w).occupancy) (events b))) where
    number : r.number ≡ refusal (decode w) b
    number = ap (λ (x : Refused). x.number) e ∙ ap (λ (j : ℕ). broken_by (touch_at j) (start_batch (decode w).occupancy) (events b)) k.stands.kind-is ∙ early-passes (decode w) b (sym early-next ∙ z)

    -- 6 and 7.
    pub broken-answer : (r.number ≡ 0 → ⊥) → ◌≡◌ {A = Refused × List ℕ} (r, w) (plainly (done w (update (decode w) b)))
    broken-answer f =
        let q : r ≡ plain r.number = e ∙ ap plain (sym (ap (λ (x : Refused). x.number) e)) in
        (λ i. (q i, w)) ∙ ap plainly (refused (decode w) b w r.number number f)

    -- 0: the batch is accepted, and the state is still to be written.
    pub can-finish : r.number ≡ 0 → {ents cells crowd occ emp : List ℕ} {c : Counts} → Ready (kind_of w) ents cells crowd occ emp c (occupied (decode w).occupancy) (play_batch (touch_at (kind_of w)) b (decode w).occupancy) → Finishes w ents cells crowd occ emp c b
    can-finish q {ents} {cells} {crowd} {occ} {emp} {c} x =
        record { known = k; accepted = number-none (decode w) b (sym q ∙ number); ready = subst (λ (j : ℕ). Ready j ents cells crowd occ emp c (occupied (decode w).occupancy) (play_batch (touch_at j) b (decode w).occupancy)) k.stands.kind-is x }

    -- 0: the state is written.
    pub done-answer : r.number ≡ 0 → {v : List ℕ} → v ≡ encode (accepted (decode w) b) ++ drop state_len w → ◌≡◌ {A = Refused × List ℕ} (none, v) (plainly (done w (update (decode w) b)))
    done-answer q {v} g = ap plainly (written (decode w) b w (sym q ∙ number) v g)
