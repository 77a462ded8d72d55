-- What an accepted batch leaves.
use Prim.Native.Nat.{ℕ, ◌≤◌}
use Rattle.std.proofs.Common.{arith, sym, subst}
use Rattle.std.specs.Prelude.{◌≡◌, Bool, cond, not, List, [], ◌∷◌, length}
use Rattle.std.proofs.Math.Path.{refl}
use Rattle.std.proofs.Math.Bool.{true, false}
use lib.Dec.{T, T_not, eqb, nltb→le}
use Rattle.model.specs.Facts.{Within}
use Rattle.model.specs.Lists.{all, run}
use Rattle.model.specs.Cells.{Cell, cell_in_range}
use Rattle.model.specs.Occupancy.{Occupancy, Event, Batch, events, occupied, start_batch, play}
use Rattle.model.specs.Update.{State, most_events, most_entities, most_cells, last_next, too_many_events, out_of_range, few_ids, too_many_entities, too_many_cells, broken_by, refusal_by, accepted_by, update_by}
use Rattle.model.proofs.Laws.Tests.{T_true, T_false}

-- Where a test with a number comes out at 0, the test fails and what follows it comes out at 0.
passed : (b : Bool) (n r : ℕ) → (n ≡ 0 → ⊥) → cond b n r ≡ 0 → T (not b) × (r ≡ 0)
passed true n r h e = absurd (h e)
passed false n r h e = (tt, e)

-- What the number 0 of a batch tells.
pub record Accepts (touch : Cell → Cell → Bool) (s : State) (b : Batch) : Type 0 where
  pub few-events : length (events b) ≤ most_events
  pub in-range : T (all (λ (m : ℕ × Cell). cell_in_range m.1) b.moves)
  pub ids-left : s.groups.next ≤ last_next
  pub unbroken : broken_by touch (start_batch s.occupancy) (events b) ≡ 0

twice : (b : Bool) → T (not (not b)) → T b
twice true t = tt
twice false t = t

pub accepts : (touch : Cell → Cell → Bool) (s : State) (b : Batch) → refusal_by touch s b ≡ 0 → Accepts touch s b
unfolding refusal_by
accepts touch s b e =
    let r3 = passed (too_many_events b) 3 (cond (out_of_range b) 4 (cond (few_ids s.groups.next) 5 (broken_by touch (start_batch s.occupancy) (events b)))) (λ z. omega arith) e in
    let r4 = passed (out_of_range b) 4 (cond (few_ids s.groups.next) 5 (broken_by touch (start_batch s.occupancy) (events b))) (λ z. omega arith) r3.1 in
    let r5 = passed (few_ids s.groups.next) 5 (broken_by touch (start_batch s.occupancy) (events b)) (λ z. omega arith) r4.1 in
    record {
      few-events = nltb→le most_events (length (events b)) r3.0;
      in-range = twice (all (λ (m : ℕ × Cell). cell_in_range m.1) b.moves) r4.0;
      ids-left = nltb→le last_next s.groups.next r5.0;
      unbroken = r5.1;
    }

module _ (touch : Cell → Cell → Bool) where
  -- An update with the number 0 was not refused and leaves the accepted state.
  pub update-accepted : (s : State) (b : Batch) → (update_by touch s b).0 ≡ 0 → (refusal_by touch s b ≡ 0) × ((update_by touch s b).1 ≡ accepted_by touch s b)
  unfolding update_by
  update-accepted s b e = go (refusal_by touch s b) refl e
    where
      go : (n : ℕ) → refusal_by touch s b ≡ n → (cond {A = ℕ × State} (eqb n 0) (0, accepted_by touch s b) (n, s)).0 ≡ 0 → (n ≡ 0) × ((cond {A = ℕ × State} (eqb n 0) (0, accepted_by touch s b) (n, s)).1 ≡ accepted_by touch s b)
      go n q e = by (eqb n 0) refl e
        where
          by : (t : Bool) → eqb n 0 ≡ t → (cond {A = ℕ × State} t (0, accepted_by touch s b) (n, s)).0 ≡ 0 → (n ≡ 0) × ((cond {A = ℕ × State} t (0, accepted_by touch s b) (n, s)).1 ≡ accepted_by touch s b)
          by true f h = (lib.Dec.eqb→eq n 0 (T_true f), refl)
          by false f h = absurd (T_not (eqb n 0) (T_false f) (subst (λ k. T (eqb k 0)) (sym h) tt))

  -- Unbroken events leave entities and cells within number, where they were.
  pub unbroken-within : (es : List Event) (o : Occupancy) → broken_by touch o es ≡ 0 → Within touch o → Within touch (run (play touch) o es)
  unbroken-within [] o e w = w
  unbroken-within (ev ∷ es) o e w =
      let r6 = passed (too_many_entities (play touch o ev)) 6 (cond (too_many_cells (play touch o ev)) 7 (broken_by touch (play touch o ev) es)) (λ z. omega arith) e in
      let r7 = passed (too_many_cells (play touch o ev)) 7 (broken_by touch (play touch o ev) es) (λ z. omega arith) r6.1 in
      unbroken-within es (play touch o ev) r7.1
      (record {
        entities = nltb→le most_entities (length (play touch o ev).entities) r6.0;
        cells = nltb→le most_cells (length (occupied (play touch o ev))) r7.0;
      })
