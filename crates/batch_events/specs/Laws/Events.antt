-- The events of a batch in words, one after the other.
use Rattle.std.specs.Prelude.{ℕ, zero, suc, ◌+◌, ◌*◌, ◌-◌, ◌≤◌, ◌<◌, ◌≡◌, Bool, length, take, drop, get_or}
use Rattle.std.proofs.Common.{add-one, sym, ◌∙◌, drop_of_length-le, length-take-le, drop-cons, get_or-take}
use native.Mathlib.Omega.{arith}
use Rattle.std.proofs.Math.Path.{refl, ap}
use Rattle.std.proofs.Math.Bool.{true, false, cond}
use mathlib.Core.List.{List, [], ◌∷◌, ◌++◌}
use Rattle.std.proofs.Math.Dec.{ltb}
use borrow.Author.Tests.{ltb-true, ltb-false, lt-ltb, le-ltb}
use Rattle.component.specs.Laws.Tests.{both}
use Rattle.model.specs.Lists.{each, all}
use Rattle.model.specs.Occupancy.{Event, remove, events}
use Rattle.layout.specs.Widths.{move_width}
use Rattle.batch.specs.Words.{move_at, moves_in, batch_of}
use Rattle.batch.proofs.Laws.Words.{moves_left, moves-start, moves-step, moves-end}
use Rattle.batch_events.specs.Events.{in_range, to_move, move_place, event_at, EventFits}

module _ (b : List ℕ) (r : ℕ) where
  -- A removal is event k, where k is below their number.
  pub removal-at : (k : ℕ) → k < r → remove (get_or b k 0) ≡ event_at b r k
  unfolding event_at
  removal-at k h = λ i. cond (sym (lt-ltb k r h) i) (remove (get_or b k 0)) (to_move (move_at b (move_place r k)))

  -- A move is event k, where k is not.
  pub move-at : (k : ℕ) → r ≤ k → to_move (move_at b (move_place r k)) ≡ event_at b r k
  unfolding event_at
  move-at k h = λ i. cond (sym (le-ltb k r h) i) (remove (get_or b k 0)) (to_move (move_at b (move_place r k)))

module _ (b : List ℕ) (r m : ℕ) where
  -- The removals from the i-th on.
  abbrev removals_left : ℕ → List Event
  removals_left i = each remove (drop i (take r b))

  -- The moves from the j-th on.
  abbrev moves_from : ℕ → List Event
  moves_from j = each to_move (moves_left b r m j)

  -- The events from the i-th on.
  unfoldable pub events_left : ℕ → List Event
  events_left i = removals_left i ++ moves_from (i - r)

  -- From the first on they are all.
  pub events-start : events (batch_of b r m) ≡ events_left 0
  unfolding batch_of events_left
  events-start =
      let e : 0 ≡ 0 - r = omega arith in
      ap (λ (l : List Event). each remove (take r b) ++ l) (ap (each to_move) (moves-start b r m) ∙ ap moves_from e)

  module _ (h : r ≤ length b) where
    removals-step : (i : ℕ) → i < r → removals_left i ≡ remove (get_or b i 0) ∷ removals_left (i + 1)
    removals-step i k =
        ap (each remove) (drop-cons (take r b) i 0 (omega (arith, length-take-le r b h)))
        ∙ (λ j. remove (get_or-take r b i 0 k j) ∷ each remove (drop (sym (add-one i) j) (take r b)))

    removals-end : (i : ℕ) → r ≤ i → removals_left i ≡ []
    removals-end i e = ap (each remove) (drop_of_length-le (take r b) {i = i} (omega (arith, length-take-le r b h)))

    -- The i-th, and those behind it.
    pub events-step : (i : ℕ) → i < r + m → events_left i ≡ event_at b r i ∷ events_left (i + 1)
    unfolding events_left
    events-step i k = go (ltb i r) refl
      where
        go : (t : Bool) → ltb i r ≡ t → removals_left i ++ moves_from (i - r) ≡ event_at b r i ∷ (removals_left (i + 1) ++ moves_from (i + 1 - r))
        go true e =
            let l : i < r = ltb-true i r e in
            let f : i - r ≡ i + 1 - r = omega arith in
            (λ j. removals-step i l j ++ moves_from (f j)) ∙ (λ j. removal-at b r i l j ∷ (removals_left (i + 1) ++ moves_from (i + 1 - r)))
        go false e =
            let l : r ≤ i = ltb-false i r e in
            let f : i - r + 1 ≡ i + 1 - r = omega arith in
            (λ j. removals-end i l j ++ moves_from (i - r))
            ∙ ap (each to_move) (moves-step b r m (i - r) (omega arith))
            ∙ (λ j. move-at b r i l j ∷ (sym (removals-end (i + 1) (omega arith)) j ++ moves_from (f j)))

    -- Behind the last there is none.
    pub events-end : (i : ℕ) → r + m ≤ i → events_left i ≡ []
    unfolding events_left
    events-end i k =
        (λ j. removals-end i (omega arith) j ++ moves_from (i - r)) ∙ ap (each to_move) (moves-end b r m (i - r) (omega arith))

  -- Each move of a batch whose moves are in range goes to a cell in range.
  ranged-from : all in_range (moves_in m (drop r b)) ≡ true → (j : ℕ) → j ≤ m → all in_range (moves_left b r m j) ≡ true
  ranged-from e zero h = sym (ap (all in_range) (moves-start b r m)) ∙ e
  ranged-from e (suc j) h =
      let f : suc j ≡ j + 1 = omega arith in
      ap (λ (n : ℕ). all in_range (moves_left b r m n)) f
      ∙ (both (in_range (move_at b (r + move_width * j))) (all in_range (moves_left b r m (j + 1)))
      (sym (ap (all in_range) (moves-step b r m j (omega arith))) ∙ ranged-from e j (omega arith))).1

  -- The words of each event of a batch are there.
  pub events-fit : r + move_width * m ≤ length b → all in_range (moves_in m (drop r b)) ≡ true → (k : ℕ) → k < r + m → EventFits b r k
  events-fit h e k l =
      record {
        more-words = omega arith;
        move-there = λ q. omega arith;
        move-ranged = λ q. (both (in_range (move_at b (move_place r k))) (all in_range (moves_left b r m (k - r + 1)))
            (sym (ap (all in_range) (moves-step b r m (k - r) (omega arith))) ∙ ranged-from e (k - r) (omega arith))).0;
      }
