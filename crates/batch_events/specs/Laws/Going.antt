-- On the way through the events of a batch: what is left of them decides for all.
use Rattle.std.specs.Prelude.{ℕ, ◌≤◌, ◌≡◌, refl, Bool, true, false, not, List, [], ◌∷◌, ltb, length}
use Rattle.std.proofs.Common.{arith, ap, ◌∙◌, subst, ltb-false}
use Rattle.std.proofs.Math.Path.{sym}
use Rattle.std.proofs.Math.Bool.{cond}
use Rattle.model.specs.Lists.{run, has}
use Rattle.model.specs.Cells.{Cell, same, below, touch_at}
use Rattle.model.specs.Occupancy.{Occupancy, Event, occupied, play}
use Rattle.model.specs.Update.{most_entities, most_cells, too_many_entities, too_many_cells, broken_by}
use Rattle.model.proofs.Laws.Members.{keep-shorter}
use Rattle.model.specs.Facts.{Asc, Sound, Net}
use Rattle.model.proofs.Laws.Tables.{keys_length}
use Rattle.model.proofs.Laws.Occupied.{pass-sound, events-keep}
use Rattle.model.proofs.Laws.Net.{pass-net}
use Rattle.map.specs.declared.Counts.{Counts}
use Rattle.map.specs.Held.{Held, RoomToEnter, RoomToLeave}
use Rattle.refusal.specs.Forms.{Refused, plain}
use Rattle.batch_events.specs.Playing.{judged, Roomy, Ready, Going, Outcome}

-- The net lists stay the difference with an event.
play-net : (kind : ℕ) (was : List Cell) → Asc below was → (o : Occupancy) → Sound (touch_at kind) o → Net was o → (ev : Event) → Net was (play (touch_at kind) o ev)
play-net kind was asc o ok net ev =
    (events-keep (touch_at kind) (λ p. Sound (touch_at kind) p × Net was p) (λ p. Unit {0})
    (λ p q x h u. (pass-sound (touch_at kind) p q x.0 h, pass-net (touch_at kind) was asc p q x.0 x.1 h))
    o (ev ∷ []) (λ p m. tt) (ok, net)).1

module _ {kind : ℕ} {ents cells crowd occ emp : List ℕ} {n : Counts} {was : List Cell} {o : Occupancy} (r : Ready kind ents cells crowd occ emp n was o) where
  -- The newly occupied cells are no more than the occupied.
  opened-few : length o.newly_occupied ≤ most_cells
  opened-few =
      omega (arith, ap length r.net.opened, keep-shorter (λ c. not (has same was c)) (occupied o), r.within.cells)

  -- The newly emptied cells are no more than were occupied.
  emptied-few : length o.newly_emptied ≤ most_cells
  emptied-few =
      omega (arith, ap length r.net.emptied, keep-shorter (λ c. not (has same (occupied o) c)) was, r.was-few)

  -- There is room for a cell more in the newly emptied list.
  pub ready-leave : RoomToLeave emp n
  ready-leave = omega (arith, r.room.emp-room, r.held.stored.emptied-count, emptied-few)

  -- There is room for an entity more, and for its cell.
  pub ready-enter : RoomToEnter ents cells crowd occ n
  ready-enter =
      let c : n.cells ≤ most_cells = omega (arith, r.held.stored.cells_count, keys_length o.masks, r.within.cells) in
      record {
        entities-room = omega (arith, r.room.ents-room, r.held.entities-count, r.within.entities);
        crowd-room = omega (arith, r.room.crowd-room, c);
        opening = record {
          cells-room = omega (arith, r.room.cells-room, c);
          occupied-room = omega (arith, r.room.occ-room, r.held.stored.occupied-count, opened-few);
        };
      }

  -- All events are left.
  pub going_start : (es left : List Event) → es ≡ left → Going kind ents cells crowd occ emp n was o es left
  going_start es left e = record { at = o; ready = r; broken = ap (broken_by (touch_at kind) o) e; ends = ap (run (play (touch_at kind)) o) e }

-- What is left, said in another way.
pub going-at : {kind : ℕ} {ents cells crowd occ emp : List ℕ} {n : Counts} {was : List Cell} {o : Occupancy} {es left left' : List Event} → left ≡ left' → Going kind ents cells crowd occ emp n was o es left → Going kind ents cells crowd occ emp n was o es left'
going-at {kind} e g = record { at = g.at; ready = g.ready; broken = g.broken ∙ ap (broken_by (touch_at kind) g.at) e; ends = g.ends ∙ ap (run (play (touch_at kind)) g.at) e }

-- The same kind, said in another way.
pub going-kind : {kind kind' : ℕ} {ents cells crowd occ emp : List ℕ} {n : Counts} {was : List Cell} {o : Occupancy} {es left : List Event} → kind' ≡ kind → Going kind ents cells crowd occ emp n was o es left → Going kind' ents cells crowd occ emp n was o es left
going-kind {kind} {kind'} {ents} {cells} {crowd} {occ} {emp} {n} {was} {o} {es} {left} q g = subst (λ (k : ℕ). Going k ents cells crowd occ emp n was o es left) (sym q) g

-- Room is a matter of lengths.
roomy-kept : {ents cells crowd occ emp ents' cells' crowd' occ' emp' : List ℕ} → length ents' ≡ length ents → length cells' ≡ length cells → length crowd' ≡ length crowd → length occ' ≡ length occ → length emp' ≡ length emp
    → Roomy ents cells crowd occ emp → Roomy ents' cells' crowd' occ' emp'
roomy-kept a b c d e r =
    record {
      ents-room = omega (arith, r.ents-room, a);
      cells-room = omega (arith, r.cells-room, b);
      crowd-room = omega (arith, r.crowd-room, c);
      occ-room = omega (arith, r.occ-room, d);
      emp-room = omega (arith, r.emp-room, e);
    }

-- A judgement of two tests, and the numbers that follow.
pass-both : (a b : Bool) (m : ℕ) → cond {A = ℕ} a 6 (cond b 7 0) ≡ 0 → (a ≡ false) × (b ≡ false) × (cond a 6 (cond b 7 m) ≡ m)
pass-both true b m e = absurd (omega arith)
pass-both false true m e = absurd (omega arith)
pass-both false false m e = (refl, refl, refl)

stop-first : (a b : Bool) (m k : ℕ) → k ≡ cond a 6 (cond b 7 0) → (k ≡ 0 → ⊥) → k ≡ cond a 6 (cond b 7 m)
stop-first true b m k e f = e
stop-first false true m k e f = e
stop-first false false m k e f = absurd (f e)

module _ {kind : ℕ} {ents cells crowd occ emp : List ℕ} {n : Counts} {was : List Cell} {o : Occupancy} {es : List Event} (ev : Event) (left : List Event) (g : Going kind ents cells crowd occ emp n was o es (ev ∷ left))
    {ents' cells' crowd' occ' emp' : List ℕ} {n' : Counts} (h : Held kind ents' cells' crowd' occ' emp' n' (play (touch_at kind) g.at ev)) where
  abbrev after : Occupancy
  after = play (touch_at kind) g.at ev

  judged-is : judged n' ≡ cond (too_many_entities after) 6 (cond (too_many_cells after) 7 0)
  unfolding judged
  judged-is =
      λ i. cond (ltb most_entities (h.entities-count i)) 6 (cond (ltb most_cells ((h.stored.cells_count ∙ sym (keys_length after.masks)) i)) 7 0)

  -- An event that breaks a limit decides.
  pub going-stop : {r : Refused} → r ≡ plain (judged n') → (r.number ≡ 0 → ⊥) → Outcome kind ents' cells' crowd' occ' emp' n' r was o es
  going-stop {r} e f =
      let k : ℕ = judged n' in
      let z : k ≡ 0 → ⊥ = λ q. f (ap (λ (x : Refused). x.number) e ∙ q) in
      record {
        number = e ∙ ap plain (stop-first (too_many_entities after) (too_many_cells after) (broken_by (touch_at kind) after left) k judged-is z ∙ sym g.broken);
        ready = λ q. absurd (f q);
      }

  -- An event that breaks none leaves the decision to the others.
  pub going_next : length ents' ≡ length ents → length cells' ≡ length cells → length crowd' ≡ length crowd → length occ' ≡ length occ → length emp' ≡ length emp
      → judged n' ≡ 0 → Going kind ents' cells' crowd' occ' emp' n' was o es left
  going_next a b c d e z =
      let p = pass-both (too_many_entities after) (too_many_cells after) (broken_by (touch_at kind) after left) (sym judged-is ∙ z) in
      record {
        at = after;
        ready = record {
          held = h;
          within = record {
            entities = ltb-false most_entities (length after.entities) p.0;
            cells = ltb-false most_cells (length (occupied after)) p.1;
          };
          was-asc = g.ready.was-asc;
          was-few = g.ready.was-few;
          net = play-net kind was g.ready.was-asc g.at g.ready.held.placed.sound g.ready.net ev;
          room = roomy-kept a b c d e g.ready.room;
        };
        broken = g.broken ∙ p.2;
        ends = g.ends;
      }

-- No event is left.
pub going_end : {kind : ℕ} {ents cells crowd occ emp : List ℕ} {n : Counts} {was : List Cell} {o : Occupancy} {es : List Event} (left : List Event) → left ≡ [] → Going kind ents cells crowd occ emp n was o es left
    → Outcome kind ents cells crowd occ emp n (plain 0) was o es
going_end {kind} {ents} {cells} {crowd} {occ} {emp} {n} {was} {o} {es} left e g =
    record {
      number = ap plain (sym (g.broken ∙ ap (broken_by (touch_at kind) g.at) e));
      ready = λ k. subst (λ (u : Occupancy). Ready kind ents cells crowd occ emp n was u) (sym (g.ends ∙ ap (run (play (touch_at kind)) g.at) e)) g.ready;
    }

-- The outcome at the same kind.
pub outcome-kind : {kind kind' : ℕ} {ents cells crowd occ emp : List ℕ} {n : Counts} {r : Refused} {was : List Cell} {o : Occupancy} {es : List Event} → kind' ≡ kind → Outcome kind ents cells crowd occ emp n r was o es → Outcome kind' ents cells crowd occ emp n r was o es
outcome-kind {kind} {kind'} {ents} {cells} {crowd} {occ} {emp} {n} {r} {was} {o} {es} q g = subst (λ (k : ℕ). Outcome k ents cells crowd occ emp n r was o es) (sym q) g

-- An event, said in another way.
pub held-event : {kind : ℕ} {ents cells crowd occ emp : List ℕ} {n : Counts} (k : ℕ) (o : Occupancy) {e f : Event} → e ≡ f → Held kind ents cells crowd occ emp n (play (touch_at k) o e) → Held kind ents cells crowd occ emp n (play (touch_at k) o f)
held-event {kind} {ents} {cells} {crowd} {occ} {emp} {n} k o q h = subst (λ (e : Event). Held kind ents cells crowd occ emp n (play (touch_at k) o e)) q h
