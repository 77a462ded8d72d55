-- The net lists as a difference since the batch began, their lengths, and the cells that occupancy names; the entities tell the rest.
use Rattle.std.specs.Prelude.{ℕ, ◌+◌, ◌≤◌, ◌≡◌, refl, Bool, true, false, cond, not, T, eqb, ltb, length}
use Rattle.std.proofs.Common.{arith, sym, ◌∙◌, ap, subst, ⊎_elim}
use mathlib.Core.List.Memᴰ.{append_cases}
use mathlib.Core.List.Memᴰ.{cases_cons as mem-cons}
use mathlib.Core.List.Memᴰ.{eq_of_singleton as mem-one}
use mathlib.Core.List.Memᴰ.{head}
use mathlib.Core.List.Memᴰ.{not-nil as mem-nil}
use mathlib.Core.List.Memᴰ.{tail}
use mathlib.Core.List.{List, [], ◌∷◌, ◌++◌, Memᴰ as Mem}
use Rattle.std.proofs.Math.Option.{Option, none, some}
use Rattle.model.specs.Facts.{Asc, minus, Sound, Inside, Net}
use Rattle.model.specs.Lists.{has, without, each, add, run, values, put, get, drop_key}
use Rattle.model.specs.Cells.{Cell, same, below}
use Rattle.model.specs.Occupancy.{Occupancy, Event, remove, move_to, Batch, events, occupied, stands_in, with_entities, start_batch, Passage, leaves, enters, leaves_from, is_at, passages, open_cell, close_cell, enter, leave, pass, play, trace, play_batch}
use Rattle.model.proofs.Laws.Tests.{T_true, T_false}
use Rattle.model.proofs.Laws.Orders.{numbers, cells}
use Rattle.model.proofs.Laws.Members.{of-has, of-hasnt, mem-or, keep-shorter, each-out, run-append, without-out}
use Rattle.model.proofs.Laws.Sorted.{add-out, add-length}
use Rattle.model.proofs.Laws.Tables.{at_mem}
use Rattle.model.proofs.Laws.Values.{value_in, value-put-out, value-drop-out}
use Rattle.model.proofs.Laws.Minus.{minus-in, minus-out, minus-self, minus-add, minus-without, minus-without-other, add-minus-old, add-minus-new, without-minus}
use Rattle.model.proofs.Laws.Occupied.{Fits, occupied-open, occupied-close, occupied-asc, not-occupied, at-occupied, pass-sound, start-sound, events-keep}

module _ (touch : Cell → Cell → Bool) (was : List Cell) (was-asc : Asc below was) where
  module _ (c : Cell) (o : Occupancy) (net : Net was o) where
    -- The difference stays when a cell that was not occupied opens.
    pub open-net : Asc below (occupied o) → (Mem c (occupied o) → ⊥) → Net was (open_cell touch c o)
    open-net s n =
        record {
          opened = go (has same o.newly_emptied c) refl ∙ ap (λ l. minus same l was) (sym (occupied-open touch c o));
          emptied = ap (without same c) net.emptied ∙ sym (minus-add cells c was (occupied o) was-asc) ∙ ap (minus same was) (sym (occupied-open touch c o));
        }
      where
        go : (b : Bool) → has same o.newly_emptied c ≡ b → cond b o.newly_occupied (add below c o.newly_occupied) ≡ minus same (add below c (occupied o)) was
        go true e =
            let k : Mem c (minus same was (occupied o)) = subst (λ l. Mem c l) net.emptied (of-has cells o.newly_emptied (T_true e)) in
            net.opened ∙ sym (add-minus-old cells c (occupied o) was (minus-out cells was (occupied o) k).0)
        go false e =
            ap (add below c) net.opened ∙
            sym (add-minus-new cells c (occupied o) was s (λ k. of-hasnt cells o.newly_emptied (T_false e) (subst (λ l. Mem c l) (sym net.emptied) (minus-in cells (occupied o) k n))))

    -- The difference stays when an occupied cell closes.
    pub close-net : Mem c (occupied o) → Net was (close_cell touch c o)
    close-net h =
        record {
          opened = ap (without same c) net.opened ∙ sym (without-minus cells c (occupied o) was) ∙ ap (λ l. minus same l was) (sym (occupied-close touch c o));
          emptied = go (has same o.newly_occupied c) refl ∙ ap (minus same was) (sym (occupied-close touch c o));
        }
      where
        go : (b : Bool) → has same o.newly_occupied c ≡ b → cond b o.newly_emptied (add below c o.newly_emptied) ≡ minus same was (without same c (occupied o))
        go true e =
            let k : Mem c (minus same (occupied o) was) = subst (λ l. Mem c l) net.opened (of-has cells o.newly_occupied (T_true e)) in
            net.emptied ∙ sym (minus-without-other cells c was (occupied o) (minus-out cells (occupied o) was k).1)
        go false e =
            ap (add below c) net.emptied ∙ sym (minus-without cells c was (occupied o) was-asc
            (⊎_elim (λ k. k) (λ n. absurd (of-hasnt cells o.newly_occupied (T_false e) (subst (λ l. Mem c l) (sym net.opened) (minus-in cells was h n)))) (mem-or cells c was)))

  -- The difference stays with each passage that fits.
  pub pass-net : (o : Occupancy) (p : Passage) → Sound touch o → Net was o → Fits o.entities p → Net was (pass touch o p)
  pass-net o (leaves e c) ok net h = go (stands_in (drop_key eqb e o.entities) c)
    where
      go : (b : Bool) → Net was (with_entities (drop_key eqb e o.entities) (cond b o (close_cell touch c o)))
      go true = record { opened = net.opened; emptied = net.emptied }
      go false = let n : Net was (close_cell touch c o) = close-net c o net (at-occupied touch o ok h) in record { opened = n.opened; emptied = n.emptied }
  pass-net o (enters e c) ok net h = go (stands_in o.entities c) refl
    where
      go : (b : Bool) → stands_in o.entities c ≡ b → Net was (with_entities (put ltb e c o.entities) (cond b o (open_cell touch c o)))
      go true f = record { opened = net.opened; emptied = net.emptied }
      go false f = let n : Net was (open_cell touch c o) = open-net c o net (occupied-asc touch o ok) (not-occupied touch o ok (T_false f)) in record { opened = n.opened; emptied = n.emptied }

-- After a batch the net lists are the difference of the occupied cells and those occupied before.
pub batch-net : (touch : Cell → Cell → Bool) (b : Batch) (o : Occupancy) → Sound touch o → Net (occupied o) (play_batch touch b o)
batch-net touch b o ok =
    (events-keep touch (λ o'. Sound touch o' × Net (occupied o) o') (λ p. Unit {0})
    (λ o' p x h q. (pass-sound touch o' p x.0 h, pass-net touch (occupied o) (occupied-asc touch o ok) o' p x.0 x.1 h))
    (start_batch o) (events b) (λ p m. tt)
    (start-sound touch o ok, record { opened = sym (minus-self cells (occupied o)); emptied = sym (minus-self cells (occupied o)) })).1

-- From one occupancy to another the newly occupied cells gain at most i and the newly emptied cells at most j.
pub record Gains (o o' : Occupancy) (i j : ℕ) : Type 0 where
  pub opened : length o'.newly_occupied ≤ i + length o.newly_occupied
  pub emptied : length o'.newly_emptied ≤ j + length o.newly_emptied

-- Gains add up.
pub gains-then : {o o' o'' : Occupancy} {i j i' j' : ℕ} → Gains o o' i j → Gains o' o'' i' j' → Gains o o'' (i + i') (j + j')
gains-then g h = record { opened = omega (arith, g.opened, h.opened); emptied = omega (arith, g.emptied, h.emptied) }

module _ (touch : Cell → Cell → Bool) where
  -- To leave opens no cell and closes at most one.
  leave-gains : (e : ℕ) (c : Cell) (o : Occupancy) → Gains o (leave touch e c o) 0 1
  leave-gains e c o = go (stands_in (drop_key eqb e o.entities) c)
    where
      joins : (b : Bool) → length (cond b o.newly_emptied (add below c o.newly_emptied)) ≤ 1 + length o.newly_emptied
      joins true = omega arith
      joins false = omega (arith, add-length cells c o.newly_emptied)

      go : (b : Bool) → Gains o (with_entities (drop_key eqb e o.entities) (cond b o (close_cell touch c o))) 0 1
      go true = record { opened = omega arith; emptied = omega arith }
      go false = record { opened = omega (arith, keep-shorter (λ d. not (same c d)) o.newly_occupied); emptied = joins (has same o.newly_occupied c) }

  -- To enter opens at most one cell and closes none.
  enter-gains : (e : ℕ) (c : Cell) (o : Occupancy) → Gains o (enter touch e c o) 1 0
  enter-gains e c o = go (stands_in o.entities c)
    where
      joins : (b : Bool) → length (cond b o.newly_occupied (add below c o.newly_occupied)) ≤ 1 + length o.newly_occupied
      joins true = omega arith
      joins false = omega (arith, add-length cells c o.newly_occupied)

      go : (b : Bool) → Gains o (with_entities (put ltb e c o.entities) (cond b o (open_cell touch c o))) 1 0
      go true = record { opened = omega arith; emptied = omega arith }
      go false = record { opened = joins (has same o.newly_emptied c); emptied = omega (arith, keep-shorter (λ d. not (same c d)) o.newly_emptied) }

  -- One who leaves if it stands anywhere opens no cell and closes at most one.
  leaves-gains : (e : ℕ) (m : Option Cell) (o : Occupancy) → Gains o (run (pass touch) o (leaves_from e m)) 0 1
  leaves-gains e none o = record { opened = omega arith; emptied = omega arith }
  leaves-gains e (some c) o = leave-gains e c o

  -- An event opens at most one cell and closes at most one.
  pub play-gains : (o : Occupancy) (ev : Event) → Gains o (play touch o ev) 1 1
  play-gains o (remove e) = let g : Gains o (play touch o (remove e)) 0 1 = leaves-gains e (get eqb o.entities e) o in record { opened = omega (arith, g.opened); emptied = g.emptied }
  play-gains o (move_to e c) = go (get eqb o.entities e) (is_at (get eqb o.entities e) c)
    where
      go : (m : Option Cell) (b : Bool) → Gains o (run (pass touch) o (cond b [] (leaves_from e m ++ (enters e c ∷ [])))) 1 1
      go m true = record { opened = omega arith; emptied = omega arith }
      go m false =
          subst (λ o'. Gains o o' 1 1) (sym (run-append (pass touch) o (leaves_from e m) (enters e c ∷ [])))
          (gains-then (leaves-gains e m o) (enter-gains e c (run (pass touch) o (leaves_from e m))))

  -- Each of some events opens at most one cell and closes at most one.
  pub plays-gains : (o : Occupancy) (es : List Event) → Gains o (run (play touch) o es) (length es) (length es)
  plays-gains o [] = record { opened = omega arith; emptied = omega arith }
  plays-gains o (ev ∷ es) =
      let g : Gains o (run (play touch) o (ev ∷ es)) (1 + length es) (1 + length es) = gains-then (play-gains o ev) (plays-gains (play touch o ev) es) in
      record { opened = omega (arith, g.opened); emptied = omega (arith, g.emptied) }

-- A passage enters no cell outside R.
abbrev pub EntersIn : (Cell → Bool) → Passage → Type 0
EntersIn R (leaves e c) = Unit {0}
EntersIn R (enters e c) = T (R c)

-- An event moves to no cell outside R.
abbrev pub MovesIn : (Cell → Bool) → Event → Type 0
MovesIn R (remove e) = Unit {0}
MovesIn R (move_to e c) = T (R c)

module _ (R : Cell → Bool) where
  -- A list in R that a cell in R joins is in R.
  joined-in : (c : Cell) (l : List Cell) (b : Bool) → T (R c) → ((a : Cell) → Mem a l → T (R a)) → (a : Cell) → Mem a (cond b l (add below c l)) → T (R a)
  joined-in c l true t f a m = f a m
  joined-in c l false t f a m = ⊎_elim (λ e. subst (λ x. T (R x)) (sym e) t) (f a) (add-out cells c l m)

  -- The passages of an event that moves to no cell outside R enter none.
  passages-in : (t : List (ℕ × Cell)) (ev : Event) → MovesIn R ev → (p : Passage) → Mem p (passages t ev) → EntersIn R p
  passages-in t (remove e) q p m = leaving (get eqb t e) m
    where
      leaving : (o : Option Cell) → Mem p (leaves_from e o) → EntersIn R p
      leaving none k = absurd (mem-nil k)
      leaving (some c) k = subst (EntersIn R) (sym (mem-one k)) tt
  passages-in t (move_to e c) q p m = go (get eqb t e) (is_at (get eqb t e) c) m
    where
      go : (o : Option Cell) (b : Bool) → Mem p (cond b [] (leaves_from e o ++ (enters e c ∷ []))) → EntersIn R p
      go o true k = absurd (mem-nil k)
      go none false k = subst (EntersIn R) (sym (mem-one k)) q
      go (some d) false k = ⊎_elim (λ f. subst (EntersIn R) (sym f) tt) (λ j. subst (EntersIn R) (sym (mem-one j)) q) (mem-cons k)

  -- The events of a batch whose moves are in R move to no cell outside R.
  pub events-in : (b : Batch) → ((c : Cell) → Mem c (values b.moves) → T (R c)) → (ev : Event) → Mem ev (events b) → MovesIn R ev
  events-in b f ev m =
      ⊎_elim (λ k. let r : (e : ℕ) × Mem e b.removals × (ev ≡ remove e) = each-out remove b.removals k in subst (MovesIn R) (sym r.2) tt)
      (λ k. let r : (q : ℕ × Cell) × Mem q b.moves × (ev ≡ move_to q.0 q.1) = each-out (λ (q : ℕ × Cell). move_to q.0 q.1) b.moves k in
      subst (MovesIn R) (sym r.2) (f r.0.1 (value_in r.1)))
      (append_cases (each remove b.removals) m)

module _ (touch : Cell → Cell → Bool) (R : Cell → Bool) where
  -- A passage that enters no cell outside R names none.
  pub pass-inside : (o : Occupancy) (p : Passage) → Inside R o → Fits o.entities p → EntersIn R p → Inside R (pass touch o p)
  pass-inside o (leaves e c) x h q = go (stands_in (drop_key eqb e o.entities) c)
    where
      go : (b : Bool) → Inside R (with_entities (drop_key eqb e o.entities) (cond b o (close_cell touch c o)))
      go true = record { stood = λ m. x.stood (value-drop-out numbers o.entities e m); opened = x.opened; emptied = x.emptied }
      go false =
          record {
            stood = λ m. x.stood (value-drop-out numbers o.entities e m);
            opened = λ m. x.opened (without-out cells c o.newly_occupied m).0;
            emptied = λ {c = d} m. joined-in R c o.newly_emptied (has same o.newly_occupied c) (x.stood (value_in (at_mem numbers o.entities h))) (λ a k. x.emptied k) d m;
          }
  pass-inside o (enters e c) x h q = go (stands_in o.entities c)
    where
      stood' : (a : Cell) → Mem a (values (put ltb e c o.entities)) → T (R a)
      stood' a m = ⊎_elim (λ f. subst (λ y. T (R y)) (sym f) q) (λ k. x.stood k) (value-put-out numbers o.entities e c m)

      go : (b : Bool) → Inside R (with_entities (put ltb e c o.entities) (cond b o (open_cell touch c o)))
      go true = record { stood = λ {c = a} m. stood' a m; opened = x.opened; emptied = x.emptied }
      go false =
          record {
            stood = λ {c = a} m. stood' a m;
            opened = λ {c = d} m. joined-in R c o.newly_occupied (has same o.newly_emptied c) q (λ a k. x.opened k) d m;
            emptied = λ m. x.emptied (without-out cells c o.newly_emptied m).0;
          }

  -- The passages of events that move to no cell outside R enter none.
  pub trace-in : (o : Occupancy) (es : List Event) → ((ev : Event) → Mem ev es → MovesIn R ev) → (p : Passage) → Mem p (trace touch o es) → EntersIn R p
  trace-in o [] f p m = absurd (mem-nil m)
  trace-in o (ev ∷ es) f p m =
      ⊎_elim (λ k. passages-in R o.entities ev (f ev (head refl)) p k) (λ k. trace-in (play touch o ev) es (λ v j. f v (tail j)) p k)
      (append_cases (passages o.entities ev) m)
