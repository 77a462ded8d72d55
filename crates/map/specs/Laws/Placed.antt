-- An occupancy that is kept stays so when an entity enters or leaves.
use Rattle.std.specs.Prelude.{ℕ, ◌≡◌, ◌⊎◌, Bool, true, false, cond, not, eqb, ltb}
use Rattle.std.proofs.Common.{sym, subst, inr, ⊎_elim}
use mathlib.Core.List.{List, Memᴰ as Mem}
use Rattle.model.specs.Lists.{has, add, put, drop_key}
use Rattle.model.specs.Cells.{Cell, same, below, cell_in_range, touch_at}
use Rattle.model.specs.Occupancy.{Occupancy, occupied, stands_in, with_entities, leaves, enters, open_cell, close_cell, enter, leave}
use Rattle.model.proofs.Laws.Tests.{T_true}
use Rattle.model.proofs.Laws.Orders.{cells}
use Rattle.model.proofs.Laws.Members.{without_in, without-out}
use Rattle.model.proofs.Laws.Sorted.{keep-asc, add-asc, add-out, add-in, add-self}
use Rattle.model.specs.Facts.{Asc, At, Free, Sound, Inside}
use Rattle.model.proofs.Laws.Occupied.{enter-sound, leave-sound, occupied-open, occupied-close}
use Rattle.model.proofs.Laws.Net.{pass-inside}
use Rattle.map.specs.Held.{Placed}

-- What is asked of the net lists.
record Nets (o : Occupancy) : Type 0 where
  opened-asc : Asc below o.newly_occupied
  emptied-asc : Asc below o.newly_emptied
  opened_in : (c : Cell) → Mem c o.newly_occupied → Mem c (occupied o)
  emptied-out : (c : Cell) → Mem c o.newly_emptied → Mem c (occupied o) → ⊥

-- A list that a cell joins or not ascends, and its members are the cell and the old ones.
joined-asc : (b : Bool) (c : Cell) (l : List Cell) → Asc below l → Asc below (cond b l (add below c l))
joined-asc true c l s = s
joined-asc false c l s = add-asc cells c l s

joined-out : (b : Bool) (c : Cell) (l : List Cell) {a : Cell} → Mem a (cond b l (add below c l)) → (a ≡ c) ⊎ Mem a l
joined-out true c l m = inr m
joined-out false c l m = add-out cells c l m

module _ (touch : Cell → Cell → Bool) (c : Cell) (o : Occupancy) (x : Nets o) where
  open-nets : Nets (open_cell touch c o)
  open-nets =
      record {
        opened-asc = joined-asc (has same o.newly_emptied c) c o.newly_occupied x.opened-asc;
        emptied-asc = keep-asc (λ d. not (same c d)) o.newly_emptied x.emptied-asc;
        opened_in = λ a m. subst (λ l. Mem a l) (sym (occupied-open touch c o))
            (⊎_elim (λ e. add-self cells c (occupied o) e) (λ k. add-in cells c (occupied o) (x.opened_in a k)) (joined-out (has same o.newly_emptied c) c o.newly_occupied m));
        emptied-out = λ a m k. let r = without-out cells c o.newly_emptied m in
            ⊎_elim r.1 (x.emptied-out a r.0) (add-out cells c (occupied o) (subst (λ l. Mem a l) (occupied-open touch c o) k));
      }

  close-nets : Nets (close_cell touch c o)
  close-nets =
      record {
        opened-asc = keep-asc (λ d. not (same c d)) o.newly_occupied x.opened-asc;
        emptied-asc = joined-asc (has same o.newly_occupied c) c o.newly_emptied x.emptied-asc;
        opened_in = λ a m. let r = without-out cells c o.newly_occupied m in
            subst (λ l. Mem a l) (sym (occupied-close touch c o)) (without_in cells c (x.opened_in a r.0) r.1);
        emptied-out = λ a m k. let r = without-out cells c (occupied o) (subst (λ l. Mem a l) (occupied-close touch c o) k) in
            ⊎_elim r.1 (λ j. x.emptied-out a j r.0) (joined-out (has same o.newly_occupied c) c o.newly_emptied m);
      }

-- Net lists do not look at the entities.
nets-with : (l : List (ℕ × Cell)) (o : Occupancy) → Nets o → Nets (with_entities l o)
nets-with l o x = record { opened-asc = x.opened-asc; emptied-asc = x.emptied-asc; opened_in = x.opened_in; emptied-out = x.emptied-out }

placed-nets : {kind : ℕ} (o : Occupancy) → Placed kind o → Nets o
placed-nets o x = record { opened-asc = x.opened-asc; emptied-asc = x.emptied-asc; opened_in = x.opened_in; emptied-out = x.emptied-out }

placed_of : {kind : ℕ} (o : Occupancy) → Sound (touch_at kind) o → Inside cell_in_range o → Nets o → Placed kind o
placed_of o s i x = record { sound = s; inside = i; opened-asc = x.opened-asc; emptied-asc = x.emptied-asc; opened_in = x.opened_in; emptied-out = x.emptied-out }

module _ {kind : ℕ} (o : Occupancy) (ok : Placed kind o) (e : ℕ) (c : Cell) where
  -- An entity enters.
  pub enter-placed : Free eqb o.entities e → cell_in_range c ≡ true → Placed kind (enter (touch_at kind) e c o)
  enter-placed n r =
      placed_of (enter (touch_at kind) e c o) (enter-sound (touch_at kind) e c o ok.sound n)
      (pass-inside (touch_at kind) cell_in_range o (enters e c) ok.inside n (T_true r)) (go (stands_in o.entities c))
    where
      go : (b : Bool) → Nets (with_entities (put ltb e c o.entities) (cond b o (open_cell (touch_at kind) c o)))
      go true = nets-with (put ltb e c o.entities) o (placed-nets o ok)
      go false = nets-with (put ltb e c o.entities) (open_cell (touch_at kind) c o) (open-nets (touch_at kind) c o (placed-nets o ok))

  -- An entity leaves.
  pub leave-placed : At eqb o.entities e c → Placed kind (leave (touch_at kind) e c o)
  leave-placed p =
      placed_of (leave (touch_at kind) e c o) (leave-sound (touch_at kind) e c o ok.sound p)
      (pass-inside (touch_at kind) cell_in_range o (leaves e c) ok.inside p tt) (go (stands_in (drop_key eqb e o.entities) c))
    where
      go : (b : Bool) → Nets (with_entities (drop_key eqb e o.entities) (cond b o (close_cell (touch_at kind) c o)))
      go true = nets-with (drop_key eqb e o.entities) o (placed-nets o ok)
      go false = nets-with (drop_key eqb e o.entities) (close_cell (touch_at kind) c o) (close-nets (touch_at kind) c o (placed-nets o ok))
