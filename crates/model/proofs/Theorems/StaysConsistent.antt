-- A fresh state is consistent, and so is what an accepted update leaves of a consistent state.
use Rattle.std.specs.Prelude.{ℕ, ◌≤◌, ◌≡◌, Bool, not, T, length}
use Rattle.std.proofs.Common.{arith, sym, subst}
use mathlib.Core.List.{Memᴰ as Mem}
use Rattle.model.specs.Lists.{has}
use Rattle.model.specs.Cells.{Cell, same, cell_in_range, Offsets, all26, holds_opposites, touch_by}
use Rattle.model.specs.Occupancy.{Occupancy, Batch, events, occupied, start_batch, play_batch}
use Rattle.model.specs.Update.{State, fresh, accepted_by, update_by}
use Rattle.model.specs.Consistent.{consistent_by}
use Rattle.model.specs.Runs.{ReachedBy, start, next}
use Rattle.model.proofs.Laws.Orders.{cells}
use Rattle.model.proofs.Laws.Members.{all-out, keep_out, of-hasnt}
use Rattle.model.proofs.Laws.Values.{value_out}
use Rattle.model.proofs.Laws.Touching.{Touching, touching-by}
use Rattle.model.specs.Facts.{Inside, Within, Ok}
use Rattle.model.proofs.Laws.Accepted.{Accepts, accepts, update-accepted, unbroken-within}
use Rattle.model.proofs.Laws.Steady.{Steady, accepted-steady}
use Rattle.model.proofs.Laws.Consistency.{ok_in, ok_out, steady-of, shared_of}
use Rattle.model.proofs.Theorems.NetExact.{Since, net-exact, net-sizes, net-inside}

-- A fresh state is consistent.
pub consistent-fresh : (touch : Cell → Cell → Bool) (first kind : ℕ) → T (consistent_by touch (fresh first kind))
consistent-fresh touch first kind = tt

module _ (touch : Cell → Cell → Bool) (laws : Touching touch) where
  module _ (s : State) (b : Batch) (ok : Ok touch s) (yes : Accepts touch s b) where
    abbrev o : Occupancy
    o = s.occupancy

    abbrev o' : Occupancy
    o' = play_batch touch b o

    -- What holds of it whether or not it is within number.
    steady' : Steady touch (accepted_by touch s b)
    steady' = accepted-steady touch laws s (steady-of touch s ok) b

    net : Since o o'
    net = net-exact touch b o ok.sound

    sizes : (length o'.newly_occupied ≤ length (occupied o')) × (length o'.newly_emptied ≤ length (occupied o))
    sizes = net-sizes touch b o ok.sound

    within' : Within touch o'
    within' = unbroken-within touch (events b) (start_batch o) yes.unbroken (record { entities = ok.few-entities; cells = ok.few-cells })

    -- The net lists by their members.
    opened_out : {a : Cell} → Mem a o'.newly_occupied → Mem a (occupied o') × (Mem a (occupied o) → ⊥)
    opened_out {a} m =
        let r = keep_out (λ c. not (has same (occupied o) c)) (occupied o') (subst (λ l. Mem a l) net.opened m) in
        (r.0, of-hasnt cells (occupied o) r.1)

    emptied-out : {a : Cell} → Mem a o'.newly_emptied → Mem a (occupied o) × (Mem a (occupied o') → ⊥)
    emptied-out {a} m =
        let r = keep_out (λ c. not (has same (occupied o') c)) (occupied o) (subst (λ l. Mem a l) net.emptied m) in
        (r.0, of-hasnt cells (occupied o') r.1)

    inside : Inside cell_in_range o'
    inside = net-inside touch cell_in_range b o ok.range-entities (λ c m. let r = value_out b.moves m in all-out (λ (p : ℕ × Cell). cell_in_range p.1) b.moves yes.in-range r.1)

    -- What an accepted batch leaves.
    pub accepted-ok : Ok touch (accepted_by touch s b)
    unfolding accepted_by
    accepted-ok =
        record {
          sound = steady'.sound;
          few-entities = within'.entities;
          few-cells = within'.cells;
          id-cells = steady'.id_cells;
          shared = shared_of touch (accepted_by touch s b).groups steady'.fine;
          records-are = steady'.shown;
          under = λ g m. let r = value_out (accepted_by touch s b).groups.ids m in steady'.fine.under (steady'.fine.fair (r.0, g) r.1);
          range-entities = λ c m. inside.stood m;
          range-occupied = λ c m. inside.opened m;
          range-emptied = λ c m. inside.emptied m;
          asc-occupied = net.opened-ascends;
          asc-emptied = net.emptied-ascends;
          few-occupied = let w = within'.cells in let z = sizes.0 in omega arith;
          few-emptied = let w = ok.few-cells in let z = sizes.1 in omega arith;
          in-occupied = λ c m. (opened_out m).0;
          not-emptied = λ c m. (emptied-out m).1;
        }

  -- An accepted update of a consistent state is consistent.
  pub consistent-update : (s : State) (b : Batch) → T (consistent_by touch s) → (update_by touch s b).0 ≡ 0 → T (consistent_by touch (update_by touch s b).1)
  consistent-update s b t e =
      let u = update-accepted touch s b e in
      subst (λ x. T (consistent_by touch x)) (sym u.1)
      (ok_in touch laws.flip (accepted_by touch s b) (accepted-ok s b (ok_out touch laws.flip s t) (accepts touch s b u.0)))

  -- Every state that is reached from a fresh one is consistent.
  pub consistent-reached : {s : State} → ReachedBy touch s → T (consistent_by touch s)
  consistent-reached (start first kind) = consistent-fresh touch first kind
  consistent-reached (next {s} b r e) = consistent-update s b (consistent-reached r) e

-- For every set of offsets that holds the opposite of each of its members.
pub consistent-by : (offsets : Offsets) → T (holds_opposites offsets) → {s : State} → ReachedBy (touch_by offsets) s → T (consistent_by (touch_by offsets) s)
consistent-by offsets ok = consistent-reached (touch_by offsets) (touching-by offsets ok)

-- For all 26.
pub consistent-26 : {s : State} → ReachedBy (touch_by all26) s → T (consistent_by (touch_by all26) s)
consistent-26 = consistent-by all26 tt
