-- What holds of a state after every accepted batch: occupancy is sound, the cells with an id are the occupied cells, the cells of a
-- group are those that paths join, and the group records are those of the ids.
use Rattle.std.specs.Prelude.{ℕ, ◌≡◌, refl, ◌⊎◌, Bool}
use Rattle.std.proofs.Common.{sym, subst, inl, inr, ⊎_elim}
use mathlib.Core.List.Memᴰ.{not-nil as mem-nil}
use mathlib.Core.List.{[], Memᴰ as Mem}
use Rattle.model.specs.Facts.{Asc, In, Free, Sound, Net}
use Rattle.model.specs.Lists.{keys}
use Rattle.model.specs.Cells.{Cell, same, below}
use Rattle.model.specs.Occupancy.{Occupancy, Batch, occupied, play_batch}
use Rattle.model.specs.Groups.{records}
use Rattle.model.specs.Update.{State, fresh, accepted_by}
use Rattle.model.proofs.Laws.Orders.{cells}
use Rattle.model.proofs.Laws.Members.{mem-or}
use Rattle.model.proofs.Laws.Sorted.{keep-asc, asc-equal}
use Rattle.model.proofs.Laws.Tables.{at-nil, at_key, key-at, free-key}
use Rattle.model.proofs.Laws.Touching.{Touching}
use Rattle.model.proofs.Laws.Minus.{minus-in, minus-out}
use Rattle.model.proofs.Laws.Occupied.{nothing-sound, batch-sound, occupied-asc}
use Rattle.model.proofs.Laws.Net.{batch-net}
use Rattle.model.proofs.Laws.Fine.{Fine}
use Rattle.model.proofs.Laws.Keys.{regroup-asc}
use Rattle.model.proofs.Laws.Regroup.{regroup-fine, regroup-in, regroup-out}

pub record Steady (touch : Cell → Cell → Bool) (s : State) : Type 0 where
  pub sound : Sound touch s.occupancy
  pub fine : Fine touch [] s.groups
  pub id_cells : keys s.groups.ids ≡ occupied s.occupancy
  pub shown : s.records ≡ records s.occupancy.entities s.groups.ids

module _ (touch : Cell → Cell → Bool) where
  -- A fresh state.
  pub fresh-steady : (first kind : ℕ) → Steady touch (fresh first kind)
  fresh-steady first kind =
      record {
        sound = nothing-sound touch;
        fine = record { fair = λ q m. absurd (mem-nil m); under = λ p. absurd (at-nil p); edge = λ p q t. absurd (at-nil p); joined = λ p q n. absurd (at-nil p) };
        id_cells = refl;
        shown = refl;
      }

  -- The cells with an id are ascending.
  pub ids-asc : (s : State) → Steady touch s → Asc below (keys s.groups.ids)
  ids-asc s ok = subst (Asc below) (sym ok.id_cells) (occupied-asc touch s.occupancy ok.sound)

  module _ (laws : Touching touch) (s : State) (ok : Steady touch s) (b : Batch) where
    -- The occupancy after the batch.
    abbrev after : Occupancy
    after = play_batch touch b s.occupancy

    -- The net lists are the difference since the batch began.
    net : Net (occupied s.occupancy) after
    net = batch-net touch b s.occupancy ok.sound

    -- The newly occupied cells are ascending.
    pub opened-asc : Asc below (play_batch touch b s.occupancy).newly_occupied
    opened-asc = subst (Asc below) (sym net.opened) (keep-asc _ _ (occupied-asc touch after (batch-sound touch b s.occupancy ok.sound)))

    -- The newly occupied cells have no id yet.
    pub opened-free : (c : Cell) → Mem c (play_batch touch b s.occupancy).newly_occupied → Free same s.groups.ids c
    opened-free c m =
        free-key cells s.groups.ids (λ k. (minus-out cells (occupied after) (occupied s.occupancy) (subst (λ l. Mem c l) net.opened m)).1 (subst (λ l. Mem c l) ok.id_cells k))

    -- After an accepted batch.
    pub accepted-steady : Steady touch (accepted_by touch s b)
    unfolding accepted_by
    accepted-steady =
        record {
          sound = sound';
          fine = regroup-fine touch laws.flip after.newly_occupied after.newly_emptied s.groups ok.fine opened-asc opened-free;
          id_cells =
              asc-equal cells _ _ (regroup-asc touch after.newly_occupied after.newly_emptied s.groups (ids-asc s ok)) (occupied-asc touch after sound')
              (λ a m. old a (regroup-out touch after.newly_occupied after.newly_emptied s.groups (key-at cells _ m)))
              (λ a m. at_key cells _ (regroup-in touch after.newly_occupied after.newly_emptied s.groups (new a m) (λ k. (minus-out cells (occupied s.occupancy) (occupied after) (subst (λ l. Mem a l) net.emptied k)).1 m)).1);
          shown = refl;
        }
      where
        sound' : Sound touch after
        sound' = batch-sound touch b s.occupancy ok.sound

        old : (a : Cell) → (Mem a after.newly_occupied ⊎ In same s.groups.ids a) × (Mem a after.newly_emptied → ⊥) → Mem a (occupied after)
        old a r =
            ⊎_elim (λ m. (minus-out cells (occupied after) (occupied s.occupancy) (subst (λ l. Mem a l) net.opened m)).0)
            (λ d. ⊎_elim (λ m. m) (λ n. absurd (r.1 (subst (λ l. Mem a l) (sym net.emptied) (minus-in cells (occupied after) (subst (λ l. Mem a l) ok.id_cells (at_key cells s.groups.ids d.1)) n)))) (mem-or cells a (occupied after)))
            r.0

        new : (a : Cell) → Mem a (occupied after) → Mem a after.newly_occupied ⊎ In same s.groups.ids a
        new a m =
            ⊎_elim (λ k. inr (key-at cells s.groups.ids (subst (λ l. Mem a l) (sym ok.id_cells) k)))
            (λ n. inl (subst (λ l. Mem a l) (sym net.opened) (minus-in cells (occupied s.occupancy) m n)))
            (mem-or cells a (occupied s.occupancy))
