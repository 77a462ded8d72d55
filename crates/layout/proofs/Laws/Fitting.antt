-- A consistent state fits into its words.
use Rattle.std.specs.Prelude.{ℕ, ◌≤◌, ◌≡◌, true, T, length}
use Rattle.std.proofs.Common.{arith, ap, subst}
use mathlib.Core.List.{List, Memᴰ as Mem}
use Rattle.component.specs.Adjacent.{has_room}
use Rattle.component.specs.Laws.Adjacent.{range-room}
use Rattle.model.specs.Facts.{Ok}
use Rattle.model.specs.Lists.{values, ascending}
use Rattle.model.specs.Cells.{Cell, below, cell_in_range}
use Rattle.model.specs.Occupancy.{occupied}
use Rattle.model.specs.Groups.{Ids, records}
use Rattle.model.specs.Update.{State, most_cells, touch_of}
use Rattle.model.specs.Consistent.{consistent_by, kind_known, consistent}
use Rattle.model.proofs.Laws.Tests.{true_of, and-snd}
use Rattle.model.proofs.Laws.Orders.{numbers, cells}
use Rattle.model.proofs.Laws.Members.{each-length}
use Rattle.model.proofs.Laws.Sorted.{ascending-length, ascending-out}
use Rattle.model.proofs.Laws.Tables.{keys_length}
use Rattle.model.proofs.Laws.Records.{records-keys}
use Rattle.model.proofs.Laws.Kinds.{kind-touching}
use Rattle.model.proofs.Laws.Consistency.{ok_out}
use Rattle.layout.specs.Facts.{Fits}

-- There are no more group records than cells with an id.
records-few : (entities : List (ℕ × Cell)) (ids : Ids) → length (records entities ids) ≤ length ids
records-few entities ids =
    let a = keys_length (records entities ids) in
    let b = ap length (records-keys entities ids) in
    omega (arith, ascending-length numbers (values ids), each-length (λ (p : Cell × ℕ). p.1) ids)

module _ (s : State) (ok : Ok (touch_of s) s) where
  -- An occupied cell has room.
  pub occupied-room : (c : Cell) → Mem c (occupied s.occupancy) → has_room 1 c ≡ true
  occupied-room c m =
      let k : Mem c (ascending below (values s.occupancy.entities)) = subst (λ l. Mem c l) ok.sound.cells m in
      range-room 1 c (omega arith) (true_of (cell_in_range c) (ok.range-entities c (ascending-out cells (values s.occupancy.entities) k)))

  ok-fits : Fits s
  ok-fits =
      let few : length s.occupancy.masks ≤ most_cells = omega (arith, keys_length s.occupancy.masks, ok.few-cells) in
      let ids : length s.groups.ids ≤ most_cells = omega (arith, keys_length s.groups.ids, keys_length s.occupancy.masks, ap length ok.id-cells) in
      record {
        entities = ok.few-entities;
        cells = few;
        newly-occupied = ok.few-occupied;
        newly-emptied = ok.few-emptied;
        ids = ids;
        groups = omega (arith, records-few s.occupancy.entities s.groups.ids, ap length ok.records-are);
      }

-- A consistent state fits.
pub consistent-fits : (s : State) → T (consistent s) → Fits s
consistent-fits s t = ok-fits s (ok_out (touch_of s) (kind-touching s.kind).flip s (and-snd (kind_known s) (consistent_by (touch_of s) s) t))
