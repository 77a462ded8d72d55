-- The words of a consistent state: what stands where, and how long each part is.
use Rattle.std.specs.Prelude.{ℕ, ◌≡◌, true, T, length, drop}
use Rattle.std.proofs.Common.{sym, ap, ◌∙◌, subst, take-append-drop}
use mathlib.Core.List.{List, ◌++◌, Memᴰ as Mem}
use Rattle.model.specs.Facts.{Ok}
use Rattle.model.specs.Lists.{values}
use Rattle.model.specs.Cells.{Cell, cell_in_range}
use Rattle.model.specs.Occupancy.{occupied}
use Rattle.model.specs.Update.{State, touch_of}
use Rattle.model.specs.Consistent.{kind_known}
use Rattle.model.proofs.Laws.Orders.{cells}
use Rattle.model.proofs.Laws.Sorted.{ascending-out}
use Rattle.model.proofs.Laws.Tests.{and-fst, and-snd, and_both}
use Rattle.model.proofs.Laws.Consistency.{ok_in, ok_out}
use Rattle.model.proofs.Theorems.Kinds.{touching-of}
use Rattle.layout.specs.Rows.{entities_image, cells_image, net_image, ids_image, groups_image}
use Rattle.layout.specs.State.{entities_len, cells_len, net_len, ids_len, groups_len, state_len, decode}
use Rattle.layout.specs.Points.{long_enough, consistent_words}
use Rattle.layout.specs.Facts.{Fits, BeginsWith}
use Rattle.layout.proofs.Laws.Images.{entities-laws, cells-laws, net-laws, ids-laws, groups-laws}
use Rattle.layout.proofs.Laws.Lengths.{entities-room, cells-room, net-room, ids-room, groups-room}
use Rattle.layout.proofs.Laws.Fitting.{consistent-fits}
use Rattle.layout.proofs.Laws.Standing.{image-stands}
use Rattle.layout.proofs.Theorems.Canonical.{consistent-image}
use Rattle.updating.specs.Known.{Known}

-- Consistent words that are long enough.
pub known : (w : List ℕ) → consistent_words w ≡ true → long_enough w ≡ true → Known w
known w e l =
    let c = consistent-image w e l in
    let f : Fits (decode w) = consistent-fits (decode w) c.0 in
    record {
      long = l;
      stands = subst (BeginsWith (decode w)) (ap (λ (v : List ℕ). v ++ drop state_len w) (sym c.1) ∙ take-append-drop state_len w) (image-stands (decode w) f (drop state_len w));
      fits = f;
      kind-known = and-fst (kind_known (decode w)) _ c.0;
      ok = ok_out (touch_of (decode w)) (touching-of (decode w)).flip (decode w) (and-snd (kind_known (decode w)) _ c.0);
    }

module _ (w : List ℕ) (k : Known w) where
  -- An occupied cell is in range.
  pub occupied-ranged : (c : Cell) → Mem c (occupied (decode w).occupancy) → T (cell_in_range c)
  occupied-ranged c m =
      k.ok.range-entities c (ascending-out cells (values (decode w).occupancy.entities) (subst (λ l. Mem c l) k.ok.sound.cells m))

-- How long each image of a state that fits is.
module _ (s : State) (f : Fits s) where
  pub entities-long : length (entities_image entities_len s.occupancy.entities) ≡ entities_len
  entities-long = entities-laws.long entities_len s.occupancy.entities (λ a m. tt) (entities-room (length s.occupancy.entities) f.entities)

  pub cells-long : length (cells_image cells_len s.occupancy.masks) ≡ cells_len
  cells-long = cells-laws.long cells_len s.occupancy.masks (λ a m. tt) (cells-room (length s.occupancy.masks) f.cells)

  pub opened-long : length (net_image net_len s.occupancy.newly_occupied) ≡ net_len
  opened-long = net-laws.long net_len s.occupancy.newly_occupied (λ a m. tt) (net-room (length s.occupancy.newly_occupied) f.newly-occupied)

  pub emptied-long : length (net_image net_len s.occupancy.newly_emptied) ≡ net_len
  emptied-long = net-laws.long net_len s.occupancy.newly_emptied (λ a m. tt) (net-room (length s.occupancy.newly_emptied) f.newly-emptied)

  pub ids-long : length (ids_image ids_len s.groups.ids) ≡ ids_len
  ids-long = ids-laws.long ids_len s.groups.ids (λ a m. tt) (ids-room (length s.groups.ids) f.ids)

  pub groups-long : length (groups_image groups_len s.records) ≡ groups_len
  groups-long = groups-laws.long groups_len s.records (λ a m. tt) (groups-room (length s.records) f.groups)

-- A state of a known kind of which all facts hold fits.
pub ok-fits : (s : State) → T (kind_known s) → Ok (touch_of s) s → Fits s
ok-fits s t ok = consistent-fits s (and_both (kind_known s) _ t (ok_in (touch_of s) (touching-of s).flip s ok))
