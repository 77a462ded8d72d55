-- After every batch the net lists, the masks and their sizes are exact.
use Rattle.std.specs.Prelude.{◌≤◌, ◌≡◌, Bool, not, T, length}
use Rattle.std.proofs.Common.{arith, sym, subst}
use mathlib.Core.List.Memᴰ.{not-nil as mem-nil}
use mathlib.Core.List.{List, [], ◌∷◌, Memᴰ as Mem}
use Rattle.model.specs.Facts.{Asc, Sound, Net, Inside}
use Rattle.model.specs.Lists.{keep, has, run, values}
use Rattle.model.specs.Cells.{Cell, same, below}
use Rattle.model.specs.Occupancy.{Occupancy, Batch, events, nothing, occupied, start_batch, play_batch}
use Rattle.model.specs.Masks.{masked}
use Rattle.model.proofs.Laws.Members.{keep-shorter}
use Rattle.model.proofs.Laws.Sorted.{keep-asc}
use Rattle.model.proofs.Laws.Occupied.{nothing-sound, batch-sound, occupied-asc, events-keep}
use Rattle.model.proofs.Laws.Net.{batch-net, plays-gains, Gains, EntersIn, pass-inside, trace-in, events-in}

-- The net lists of `now` since `was`: exactly the cells occupied now and not before, and exactly those occupied before and not now,
-- both strictly ascending.
pub record Since (was now : Occupancy) : Type 0 where
  pub opened : now.newly_occupied ≡ keep (λ c. not (has same (occupied was) c)) (occupied now)
  pub emptied : now.newly_emptied ≡ keep (λ c. not (has same (occupied now) c)) (occupied was)
  pub opened-ascends : Asc below now.newly_occupied
  pub emptied-ascends : Asc below now.newly_emptied

module _ (touch : Cell → Cell → Bool) where
  -- Every history of batches leads to a sound occupancy.
  pub history-sound : (bs : List Batch) → Sound touch (run (λ o b. play_batch touch b o) nothing bs)
  history-sound bs = from bs nothing (nothing-sound touch)
    where
      from : (bs : List Batch) (o : Occupancy) → Sound touch o → Sound touch (run (λ o b. play_batch touch b o) o bs)
      from [] o ok = ok
      from (b ∷ bs) o ok = from bs (play_batch touch b o) (batch-sound touch b o ok)

  module _ (b : Batch) (o : Occupancy) (ok : Sound touch o) where
    -- After a batch the net lists are the difference since it began.
    pub net-exact : Since o (play_batch touch b o)
    net-exact =
        let net : Net (occupied o) (play_batch touch b o) = batch-net touch b o ok in
        record {
          opened = net.opened;
          emptied = net.emptied;
          opened-ascends = subst (Asc below) (sym net.opened) (keep-asc _ _ (occupied-asc touch _ (batch-sound touch b o ok)));
          emptied-ascends = subst (Asc below) (sym net.emptied) (keep-asc _ _ (occupied-asc touch o ok));
        }

    -- After a batch the mask of each occupied cell has exactly the bits of touching occupied cells.
    pub masks-exact : (play_batch touch b o).masks ≡ masked touch (occupied (play_batch touch b o))
    masks-exact = (batch-sound touch b o ok).exact

    -- There are no more newly occupied cells than occupied ones, and no more newly emptied cells than were occupied.
    pub net-sizes : (length (play_batch touch b o).newly_occupied ≤ length (occupied (play_batch touch b o))) × (length (play_batch touch b o).newly_emptied ≤ length (occupied o))
    net-sizes = (
      subst (λ l. length l ≤ length (occupied (play_batch touch b o))) (sym net-exact.opened) (keep-shorter _ (occupied (play_batch touch b o))),
      subst (λ l. length l ≤ length (occupied o)) (sym net-exact.emptied) (keep-shorter _ (occupied o)),
    )

-- Neither net list is longer than the batch has events.
pub net-events : (touch : Cell → Cell → Bool) (b : Batch) (o : Occupancy) → (length (play_batch touch b o).newly_occupied ≤ length (events b)) × (length (play_batch touch b o).newly_emptied ≤ length (events b))
net-events touch b o =
    let g : Gains (start_batch o) (play_batch touch b o) (length (events b)) (length (events b)) = plays-gains touch (start_batch o) (events b) in
    (omega (arith, g.opened), omega (arith, g.emptied))

-- If all entities stand in R and all moves go to R, then all entities stand in R after the batch, and both net lists are in R.
pub net-inside : (touch : Cell → Cell → Bool) (R : Cell → Bool) (b : Batch) (o : Occupancy) → ((c : Cell) → Mem c (values o.entities) → T (R c)) → ((c : Cell) → Mem c (values b.moves) → T (R c)) → Inside R (play_batch touch b o)
net-inside touch R b o f g =
    events-keep touch (Inside R) (EntersIn R) (pass-inside touch R) (start_batch o) (events b)
    (trace-in touch R (start_batch o) (events b) (events-in R b g))
    (record { stood = λ {c} m. f c m; opened = λ m. absurd (mem-nil m); emptied = λ m. absurd (mem-nil m) })
