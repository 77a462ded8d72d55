-- What a cell that opens or closes asks of the tables, and how it leaves them.
use Prim.Native.Nat.{ℕ}
use mathlib.Core.Path.{◌≡◌}
use mathlib.Core.Bool.{true, false, cond}
use mathlib.Core.List.{List, [], ◌∷◌}
use Rattle.component.specs.Laws.Adjacent.{range-room}
use native.Mathlib.Omega.{arith}
use Rattle.model.specs.Lists.{has, keys, put, drop_key, change}
use Rattle.model.specs.Cells.{Cell, same, below, touch_at}
use Rattle.model.specs.Occupancy.{Occupancy, open_cell, close_cell}
use Rattle.layout.specs.Widths.{cell_width, net_width}
use Rattle.layout.specs.Rows.{neighbour_of}
use Rattle.table.specs.Rows.{cell, table4, stored4, is_table4}
use Rattle.map.specs.declared.Counts.{Counts}
use Rattle.map.specs.Told.{TableIs, of_kind, told, noted}
use Rattle.map.specs.Held.{Stored, Opens, Closes}
use Rattle.map.specs.Laws.Shown.{Shown, shown-stored, stored-shown, occupied-room, open-masks, drop-masks, close-masks, nets-crossed}

module _ {kind : ℕ} {cells occ emp : List ℕ} {n : Counts} {c : Cell} {o : Occupancy} where
  module _ (h : Opens kind cells occ emp n c o) where
    -- The words show what stands in them.
    pub opens-shown : Shown cells occ emp n o
    opens-shown = stored-shown o h.placed cells occ emp n h.stored

    -- The cell is open.
    pub opened-stored : (len : ℕ) {told-cells cells' occ' emp' : List ℕ} {w : ℕ} {r : Counts}
        → w ≡ noted (of_kind kind) (keys (table4 cell_width n.cells cells)) (neighbour_of c) 26
        → TableIs cell cell_width n.cells told-cells (change (told (of_kind kind) true (neighbour_of c) 26) (table4 cell_width n.cells cells))
        → (r.cells, cells') ≡ stored4 len (put below c (w ∷ []) (table4 cell_width n.cells told-cells))
        → (TableIs cell net_width r.emptied emp' (drop_key same c (table4 net_width n.emptied emp)))
        × (TableIs cell net_width r.occupied occ' (cond (has same (keys (table4 net_width n.emptied emp)) c) (table4 net_width n.occupied occ) (put below c [] (table4 net_width n.occupied occ))))
        → Stored cells' occ' emp' r (open_cell (touch_at kind) c o)
    opened-stored len {told-cells} {cells'} {occ'} {emp'} {w} {r} e t q x =
        let y = opens-shown in
        let z = nets-crossed c o.newly_emptied o.newly_occupied n.emptied n.occupied emp occ y.emptied y.opened r.emptied r.occupied emp' occ' x in
        shown-stored cells' occ' emp' r (open_cell (touch_at kind) c o)
        (record {
          masks = open-masks o h.placed c n.cells cells y.masks (range-room 1 c (omega arith) h.ranged) told-cells cells' len r.cells w e t q;
          opened = z.1;
          emptied = z.0;
        })

  module _ (h : Closes kind cells occ emp n c o) where
    -- The words show what stands in them.
    pub closes-shown : Shown cells occ emp n o
    closes-shown = stored-shown o h.placed cells occ emp n h.stored

    -- The row is gone.
    pub closes-gone : (len : ℕ) {gone : List ℕ} {k : ℕ} → (k, gone) ≡ stored4 len (drop_key same c (table4 cell_width n.cells cells)) → is_table4 cell_width k gone ≡ true
    closes-gone len {gone} {k} q = (drop-masks o h.placed c n.cells cells closes-shown.masks gone len k q).table

    -- The cell is closed.
    pub closed-stored : (len : ℕ) {gone cells' occ' emp' : List ℕ} {r : Counts}
        → (r.cells, gone) ≡ stored4 len (drop_key same c (table4 cell_width n.cells cells))
        → TableIs cell cell_width r.cells cells' (change (told (of_kind kind) false (neighbour_of c) 26) (table4 cell_width r.cells gone))
        → (TableIs cell net_width r.occupied occ' (drop_key same c (table4 net_width n.occupied occ)))
        × (TableIs cell net_width r.emptied emp' (cond (has same (keys (table4 net_width n.occupied occ)) c) (table4 net_width n.emptied emp) (put below c [] (table4 net_width n.emptied emp))))
        → Stored cells' occ' emp' r (close_cell (touch_at kind) c o)
    closed-stored len {gone} {cells'} {occ'} {emp'} {r} q t x =
        let y = closes-shown in
        let z = nets-crossed c o.newly_occupied o.newly_emptied n.occupied n.emptied occ emp y.opened y.emptied r.occupied r.emptied occ' emp' x in
        shown-stored cells' occ' emp' r (close_cell (touch_at kind) c o)
        (record {
          masks = close-masks o h.placed c n.cells cells y.masks (occupied-room o h.placed c h.taken) gone cells' len r.cells q t;
          opened = z.0;
          emptied = z.1;
        })
