-- What the words of the map show, before and after a cell opens or closes.
use Rattle.std.specs.Prelude.{ℕ, ◌≡◌, refl, true, false, cond, length}
use Rattle.std.proofs.Common.{arith, ap, ◌∙◌, subst}
use Rattle.std.proofs.Math.Path.{sym}
use mathlib.Core.List.{List, [], ◌∷◌, Memᴰ as Mem}
use Rattle.component.specs.Adjacent.{has_room}
use Rattle.component.specs.Laws.Adjacent.{range-room}
use Rattle.model.specs.Lists.{each, has, add, without, keys, put, drop_key, change}
use Rattle.model.specs.Cells.{Cell, same, below, cell_in_range, touch_at}
use Rattle.model.specs.Masks.{mask_of}
use Rattle.model.specs.Occupancy.{Occupancy, occupied, open_cell, close_cell}
use Rattle.model.proofs.Laws.Tests.{true_of}
use Rattle.model.proofs.Laws.Members.{each-length}
use Rattle.model.specs.Facts.{Asc}
use Rattle.model.proofs.Laws.Occupied.{occupied-asc, occupied-out}
use Rattle.layout.specs.Widths.{cell_width, net_width}
use Rattle.layout.specs.Rows.{neighbour_of, id_row, net_row, cells_image, net_image}
use Rattle.layout.proofs.Laws.Rows.{ids-wide, nets-wide}
use Rattle.table.specs.Rows.{cell, table4, stored4}
use Rattle.table.specs.Laws.Kinds.{cell-lawful}
use Rattle.table.specs.Laws.Next.{put_next, drop-next}
use Rattle.map.specs.declared.Counts.{Counts}
use Rattle.map.specs.Told.{TableIs, of_kind, told, noted}
use Rattle.map.specs.Held.{Placed, Stored}
use Rattle.map.specs.Laws.Each.{keys-each, put-each, drop-each, image-shows, shows-image, shows-count, shows-fit}
use Rattle.map.specs.Laws.Near.{noted-mask}
use Rattle.map.specs.Laws.Open.{rule_of, masks-told, masks-joined, masks-left, net-keys, net-left, net-joined}

-- The words show the masks and both net lists.
pub record Shown (cells occ emp : List ℕ) (n : Counts) (o : Occupancy) : Type 0 where
  pub masks : TableIs cell cell_width n.cells cells (each id_row o.masks)
  pub opened : TableIs cell net_width n.occupied occ (each net_row o.newly_occupied)
  pub emptied : TableIs cell net_width n.emptied emp (each net_row o.newly_emptied)

-- Words that show them are their words.
pub shown-stored : (cells occ emp : List ℕ) (n : Counts) (o : Occupancy) → Shown cells occ emp n o → Stored cells occ emp n o
unfolding cells_image net_image
shown-stored cells occ emp n o x =
    record {
      masks = shows-image cell cell-lawful cell_width n.cells cells (each id_row o.masks) x.masks;
      opened = shows-image cell cell-lawful net_width n.occupied occ (each net_row o.newly_occupied) x.opened;
      emptied = shows-image cell cell-lawful net_width n.emptied emp (each net_row o.newly_emptied) x.emptied;
      cells_count = shows-count cell cell-lawful cell_width n.cells cells (each id_row o.masks) x.masks ∙ each-length id_row o.masks;
      occupied-count = shows-count cell cell-lawful net_width n.occupied occ (each net_row o.newly_occupied) x.opened ∙ each-length net_row o.newly_occupied;
      emptied-count = shows-count cell cell-lawful net_width n.emptied emp (each net_row o.newly_emptied) x.emptied ∙ each-length net_row o.newly_emptied;
      cells_fit = shows-fit cell cell-lawful cell_width n.cells cells (each id_row o.masks) x.masks;
      occupied-fit = shows-fit cell cell-lawful net_width n.occupied occ (each net_row o.newly_occupied) x.opened;
      emptied-fit = shows-fit cell cell-lawful net_width n.emptied emp (each net_row o.newly_emptied) x.emptied;
    }

-- The words of a net list show it.
net-shows : (s : List ℕ) (n : ℕ) (l : List Cell) → s ≡ net_image (length s) l → n ≡ length l → Asc below l → TableIs cell net_width n s (each net_row l)
unfolding net_image
net-shows s n l e c a =
    image-shows cell cell-lawful net_width n s (each net_row l) e (c ∙ sym (each-length net_row l)) (omega arith) (nets-wide l) (subst (Asc below) (sym (net-keys l)) a)

module _ {kind : ℕ} (o : Occupancy) (ok : Placed kind o) where
  -- An occupied cell is in range, so its block has room.
  pub occupied-room : (c : Cell) → Mem c (occupied o) → has_room 1 c ≡ true
  occupied-room c m = range-room 1 c (omega arith) (true_of (cell_in_range c) (ok.inside.stood (occupied-out (touch_at kind) o ok.sound m)))

  -- The occupied cells ascend.
  pub placed-asc : Asc below (occupied o)
  placed-asc = occupied-asc (touch_at kind) o ok.sound

  masks-shows : (s : List ℕ) (n : ℕ) → s ≡ cells_image (length s) o.masks → n ≡ length o.masks → TableIs cell cell_width n s (each id_row o.masks)
  unfolding cells_image
  masks-shows s n e c =
      image-shows cell cell-lawful cell_width n s (each id_row o.masks) e (c ∙ sym (each-length id_row o.masks)) (omega arith)
      (ids-wide o.masks)
      (subst (Asc below) (sym (keys-each (λ d m. m ∷ []) o.masks)) placed-asc)

  -- Their words show them.
  pub stored-shown : (cells occ emp : List ℕ) (n : Counts) → Stored cells occ emp n o → Shown cells occ emp n o
  stored-shown cells occ emp n x =
      record {
        masks = masks-shows cells n.cells x.masks x.cells_count;
        opened = net-shows occ n.occupied o.newly_occupied x.opened x.occupied-count ok.opened-asc;
        emptied = net-shows emp n.emptied o.newly_emptied x.emptied x.emptied-count ok.emptied-asc;
      }

  module _ (c : Cell) (m : ℕ) (cells : List ℕ) (x : TableIs cell cell_width m cells (each id_row o.masks)) where
    -- The table of masks after c opens.
    pub open-masks : has_room 1 c ≡ true → (told-cells after : List ℕ) (len k w : ℕ)
        → w ≡ noted (of_kind kind) (keys (table4 cell_width m cells)) (neighbour_of c) 26
        → TableIs cell cell_width m told-cells (change (told (of_kind kind) true (neighbour_of c) 26) (table4 cell_width m cells))
        → (k, after) ≡ stored4 len (put below c (w ∷ []) (table4 cell_width m told-cells))
        → TableIs cell cell_width k after (each id_row (open_cell (touch_at kind) c o).masks)
    open-masks room told-cells after len k w e y q =
        let v : ℕ = mask_of (touch_at kind) (occupied o) c in
        let f : w ≡ v = e ∙ ap (λ (l : List Cell). noted (of_kind kind) l (neighbour_of c) 26) (ap keys x.is ∙ keys-each (λ d n. n ∷ []) o.masks) ∙ noted-mask kind c room (occupied o) in
        let g : change (told (of_kind kind) true (neighbour_of c) 26) (table4 cell_width m cells) ≡ each id_row (change (rule_of kind true c) o.masks) =
        ap (change (told (of_kind kind) true (neighbour_of c) 26)) x.is ∙ masks-told kind true c room o.masks in
        let nx = put_next cell cell_width cell-lawful m told-cells y.table len k after c (w ∷ []) refl q in
        record {
          table = nx.0;
          is = nx.1
              ∙ (λ i. put below c (f i ∷ []) ((y.is ∙ g) i))
              ∙ put-each (λ d n. n ∷ []) below c v (change (rule_of kind true c) o.masks)
              ∙ ap (each id_row) (ap (λ (t : List (Cell × ℕ)). put below c v (change (rule_of kind true c) t)) ok.sound.exact ∙ sym (masks-joined kind (occupied o) c));
        }

    -- The table of masks after the row of c went out.
    pub drop-masks : (gone : List ℕ) (len k : ℕ) → (k, gone) ≡ stored4 len (drop_key same c (table4 cell_width m cells)) → TableIs cell cell_width k gone (each id_row (drop_key same c o.masks))
    drop-masks gone len k q =
        let nx = drop-next cell cell_width cell-lawful m cells x.table len k gone c q in
        record { table = nx.0; is = nx.1 ∙ ap (drop_key same c) x.is ∙ drop-each (λ d n. n ∷ []) same c o.masks }

    -- The table of masks after c closes.
    pub close-masks : has_room 1 c ≡ true → (gone after : List ℕ) (len k : ℕ) → (k, gone) ≡ stored4 len (drop_key same c (table4 cell_width m cells))
        → TableIs cell cell_width k after (change (told (of_kind kind) false (neighbour_of c) 26) (table4 cell_width k gone))
        → TableIs cell cell_width k after (each id_row (close_cell (touch_at kind) c o).masks)
    close-masks room gone after len k q y =
        record {
          table = y.table;
          is = y.is ∙ ap (change (told (of_kind kind) false (neighbour_of c) 26)) (drop-masks gone len k q).is
              ∙ masks-told kind false c room (drop_key same c o.masks)
              ∙ ap (each id_row) (ap (λ (t : List (Cell × ℕ)). change (rule_of kind false c) (drop_key same c t)) ok.sound.exact ∙ sym (masks-left kind (occupied o) c));
        }

-- Both net lists after a cell leaves the one or joins the other.
pub nets-crossed : (c : Cell) (from to : List Cell) (n m : ℕ) (s t : List ℕ) → TableIs cell net_width n s (each net_row from) → TableIs cell net_width m t (each net_row to)
    → (r j : ℕ) (s' t' : List ℕ)
    → (TableIs cell net_width r s' (drop_key same c (table4 net_width n s))) × (TableIs cell net_width j t' (cond (has same (keys (table4 net_width n s)) c) (table4 net_width m t) (put below c [] (table4 net_width m t))))
    → (TableIs cell net_width r s' (each net_row (without same c from))) × (TableIs cell net_width j t' (each net_row (cond (has same from c) to (add below c to))))
nets-crossed c from to n m s t x y r j s' t' z = (
  record { table = z.0.table; is = z.0.is ∙ net-left c from to (table4 net_width n s) x.is },
  record { table = z.1.table; is = z.1.is ∙ net-joined c from to (table4 net_width n s) (table4 net_width m t) x.is y.is },
)
