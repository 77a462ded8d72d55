-- What an entity that enters or leaves a cell asks of the tables of cells, and how it leaves them.
use Prim.Native.Nat.{ℕ, suc, ◌+◌, ◌-◌, ◌≤◌, ◌<◌}
use native.Mathlib.Numerals.{add-one}
use native.Mathlib.Omega.{arith}
use mathlib.Core.Path.{◌≡◌, refl, sym, ap, ◌∙◌, subst}
use mathlib.Core.Bool.{Bool, true, false, cond}
use mathlib.Core.List.{List, [], ◌∷◌, Memᴰ as Mem}
use lib.Dec.{eqb, ltb, lt→ltb}
use lib.ListN.{length}
use Rattle.model.specs.Lists.{each, keys, get, put, drop_key}
use Rattle.model.specs.Cells.{Cell, same, below, touch_at}
use Rattle.model.specs.Occupancy.{Occupancy, occupied, stands_in, with_entities, open_cell, close_cell, enter, leave}
use Rattle.model.specs.Crowd.{how_many}
use Rattle.model.proofs.Laws.Tests.{T_false, true_of, false_of, nltb-of}
use Rattle.model.proofs.Laws.Members.{each-length}
use Rattle.model.specs.Facts.{Asc}
use Rattle.model.proofs.Laws.Tables.{keys_length}
use Rattle.model.proofs.Laws.Occupied.{not-occupied, at-occupied, occupied-asc}
use Rattle.layout.specs.Widths.{crowd_width}
use Rattle.layout.specs.Rows.{id_row, ids_image}
use Rattle.layout.proofs.Laws.Rows.{ids-wide}
use Rattle.table.specs.Rows.{cell, table4, stored4, has_room4}
use Rattle.table.specs.Laws.Kinds.{cell-lawful}
use Rattle.table.specs.Laws.Next.{room-there, put_next, drop-next}
use Rattle.map.specs.declared.Counts.{Counts}
use Rattle.map.specs.Told.{TableIs}
use Rattle.map.specs.Held.{crowd_of, counted, Placed, Stored, Peopled, Opens, Closes, EntersCell, LeavesCell}
use Rattle.map.specs.Laws.Each.{keys-each, put-each, drop-each, image-shows, shows-image, shows-count, shows-fit}
use Rattle.map.specs.Laws.Crowd.{stands-counted, standing-few, crowd-keys, crowd-counted, crowd-enter, crowd-leave, crowd-close, last-leaves, other-stays}
use Rattle.map.specs.Laws.Placed.{enter-placed, leave-placed}

-- The words behind the key of a crowd's row.
abbrev number_of : Cell → ℕ → List ℕ
number_of c k = k ∷ []

-- The number of cells is that of the rows of the crowd.
crowd-length : {kind : ℕ} (o : Occupancy) → Placed kind o → length (each id_row (crowd_of o)) ≡ length o.masks
crowd-length {kind} o ok =
    each-length id_row (crowd_of o) ∙ sym (keys_length (crowd_of o)) ∙ ap length (crowd-keys (touch_at kind) o ok.sound) ∙ keys_length o.masks

-- The same counts with another number of entities.
abbrev pub counting : ℕ → Counts → Counts
counting a n = record { entities = a; cells = n.cells; occupied = n.occupied; emptied = n.emptied }

-- The lists look neither at the entities nor at their number.
pub stored-but : {cells occ emp : List ℕ} {n : Counts} (a : ℕ) (t : List (ℕ × Cell)) (o : Occupancy) → Stored cells occ emp n o → Stored cells occ emp (counting a n) (with_entities t o)
stored-but a t o x =
    record {
      masks = x.masks;
      opened = x.opened;
      emptied = x.emptied;
      cells_count = x.cells_count;
      occupied-count = x.occupied-count;
      emptied-count = x.emptied-count;
      cells_fit = x.cells_fit;
      occupied-fit = x.occupied-fit;
      emptied-fit = x.emptied-fit;
    }

-- Words that show all tables of cells.
people : {kind : ℕ} {cells crowd occ emp : List ℕ} {r : Counts} (o : Occupancy) → Placed kind o → {j : ℕ} → TableIs cell crowd_width j crowd (each id_row (crowd_of o)) → Stored cells occ emp r o
    → Peopled kind cells crowd occ emp r o
unfolding ids_image
people {kind} {cells} {crowd} {occ} {emp} {r} o ok {j} y z =
    let e : j ≡ r.cells = shows-count cell cell-lawful crowd_width j crowd (each id_row (crowd_of o)) y ∙ crowd-length o ok ∙ sym z.cells_count in
    record {
      crowd-is = shows-image cell cell-lawful crowd_width j crowd (each id_row (crowd_of o)) y;
      crowd-fit = omega (arith, shows-fit cell cell-lawful crowd_width j crowd (each id_row (crowd_of o)) y);
      stored = z;
      placed = ok;
    }

-- The tables of cells at the same kind, with the same crowd.
pub same-peopled : {kind kind' : ℕ} {cells crowd crowd' occ emp : List ℕ} {n : Counts} {o : Occupancy} → kind' ≡ kind → crowd' ≡ crowd → Peopled kind cells crowd occ emp n o → Peopled kind' cells crowd' occ emp n o
same-peopled {kind} {kind'} {cells} {crowd} {crowd'} {occ} {emp} {n} {o} p q h = subst (λ (x : ℕ × List ℕ). Peopled x.0 cells x.1 occ emp n o) (λ i. (sym p i, sym q i)) h

module _ {kind : ℕ} {cells crowd occ emp : List ℕ} {n : Counts} {o : Occupancy} (h : Peopled kind cells crowd occ emp n o) where
  -- The words show the crowd.
  pub crowd-shows : TableIs cell crowd_width n.cells crowd (each id_row (crowd_of o))
  unfolding ids_image
  crowd-shows =
      image-shows cell cell-lawful crowd_width n.cells crowd (each id_row (crowd_of o)) h.crowd-is (h.stored.cells_count ∙ sym (crowd-length o h.placed)) (omega arith)
      (ids-wide (crowd_of o)) (subst (Asc below) (sym (keys-each number_of (crowd_of o) ∙ crowd-keys (touch_at kind) o h.placed.sound)) (occupied-asc (touch_at kind) o h.placed.sound))

  -- The number that is found is the number that stand there.
  pub finds-standing : {k : ℕ} (c : Cell) → k ≡ counted (get same (table4 crowd_width n.cells crowd) c) → k ≡ how_many o.entities c
  finds-standing c e = e ∙ crowd-counted (touch_at kind) o h.placed.sound (table4 crowd_width n.cells crowd) c crowd-shows.is

module _ {kind : ℕ} {cells crowd occ emp : List ℕ} {n : Counts} {e : ℕ} {c : Cell} {o : Occupancy} where
  module _ (h : EntersCell kind cells crowd occ emp n e c o) where
    -- The number that stand in the cell fits, with one more.
    pub enters-fits : {k : ℕ} → k ≡ counted (get same (table4 crowd_width n.cells crowd) c) → k + 1 ≤ n.entities
    enters-fits {k} q = omega (arith, finds-standing h.peopled c q, standing-few o.entities c, h.counts)

    -- Nobody stands there.
    pub enters-nobody : {k : ℕ} → k ≡ counted (get same (table4 crowd_width n.cells crowd) c) → k ≡ 0 → stands_in o.entities c ≡ false
    enters-nobody {k} q z =
        let f : how_many o.entities c ≡ 0 = sym (finds-standing h.peopled c q) ∙ z in
        stands-counted o.entities c ∙ false_of (ltb 0 (how_many o.entities c)) (nltb-of 0 (how_many o.entities c) (omega arith))

    -- Somebody stands there.
    pub enters-somebody : {k : ℕ} → k ≡ counted (get same (table4 crowd_width n.cells crowd) c) → (k ≡ 0 → ⊥) → stands_in o.entities c ≡ true
    enters-somebody {k} q z =
        let f : k ≡ how_many o.entities c = finds-standing h.peopled c q in
        let g : 0 < how_many o.entities c = omega (arith, z) in
        stands-counted o.entities c ∙ true_of (ltb 0 (how_many o.entities c)) (lt→ltb 0 (how_many o.entities c) g)

    -- The cell can open.
    pub enters-opens : {k : ℕ} → k ≡ counted (get same (table4 crowd_width n.cells crowd) c) → k ≡ 0 → Opens kind cells occ emp n c o
    enters-opens {k} q z =
        record {
          placed = h.peopled.placed;
          stored = h.peopled.stored;
          vacant = not-occupied (touch_at kind) o h.peopled.placed.sound (T_false (enters-nobody q z));
          ranged = h.ranged;
          space = h.opening;
        }

    -- The entity has entered.
    pub entered : {cells' crowd' occ' emp' : List ℕ} {j k : ℕ} {r : Counts}
        → k ≡ counted (get same (table4 crowd_width n.cells crowd) c)
        → (j, crowd') ≡ stored4 (length crowd) (put below c ((k + 1) ∷ []) (table4 crowd_width n.cells crowd))
        → (b : Bool) → stands_in o.entities c ≡ b → Stored cells' occ' emp' r (cond b o (open_cell (touch_at kind) c o))
        → Peopled kind cells' crowd' occ' emp' r (enter (touch_at kind) e c o)
    entered {cells'} {crowd'} {occ'} {emp'} {j} {k} {r} q u b i x =
        let t = crowd-shows h.peopled in
        let z = put_next cell crowd_width cell-lawful n.cells crowd t.table (length crowd) j crowd' c ((k + 1) ∷ []) refl u in
        let g : k + 1 ≡ suc (how_many o.entities c) = add-one k ∙ ap suc (finds-standing h.peopled c q) in
        people (enter (touch_at kind) e c o) (enter-placed o h.peopled.placed e c h.free h.ranged)
        (record {
          table = z.0;
          is = z.1 ∙ (λ l. put below c (g l ∷ []) (t.is l)) ∙ put-each number_of below c (suc (how_many o.entities c)) (crowd_of o)
              ∙ ap (each id_row) (sym (crowd-enter (touch_at kind) o h.peopled.placed.sound e c h.free));
        })
        (stored-but r.entities (put ltb e c o.entities) (cond (stands_in o.entities c) o (open_cell (touch_at kind) c o))
        (subst (λ (v : Bool). Stored cells' occ' emp' r (cond v o (open_cell (touch_at kind) c o))) (sym i) x))

  module _ (h : LeavesCell kind cells crowd occ emp n e c o) where
    -- The cell is occupied.
    leaves-taken : Mem c (occupied o)
    leaves-taken = at-occupied (touch_at kind) o h.peopled.placed.sound h.stands

    -- The cell can close.
    pub leaves-closes : Closes kind cells occ emp n c o
    leaves-closes = record { placed = h.peopled.placed; stored = h.peopled.stored; taken = leaves-taken; space = h.space }

    -- The number of the cell can be put.
    pub leaves-room : has_room4 crowd_width n.cells crowd c ≡ true
    leaves-room =
        let t = crowd-shows h.peopled in
        room-there cell crowd_width cell-lawful n.cells crowd
        (subst (λ (l : List Cell). Mem c l) (sym (ap keys t.is ∙ keys-each number_of (crowd_of o) ∙ crowd-keys (touch_at kind) o h.peopled.placed.sound)) leaves-taken)

    module _ {cells' crowd' occ' emp' : List ℕ} {j k : ℕ} {r : Counts} (q : k ≡ counted (get same (table4 crowd_width n.cells crowd) c)) where
      -- The last entity has left, and the cell is closed.
      pub left-last : k ≤ 1 → (j, crowd') ≡ stored4 (length crowd) (drop_key same c (table4 crowd_width n.cells crowd)) → Stored cells' occ' emp' r (close_cell (touch_at kind) c o)
          → Peopled kind cells' crowd' occ' emp' r (leave (touch_at kind) e c o)
      left-last l u x =
          let t = crowd-shows h.peopled in
          let m : how_many o.entities c ≤ 1 = omega (arith, finds-standing h.peopled c q) in
          let z = drop-next cell crowd_width cell-lawful n.cells crowd t.table (length crowd) j crowd' c u in
          people (leave (touch_at kind) e c o) (leave-placed o h.peopled.placed e c h.stands)
          (record {
            table = z.0;
            is = z.1 ∙ ap (drop_key same c) t.is ∙ drop-each number_of same c (crowd_of o)
                ∙ ap (each id_row) (sym (crowd-close (touch_at kind) o h.peopled.placed.sound e c h.stands m));
          })
          (stored-but r.entities (drop_key eqb e o.entities) (cond (stands_in (drop_key eqb e o.entities) c) o (close_cell (touch_at kind) c o))
          (subst (λ (v : Bool). Stored cells' occ' emp' r (cond v o (close_cell (touch_at kind) c o))) (sym (last-leaves (touch_at kind) o h.peopled.placed.sound e c h.stands m)) x))

      -- The entity has left, and others stay.
      pub left-others : 1 < k → (j, crowd') ≡ stored4 (length crowd) (put below c ((k - 1) ∷ []) (table4 crowd_width n.cells crowd)) → Stored cells' occ' emp' r o
          → Peopled kind cells' crowd' occ' emp' r (leave (touch_at kind) e c o)
      left-others l u x =
          let t = crowd-shows h.peopled in
          let w = finds-standing h.peopled c q in
          let m : how_many o.entities c ≡ suc (suc (k - 2)) = omega arith in
          let g : k - 1 ≡ suc (k - 2) = omega arith in
          let v : 1 < how_many o.entities c = omega arith in
          let z = put_next cell crowd_width cell-lawful n.cells crowd t.table (length crowd) j crowd' c ((k - 1) ∷ []) refl u in
          people (leave (touch_at kind) e c o) (leave-placed o h.peopled.placed e c h.stands)
          (record {
            table = z.0;
            is = z.1 ∙ (λ i. put below c (g i ∷ []) (t.is i)) ∙ put-each number_of below c (suc (k - 2)) (crowd_of o)
                ∙ ap (each id_row) (sym (crowd-leave (touch_at kind) o h.peopled.placed.sound e c h.stands (k - 2) m));
          })
          (stored-but r.entities (drop_key eqb e o.entities) (cond (stands_in (drop_key eqb e o.entities) c) o (close_cell (touch_at kind) c o))
          (subst (λ (b : Bool). Stored cells' occ' emp' r (cond b o (close_cell (touch_at kind) c o))) (sym (other-stays (touch_at kind) o h.peopled.placed.sound e c h.stands v)) x))
