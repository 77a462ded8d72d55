-- What an entity that enters, leaves or moves asks of the whole map, and how it leaves it.
use Prim.Native.Nat.{ℕ, suc, ◌≤◌, ◌<◌}
use native.Mathlib.Omega.{arith}
use mathlib.Core.Path.{◌≡◌, refl, sym, ap, ◌∙◌, subst}
use mathlib.Core.Bool.{Bool, true, false, cond, not}
use mathlib.Core.List.{List}
use lib.Dec.{eqb, ltb}
use lib.ListN.{length}
use Rattle.model.specs.Lists.{each, put, drop_key, without}
use Rattle.model.specs.Cells.{Cell, same, touch_at}
use Rattle.model.specs.Occupancy.{Occupancy, occupied, stands_in, with_entities, close_cell, enter, leave}
use Rattle.model.proofs.Laws.Orders.{numbers}
use Rattle.model.proofs.Laws.Members.{each-length, keep-shorter}
use Rattle.model.specs.Facts.{Asc}
use Rattle.model.proofs.Laws.Tables.{keys_length, free_of, get-drop-self, put-length-new, put-length-old, drop-length}
use Rattle.model.proofs.Laws.Occupied.{occupied-leave}
use Rattle.layout.specs.Widths.{entity_width}
use Rattle.layout.specs.Rows.{entity_row, entities_image}
use Rattle.layout.proofs.Laws.Rows.{entities-wide}
use Rattle.table.specs.Rows.{number, cell_words, table1, stored1, has_room1}
use Rattle.table.specs.Laws.Kinds.{number-lawful}
use Rattle.table.specs.Laws.Next.{room-space, put_next, drop-next}
use Rattle.map.specs.declared.Counts.{Counts}
use Rattle.map.specs.Told.{TableIs}
use Rattle.map.specs.Held.{Held, Peopled, Enters, EntersCell, Leaves, LeavesCell, Moves}
use Rattle.map.specs.Laws.Each.{keys-each, put-each, drop-each, image-shows, shows-image, shows-count, shows-fit}
use Rattle.map.specs.Laws.Crowd.{put-over}
use Rattle.map.proofs.Passing.{counting, stored-but}

-- The words behind the key of an entity's row.
abbrev stood : ℕ → Cell → List ℕ
stood e c = cell_words c

-- The tables of cells do not look at the number of entities.
peopled-but : {kind : ℕ} {cells crowd occ emp : List ℕ} {n : Counts} (a : ℕ) (o : Occupancy) → Peopled kind cells crowd occ emp n o → Peopled kind cells crowd occ emp (counting a n) o
peopled-but a o h =
    record { crowd-is = h.crowd-is; crowd-fit = h.crowd-fit; stored = stored-but a o.entities o h.stored; placed = h.placed }

-- With words that show the entities, the tables of cells hold the map.
hold : {kind : ℕ} {ents cells crowd occ emp : List ℕ} {r : Counts} (a : ℕ) (o : Occupancy) → TableIs number entity_width a ents (each entity_row o.entities) → r.entities ≡ a → Peopled kind cells crowd occ emp r o
    → Held kind ents cells crowd occ emp r o
unfolding entities_image
hold {kind} {ents} {cells} {crowd} {occ} {emp} {r} a o x f h =
    record {
      entities-is = shows-image number number-lawful entity_width a ents (each entity_row o.entities) x;
      entities-count = f ∙ shows-count number number-lawful entity_width a ents (each entity_row o.entities) x ∙ each-length entity_row o.entities;
      entities-fit = omega (arith, shows-fit number number-lawful entity_width a ents (each entity_row o.entities) x);
      crowd-is = h.crowd-is;
      crowd-fit = h.crowd-fit;
      stored = h.stored;
      placed = h.placed;
    }

-- The map at the same kind, with the same entities.
pub same-held : {kind kind' : ℕ} {ents ents' cells crowd occ emp : List ℕ} {n : Counts} {o : Occupancy} → kind' ≡ kind → ents' ≡ ents → Held kind ents cells crowd occ emp n o → Held kind' ents' cells crowd occ emp n o
same-held {kind} {kind'} {ents} {ents'} {cells} {crowd} {occ} {emp} {n} {o} p q h = subst (λ (x : ℕ × List ℕ). Held x.0 x.1 cells crowd occ emp n o) (λ i. (sym p i, sym q i)) h

-- A cell can be entered at the same kind.
pub same-enters : {kind kind' : ℕ} {cells crowd occ emp : List ℕ} {n : Counts} {e : ℕ} {c : Cell} {o : Occupancy} → kind' ≡ kind → EntersCell kind cells crowd occ emp n e c o → EntersCell kind' cells crowd occ emp n e c o
same-enters {kind} {kind'} {cells} {crowd} {occ} {emp} {n} {e} {c} {o} p h = subst (λ (k : ℕ). EntersCell k cells crowd occ emp n e c o) (sym p) h

module _ {kind : ℕ} {ents cells crowd occ emp : List ℕ} {n : Counts} {o : Occupancy} (h : Held kind ents cells crowd occ emp n o) where
  peopled-of : Peopled kind cells crowd occ emp n o
  peopled-of = record { crowd-is = h.crowd-is; crowd-fit = h.crowd-fit; stored = h.stored; placed = h.placed }

  -- The words show the entities.
  pub ents-shows : TableIs number entity_width n.entities ents (each entity_row o.entities)
  unfolding entities_image
  ents-shows =
      image-shows number number-lawful entity_width n.entities ents (each entity_row o.entities) h.entities-is (h.entities-count ∙ sym (each-length entity_row o.entities)) (omega arith)
      (entities-wide o.entities) (subst (Asc ltb) (sym (keys-each stood o.entities)) h.placed.sound.asc)

  module _ (e : ℕ) {ents' : List ℕ} {a : ℕ} where
    -- They show them after the row of e says c.
    ents-put : (c : Cell) → (a, ents') ≡ stored1 (length ents) (put ltb e (cell_words c) (table1 entity_width n.entities ents)) → TableIs number entity_width a ents' (each entity_row (put ltb e c o.entities))
    ents-put c p =
        let s = ents-shows in
        let y = put_next number entity_width number-lawful n.entities ents s.table (length ents) a ents' e (cell_words c) refl p in
        record { table = y.0; is = y.1 ∙ ap (put ltb e (cell_words c)) s.is ∙ put-each stood ltb e c o.entities }

    -- And after the row of e is gone.
    ents-gone : (a, ents') ≡ stored1 (length ents) (drop_key eqb e (table1 entity_width n.entities ents)) → TableIs number entity_width a ents' (each entity_row (drop_key eqb e o.entities))
    ents-gone p =
        let s = ents-shows in
        let y = drop-next number entity_width number-lawful n.entities ents s.table (length ents) a ents' e p in
        record { table = y.0; is = y.1 ∙ ap (drop_key eqb e) s.is ∙ drop-each stood eqb e o.entities }

module _ {kind : ℕ} {ents cells crowd occ emp : List ℕ} {n : Counts} {e : ℕ} {c : Cell} {o : Occupancy} where
  module _ (h : Enters kind ents cells crowd occ emp n e c o) {ents' : List ℕ} {a : ℕ} (p : (a, ents') ≡ stored1 (length ents) (put ltb e (cell_words c) (table1 entity_width n.entities ents))) where
    -- An entity that is counted can enter its cell.
    pub enters-cell : EntersCell kind cells crowd occ emp (counting a n) e c o
    enters-cell =
        let x = ents-put h.held e c p in
        let l : a ≡ suc (length o.entities) =
        shows-count number number-lawful entity_width a ents' (each entity_row (put ltb e c o.entities)) x ∙ each-length entity_row (put ltb e c o.entities)
        ∙ put-length-new numbers o.entities e c h.free in
        record {
          peopled = peopled-but a o (peopled-of h.held);
          free = h.free;
          counts = omega arith;
          ranged = h.ranged;
          crowd-room = h.space.crowd-room;
          opening = record { cells-room = h.space.opening.cells-room; occupied-room = h.space.opening.occupied-room };
        }

    -- The entity has entered.
    pub entered-held : {cells' crowd' occ' emp' : List ℕ} {r : Counts} → r.entities ≡ a → Peopled kind cells' crowd' occ' emp' r (enter (touch_at kind) e c o)
        → Held kind ents' cells' crowd' occ' emp' r (enter (touch_at kind) e c o)
    entered-held f x =
        hold a (enter (touch_at kind) e c o) (ents-put h.held e c p) f x

  module _ (h : Leaves kind ents cells crowd occ emp n e c o) where
    -- The entity can leave its cell, whatever number is counted.
    pub leaves-cell : (a : ℕ) → LeavesCell kind cells crowd occ emp (counting a n) e c o
    leaves-cell a = record { peopled = peopled-but a o (peopled-of h.held); stands = h.stands; space = h.space }

    -- The entity has left.
    pub left-held : {ents' : List ℕ} {a : ℕ} → (a, ents') ≡ stored1 (length ents) (drop_key eqb e (table1 entity_width n.entities ents)) → {cells' crowd' occ' emp' : List ℕ} {r : Counts} → r.entities ≡ a
        → Peopled kind cells' crowd' occ' emp' r (leave (touch_at kind) e c o) → Held kind ents' cells' crowd' occ' emp' r (leave (touch_at kind) e c o)
    left-held {ents'} {a} p f x =
        hold a (leave (touch_at kind) e c o) (ents-gone h.held e p) f x

module _ (kind : ℕ) (o : Occupancy) (e : ℕ) (d : Cell) where
  -- To leave makes no list longer.
  opened-shorter : length (leave (touch_at kind) e d o).newly_occupied ≤ length o.newly_occupied
  opened-shorter = go (stands_in (drop_key eqb e o.entities) d)
    where
      go : (b : Bool) → length (with_entities (drop_key eqb e o.entities) (cond b o (close_cell (touch_at kind) d o))).newly_occupied ≤ length o.newly_occupied
      go true = omega arith
      go false = keep-shorter (λ c. not (same d c)) o.newly_occupied

  lists-shorter : length (leave (touch_at kind) e d o).masks ≤ length o.masks
  lists-shorter =
      omega (arith, keys_length (leave (touch_at kind) e d o).masks, keys_length o.masks, ap length (occupied-leave (touch_at kind) e d o), go (stands_in (drop_key eqb e o.entities) d))
    where
      go : (b : Bool) → length (cond b (occupied o) (without same d (occupied o))) ≤ length (occupied o)
      go true = omega arith
      go false = keep-shorter (λ c. not (same d c)) (occupied o)

module _ {kind : ℕ} {ents cells crowd occ emp : List ℕ} {n : Counts} {e : ℕ} {d c : Cell} {o : Occupancy} (h : Moves kind ents cells crowd occ emp n e d c o) where
  -- The words show the entities, and there is room for the row.
  pub moves-shows : TableIs number entity_width n.entities ents (each entity_row o.entities)
  moves-shows = ents-shows h.leaving.held

  pub moves-room : has_room1 entity_width n.entities ents e ≡ true
  moves-room = room-space number entity_width n.entities ents e h.space.entities-room

  -- The entity can leave its cell.
  pub moves-leaves : LeavesCell kind cells crowd occ emp n e d o
  moves-leaves = record { peopled = peopled-of h.leaving.held; stands = h.leaving.stands; space = h.leaving.space }

  module _ {cells' crowd' occ' emp' : List ℕ} {r : Counts} (f : r.entities ≡ n.entities) where
    -- Once it has, it can enter the other.
    pub moves-enters : length cells' ≡ length cells → length crowd' ≡ length crowd → length occ' ≡ length occ → Peopled kind cells' crowd' occ' emp' r (leave (touch_at kind) e d o)
        → EntersCell kind cells' crowd' occ' emp' r e c (leave (touch_at kind) e d o)
    moves-enters l1 l2 l3 x =
        let k = h.leaving.held in
        let g = drop-length numbers o.entities e k.placed.sound.asc (d, h.leaving.stands) in
        let m : length (drop_key eqb e o.entities) < r.entities = omega (arith, k.entities-count) in
        let i : r.cells ≤ n.cells = omega (arith, x.stored.cells_count, k.stored.cells_count, lists-shorter kind o e d) in
        let j : r.occupied ≤ n.occupied = omega (arith, x.stored.occupied-count, k.stored.occupied-count, opened-shorter kind o e d) in
        record {
          peopled = x;
          free = free_of (drop_key eqb e o.entities) e (get-drop-self numbers o.entities e);
          counts = m;
          ranged = h.ranged;
          crowd-room = omega (arith, h.space.crowd-room);
          opening = record { cells-room = omega (arith, h.space.opening.cells-room); occupied-room = omega (arith, h.space.opening.occupied-room) };
        }

    -- Its row says the other, and it stands there.
    pub moved-held : {ents' : List ℕ} {a : ℕ} → (a, ents') ≡ stored1 (length ents) (put ltb e (cell_words c) (table1 entity_width n.entities ents))
        → Peopled kind cells' crowd' occ' emp' r (enter (touch_at kind) e c (leave (touch_at kind) e d o)) → Held kind ents' cells' crowd' occ' emp' r (enter (touch_at kind) e c (leave (touch_at kind) e d o))
    moved-held {ents'} {a} p x =
        let k = h.leaving.held in
        let t = o.entities in
        let y = ents-put k e c p in
        let l : a ≡ length t =
        shows-count number number-lawful entity_width a ents' (each entity_row (put ltb e c t)) y ∙ each-length entity_row (put ltb e c t)
        ∙ put-length-old numbers t e c k.placed.sound.asc (d, h.leaving.stands) in
        hold a (enter (touch_at kind) e c (leave (touch_at kind) e d o))
        (subst (λ (u : List (ℕ × Cell)). TableIs number entity_width a ents' (each entity_row u)) (sym (put-over numbers t e c k.placed.sound.asc)) y)
        (f ∙ k.entities-count ∙ sym l) x
