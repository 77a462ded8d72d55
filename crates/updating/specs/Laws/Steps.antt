-- From the words of a consistent state to its tables.
use Rattle.std.specs.Prelude.{ℕ, ◌*◌, ◌≤◌, ◌<◌, ◌≡◌, refl, Bool, replicate}
use Rattle.std.proofs.Common.{arith, ◌∙◌}
use Rattle.std.proofs.Math.Path.{sym, ap, subst}
use mathlib.Core.List.Memᴰ.{not-nil as mem-nil}
use mathlib.Core.List.{List, Memᴰ as Mem}
use Rattle.std.proofs.Math.ListN.{length, take}
use Rattle.std.proofs.lemmas.List.{length-replicate}
use Rattle.model.specs.Lists.{keys, values}
use Rattle.model.specs.Cells.{Cell, below}
use Rattle.model.specs.Occupancy.{Occupancy, Batch, occupied, start_batch, play_batch}
use Rattle.model.specs.Groups.{regroup}
use Rattle.model.specs.Update.{State, most_cells, touch_of, accepted_by, accepted}
use Rattle.model.proofs.Laws.Orders.{cells}
use Rattle.model.proofs.Laws.Minus.{minus-self}
use Rattle.model.specs.Facts.{Asc, nil, Sound, Ok}
use Rattle.model.proofs.Laws.Tables.{keys_length}
use Rattle.model.proofs.Laws.Occupied.{start-sound, occupied-asc}
use Rattle.model.proofs.Laws.Accepted.{Accepts, accepts, update-accepted}
use Rattle.model.proofs.Laws.Consistency.{ok_in}
use Rattle.model.proofs.Theorems.StaysConsistent.{accepted-ok}
use Rattle.model.proofs.Theorems.UpdateIds.{next_fits}
use Rattle.model.proofs.Theorems.Kinds.{touching-of}
use Rattle.table.specs.Moves.{over}
use Rattle.layout.specs.Widths.{crowd_width}
use Rattle.layout.specs.Rows.{entities_image, cells_image, ids_image, entities_in, ids_in}
use Rattle.layout.specs.State.{entities_len, cells_len, net_len, ids_len, groups_len, decode, entity_words, cell_words, id_words, cell_count, id_count, next_id, kind_of}
use Rattle.layout.proofs.Laws.Images.{net-laws, ids-laws}
use Rattle.layout.proofs.Laws.Lengths.{ids-room}
use Rattle.map.specs.declared.Counts.{Counts}
use Rattle.map.specs.Held.{tally, crowd_of}
use Rattle.map.specs.Laws.Crowd.{crowd-keys}
use Rattle.map.specs.Laws.Tally.{crowd-of-words}
use Rattle.partition.specs.Held.{HeldIds, HeldCells}
use Rattle.batch_events.specs.Playing.{Roomy, Ready}
use Rattle.regrouping.specs.Regrouping.{Counted, Regroups}
use Rattle.updating.specs.Known.{Known}
use Rattle.updating.specs.Laws.Counts.{crowd-values}
use Rattle.updating.specs.Laws.Known.{entities-long, cells-long, ids-long, occupied-ranged}
use Rattle.updating.specs.Laws.Longer.{Extends, entities-extend, cells-extend, ids-extend, loaded}
use Rattle.updating.specs.Steps.{Blank, entity_space, cell_space, crowd_space, net_space, id_space, group_space, Opened, CanRegroup, Finishes}

-- Zeros are all zero.
pub zeros-blank : (n : ℕ) → Blank (replicate n 0)
zeros-blank n = ap (λ (m : ℕ). replicate m 0) (sym (length-replicate {A = ℕ} n 0))

-- The words of a state's table fit where its most rows and one more do.
pub entities-spare : entities_len ≤ entity_space
unfolding entities_len
entities-spare = omega arith

pub cells-spare : cells_len ≤ cell_space
unfolding cells_len
cells-spare = omega arith

pub net-spare : net_len ≤ net_space
unfolding net_len
net-spare = omega arith

pub ids-spare : ids_len ≤ id_space
unfolding ids_len
ids-spare = omega arith

pub groups-spare : groups_len ≤ group_space
unfolding groups_len
groups-spare = omega arith

-- The words of a table, written over zeros.
part-loaded : {A : Type 0} {image : ℕ → List A → List ℕ} (ext : Extends image) (t : List A) (len : ℕ) → length (image len t) ≡ len
    → (zeros : List ℕ) → Blank zeros → len ≤ length zeros → (row : List ℕ) → row ≡ image len t → (s : List ℕ) → s ≡ over zeros 0 row → length s ≡ length zeros → s ≡ image (length s) t
part-loaded {A} {image} ext t len long zeros z h row q s g l = g ∙ loaded ext t len long zeros row z q h ∙ ap (λ (m : ℕ). image m t) (sym l)

module _ (w : List ℕ) (k : Known w) (zeros : List ℕ) (z : Blank zeros) (row s : List ℕ) (e : s ≡ over zeros 0 row) (l : length s ≡ length zeros) where
  -- The entities, copied out.
  pub entities-loaded : row ≡ entity_words w → entities_len ≤ length zeros → s ≡ entities_image (length s) (decode w).occupancy.entities
  entities-loaded q h =
      part-loaded entities-extend (decode w).occupancy.entities entities_len (entities-long (decode w) k.fits) zeros z h row (q ∙ k.stands.entity-words) s e l

  -- The occupied cells, copied out.
  pub cells-loaded : row ≡ cell_words w → cells_len ≤ length zeros → s ≡ cells_image (length s) (decode w).occupancy.masks
  cells-loaded q h =
      part-loaded cells-extend (decode w).occupancy.masks cells_len (cells-long (decode w) k.fits) zeros z h row (q ∙ k.stands.cell-words) s e l

  -- The cells with an id, copied out.
  pub ids-loaded : row ≡ id_words w → ids_len ≤ length zeros → s ≡ ids_image (length s) (decode w).groups.ids
  ids-loaded q h =
      part-loaded ids-extend (decode w).groups.ids ids_len (ids-long (decode w) k.fits) zeros z h row (q ∙ k.stands.id-words) s e l

-- The crowd has a row for each occupied cell.
crowd-length : (touch : Cell → Cell → Bool) (o : Occupancy) → Sound touch o → length (crowd_of o) ≡ length (occupied o)
crowd-length touch o ok = sym (keys_length (crowd_of o)) ∙ ap length (crowd-keys touch o ok)

module _ (w : List ℕ) (k : Known w) where
  abbrev o : Occupancy
  o = (decode w).occupancy

  module _ (n : ℕ) (c : n ≡ length o.entities) (ents : List ℕ) (e : ents ≡ entities_image (length ents) o.entities) where
    -- What stands in each cell is the crowd.
    crowd-is : tally (entities_in n ents) ≡ crowd_of o
    crowd-is = crowd-of-words (touch_of (decode w)) o k.ok.sound n ents e c

    -- There is room for the crowd.
    pub crowd-room : (m : ℕ) → crowd_width * most_cells ≤ m → crowd_width * length (tally (entities_in n ents)) ≤ m
    crowd-room m h = omega (arith, h, ap length crowd-is, crowd-length (touch_of (decode w)) o k.ok.sound, k.ok.few-cells)

    -- The map is copied out.
    pub map-opened : (cels : List ℕ) → cels ≡ cells_image (length cels) o.masks → (blank crowd : List ℕ) → length crowd ≡ length blank → crowd ≡ ids_image (length blank) (tally (entities_in n ents))
        → (r : Counts) → r.entities ≡ n → r.cells ≡ cell_count w → r.occupied ≡ 0 → r.emptied ≡ 0 → Opened w ents cels crowd r
    map-opened cels d blank crowd l g r x y z u =
        record {
          entities-are = e;
          masks-are = d;
          crowd-is = g ∙ (λ i. ids_image (sym l i) (crowd-is i));
          entities-count = x ∙ c;
          cells_count = y ∙ k.stands.cell-count;
          occupied-none = z;
          emptied-none = u;
        }

  -- A map that is copied out, with empty net lists, is ready for the events of a batch.
  pub opened-ready : (ents cels crowd occ emp : List ℕ) (n : Counts) → Opened w ents cels crowd n → Blank occ → Blank emp → Roomy ents cels crowd occ emp → Ready (decode w).kind ents cels crowd occ emp n (occupied o) (start_batch o)
  unfolding crowd_of
  opened-ready ents cels crowd occ emp n x z y r =
      let few : length o.masks ≤ most_cells = omega (arith, k.ok.few-cells, keys_length o.masks) in
      record {
        held = record {
          entities-is = x.entities-are;
          entities-count = x.entities-count;
          entities-fit = omega (arith, x.entities-count, k.ok.few-entities, r.ents-room);
          crowd-is = x.crowd-is;
          crowd-fit = omega (arith, x.cells_count, few, r.crowd-room);
          stored = record {
            masks = x.masks-are;
            opened = z ∙ sym (net-laws.none (length occ));
            emptied = y ∙ sym (net-laws.none (length emp));
            cells_count = x.cells_count;
            occupied-count = x.occupied-none;
            emptied-count = x.emptied-none;
            cells_fit = omega (arith, x.cells_count, few, r.cells-room);
            occupied-fit = omega (arith, x.occupied-none);
            emptied-fit = omega (arith, x.emptied-none);
          };
          placed = record {
            sound = start-sound (touch_of (decode w)) o k.ok.sound;
            inside = record { stood = λ {c = a} m. k.ok.range-entities a m; opened = λ m. absurd (mem-nil m); emptied = λ m. absurd (mem-nil m) };
            opened-asc = nil;
            emptied-asc = nil;
            opened_in = λ a m. absurd (mem-nil m);
            emptied-out = λ a m. absurd (mem-nil m);
          };
        };
        within = record { entities = k.ok.few-entities; cells = k.ok.few-cells };
        was-asc = occupied-asc (touch_of (decode w)) o k.ok.sound;
        was-few = k.ok.few-cells;
        net = record { opened = sym (minus-self cells (occupied o)); emptied = sym (minus-self cells (occupied o)) };
        room = r;
      }

  -- The cells with an id, as the rules take them.
  pub ids-held : (n : ℕ) (next : ℕ) (ids : List ℕ) → n ≡ id_count w → next ≡ next_id w → ids_len ≤ length ids → ids ≡ ids_image (length ids) (decode w).groups.ids → HeldIds ids n next (decode w).groups
  ids-held n next ids c x h e =
      record {
        rows = record {
          image = e;
          count = c ∙ k.stands.id-count;
          asc = subst (Asc below) (sym k.ok.id-cells) (occupied-asc (touch_of (decode w)) o k.ok.sound);
          ranged = λ a m. occupied-ranged w k a (subst (λ l. Mem a l) k.ok.id-cells m);
          fits = omega (arith, c, k.stands.id-count, ids-room (length (decode w).groups.ids) k.fits.ids, h);
        };
        is-next = x ∙ k.stands.next-id;
      }

-- A batch that is accepted, its events played.
module _ {w ents cels crowd occ emp : List ℕ} {n : Counts} {b : Batch} (f : Finishes w ents cels crowd occ emp n b) where
  abbrev s : State
  s = decode w

  abbrev p : Occupancy
  p = play_batch (touch_of s) b s.occupancy

  yes : Accepts (touch_of s) s b
  yes = accepts (touch_of s) s b (update-accepted (touch_of s) s b f.accepted).0

  -- What it leaves is consistent.
  pub after-ok : Ok (touch_of s) (accepted s b)
  after-ok = accepted-ok (touch_of s) (touching-of s) s b f.known.ok yes

  -- The newly occupied cells, as the rules take them.
  opened-held : HeldCells occ n.occupied p.newly_occupied
  opened-held =
      record {
        image = f.ready.held.stored.opened;
        count = f.ready.held.stored.occupied-count;
        asc = f.ready.held.placed.opened-asc;
        ranged = λ c m. f.ready.held.placed.inside.opened m;
        fits = f.ready.held.stored.occupied-fit;
      }

  -- The newly emptied cells, as the rules take them.
  emptied-held : HeldCells emp n.emptied p.newly_emptied
  emptied-held =
      record {
        image = f.ready.held.stored.emptied;
        count = f.ready.held.stored.emptied-count;
        asc = f.ready.held.placed.emptied-asc;
        ranged = λ c m. f.ready.held.placed.inside.emptied m;
        fits = f.ready.held.stored.emptied-fit;
      }

  -- There are few cells with an id afterwards.
  few-after : length (regroup (touch_of s) p.newly_occupied p.newly_emptied s.groups).ids ≤ most_cells
  unfolding accepted_by
  few-after =
      omega (arith, after-ok.few-cells, ap length after-ok.id-cells, keys_length (regroup (touch_of s) p.newly_occupied p.newly_emptied s.groups).ids)

  -- The next id is a number of 64 bits afterwards.
  next-after : (regroup (touch_of s) p.newly_occupied p.newly_emptied s.groups).next < 18446744073709551616
  unfolding accepted_by
  next-after =
      subst (λ (u : State). u.groups.next < 18446744073709551616) (update-accepted (touch_of s) s b f.accepted).1
      (next_fits (touch_of s) (touching-of s) s (ok_in (touch_of s) (touching-of s).flip s f.known.ok) b f.accepted)

  -- There are few newly occupied cells.
  opened-few : n.occupied ≤ most_cells
  unfolding accepted_by
  opened-few = omega (arith, f.ready.held.stored.occupied-count, after-ok.few-occupied)

  -- There are rows of the crowd for the cells, and few of them.
  pub crowd-fits : (crowd_width * n.cells ≤ length crowd) × (n.cells ≤ most_cells)
  unfolding accepted_by
  crowd-fits = (f.ready.held.crowd-fit, omega (arith, f.ready.held.stored.cells_count, keys_length p.masks, after-ok.few-cells))

  -- The rows of the crowd are the crowd.
  crowd-read : ids_in n.cells crowd ≡ crowd_of p
  crowd-read =
      let c : n.cells ≡ length (crowd_of p) = f.ready.held.stored.cells_count ∙ sym (keys_length p.masks) ∙ sym (crowd-length (touch_of s) p f.ready.held.placed.sound) in
      (λ i. ids_in (c i) (f.ready.held.crowd-is i)) ∙ ids-laws.read (length crowd) (crowd_of p) (λ a m. tt)

  -- The numbers of the crowd count the entities in each cell that has an id afterwards.
  counted-after : (counts : List ℕ) → take n.cells counts ≡ values (ids_in n.cells crowd)
      → Counted counts p.entities (keys (regroup (touch_of s) p.newly_occupied p.newly_emptied s.groups).ids)
  unfolding accepted_by
  counted-after counts e =
      subst (Counted counts p.entities) (sym after-ok.id-cells)
      (ap (λ (m : ℕ). take m counts) (keys_length p.masks ∙ sym f.ready.held.stored.cells_count) ∙ e ∙ ap values crowd-read ∙ crowd-values p)

  -- The groups can be regrouped.
  pub finish-regroups : (ids counts groups : List ℕ) → Blank ids → id_space ≤ length ids → take n.cells counts ≡ values (ids_in n.cells crowd) → Blank groups → group_space ≤ length groups → (kind : ℕ) → kind ≡ kind_of w
      → CanRegroup kind w ids counts groups occ n.occupied emp n.emptied p.newly_occupied p.newly_emptied p.entities
  finish-regroups ids counts groups z h t y g kind is =
      subst (λ (j : ℕ). CanRegroup j w ids counts groups occ n.occupied emp n.emptied p.newly_occupied p.newly_emptied p.entities) (sym (is ∙ f.known.stands.kind-is))
      (record {
        known = f.known;
        ids-blank = z;
        ids-room = h;
        groups-blank = y;
        groups-room = g;
        opened = opened-held;
        opened-few = opened-few;
        emptied = emptied-held;
        few = few-after;
        next-room = omega (arith, opened-few, yes.ids-left);
        next_fits = next-after;
        counted = counted-after counts t;
        few-entities = f.ready.within.entities;
      })

-- The cells with an id, copied out, can be regrouped.
pub regroup-ready : {kind : ℕ} {w ids counts groups occ : List ℕ} {p : ℕ} {emp : List ℕ} {m : ℕ} {o e : List Cell} {entities : List (ℕ × Cell)} → CanRegroup kind w ids counts groups occ p emp m o e entities
    → (row words : List ℕ) → row ≡ id_words w → words ≡ over ids 0 row → length words ≡ length ids → (n : ℕ) → n ≡ id_count w → Regroups kind words n (next_id w) counts groups occ p emp m (decode w).groups o e entities
regroup-ready {kind} {w} {ids} {counts} {groups} {occ} {p} {emp} {m} {o} {e} {entities} x row words q g l n c =
    let k = x.known in
    let h : ids_len ≤ length ids = omega (arith, x.ids-room, ids-spare) in
    let r = ids-room (length (decode w).groups.ids) k.fits.ids in
    record {
      held = ids-held w k n (next_id w) words c refl (omega (arith, h, l)) (ids-loaded w k ids x.ids-blank row words g l q h);
      opened = x.opened;
      emptied = x.emptied;
      ids-room = omega (arith, c, k.stands.id-count, r, x.opened-few, x.ids-room, l);
      groups-blank = x.groups-blank;
      groups-room = x.groups-room;
      few = x.few;
      next-room = omega (arith, x.next-room, k.stands.next-id);
      next_fits = x.next_fits;
      counted = x.counted;
      few-entities = omega (arith, x.few-entities);
    }

-- The map of a state and empty net lists, each table with a row to spare.
pub map-ready : (w : List ℕ) (k : Known w) (ents cels crowd occ emp : List ℕ) (n : Counts) → Opened w ents cels crowd n
    → length ents ≡ entity_space → length cels ≡ cell_space → length crowd ≡ crowd_space → Blank occ → length occ ≡ net_space → Blank emp → length emp ≡ net_space
    → Ready (kind_of w) ents cels crowd occ emp n (occupied (decode w).occupancy) (start_batch (decode w).occupancy)
map-ready w k ents cels crowd occ emp n x a b c z d y e =
    subst (λ (j : ℕ). Ready j ents cels crowd occ emp n (occupied (decode w).occupancy) (start_batch (decode w).occupancy)) (sym k.stands.kind-is)
    (opened-ready w k ents cels crowd occ emp n x z y
    (record { ents-room = omega (arith, a); cells-room = omega (arith, b); crowd-room = omega (arith, c); occ-room = omega (arith, d); emp-room = omega (arith, e) }))
