-- What the steps of an update leave in memory.
use Rattle.std.specs.Prelude.{ℕ, suc, ◌+◌, ◌-◌, ◌*◌, ◌≤◌, ◌<◌, ◌≡◌, List, ◌∷◌, length, replicate}
use Rattle.model.specs.Lists.{keys}
use Rattle.model.specs.Cells.{Cell, touch_at}
use Rattle.model.specs.Occupancy.{Batch, occupied, play_batch}
use Rattle.model.specs.Groups.{regroup}
use Rattle.model.specs.Update.{most_entities, most_cells, touch_of, update}
use Rattle.layout.specs.Widths.{header_len, spare, entity_width, cell_width, net_width, id_width, group_width, crowd_width}
use Rattle.layout.specs.Rows.{entities_image, cells_image, ids_image}
use Rattle.layout.specs.State.{decode}
use Rattle.map.specs.declared.Counts.{Counts}
use Rattle.map.specs.declared.Tables.{Tables}
use Rattle.map.specs.Held.{crowd_of}
use Rattle.partition.specs.Held.{HeldCells}
use Rattle.batch_events.specs.Playing.{Ready}
use Rattle.regrouping.specs.declared.Made.{Made}
use Rattle.regrouping.specs.Regrouping.{Counted}
use Rattle.updating.specs.Known.{Known}

-- The words are all zero.
abbrev pub Blank : List ℕ → Type 0
Blank s = s ≡ replicate (length s) 0

-- How many words each table has in the memory of an update: its most rows and one more.
abbrev pub entity_space : ℕ
entity_space = entity_width * suc most_entities

abbrev pub cell_space : ℕ
cell_space = cell_width * suc most_cells

abbrev pub crowd_space : ℕ
crowd_space = crowd_width * suc most_cells

abbrev pub net_space : ℕ
net_space = net_width * suc most_cells

-- The cells with an id: the most rows twice, as those of a batch come in before others go.
abbrev pub id_space : ℕ
id_space = id_width * (most_cells + most_cells)

abbrev pub group_space : ℕ
group_space = group_width * most_cells

-- The map of the state of words w is copied out; both net lists are still empty.
pub record Opened (w ents cells crowd : List ℕ) (n : Counts) : Type 0 where
  pub entities-are : ents ≡ entities_image (length ents) (decode w).occupancy.entities
  pub masks-are : cells ≡ cells_image (length cells) (decode w).occupancy.masks
  pub crowd-is : crowd ≡ ids_image (length crowd) (crowd_of (decode w).occupancy)
  pub entities-count : n.entities ≡ length (decode w).occupancy.entities
  pub cells_count : n.cells ≡ length (decode w).occupancy.masks
  pub occupied-none : n.occupied ≡ 0
  pub emptied-none : n.emptied ≡ 0

-- The groups of the state of words w can be copied to the words ids and regrouped there, and the records built in the words groups, after
-- the cells o are newly occupied and the cells e newly emptied, at the kind of touching; the words counts count the entities in each cell that has an id then.
pub record CanRegroup (kind : ℕ) (w ids counts groups occ : List ℕ) (p : ℕ) (emp : List ℕ) (m : ℕ) (o e : List Cell) (entities : List (ℕ × Cell)) : Type 0 where
  pub known : Known w
  pub ids-blank : Blank ids
  pub ids-room : id_space ≤ length ids
  pub groups-blank : Blank groups
  pub groups-room : group_space ≤ length groups
  pub opened : HeldCells occ p o
  pub opened-few : p ≤ most_cells
  pub emptied : HeldCells emp m e
  pub few : length (regroup (touch_at kind) o e (decode w).groups).ids ≤ most_cells
  pub next-room : (decode w).groups.next + p < 18446744073709551616
  pub next_fits : (regroup (touch_at kind) o e (decode w).groups).next < 18446744073709551616
  pub counted : Counted counts entities (keys (regroup (touch_at kind) o e (decode w).groups).ids)
  pub few-entities : length entities ≤ most_entities

-- The same with the kind and the net lists of the tables.
abbrev pub CanRegroupIn : Tables → List ℕ → List ℕ → List ℕ → List ℕ → List Cell → List Cell → List (ℕ × Cell) → Type 0
CanRegroupIn t w ids counts groups o e entities = CanRegroup t.kind w ids counts groups t.occupied.now t.counts.occupied t.emptied.now t.counts.emptied o e entities

-- The events of the batch b, which is accepted, are played, and the state of words w is still to be written.
pub record Finishes (w ents cells crowd occ emp : List ℕ) (n : Counts) (b : Batch) : Type 0 where
  pub known : Known w
  pub accepted : (update (decode w) b).0 ≡ 0
  pub ready : Ready (decode w).kind ents cells crowd occ emp n (occupied (decode w).occupancy) (play_batch (touch_of (decode w)) b (decode w).occupancy)

-- They are played in the tables.
abbrev pub FinishesIn : List ℕ → Tables → Batch → Type 0
FinishesIn w t b = Finishes w t.entities.now t.cells.now t.crowd.now t.occupied.now t.emptied.now t.counts b

-- The words of a header: how many rows each table has, the next id, what touching means, zeros.
abbrev pub head_words : Counts → Made → ℕ → List ℕ
head_words n g kind = n.entities ∷ n.cells ∷ n.occupied ∷ n.emptied ∷ g.ids ∷ g.groups ∷ g.next ∷ kind ∷ replicate (header_len - spare) 0
