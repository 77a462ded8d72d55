-- The facts that the laws of the layout speak of.
use Rattle.std.specs.Prelude.{ℕ, ◌*◌, ◌≤◌, ◌≡◌, true, leb, length, drop, replicate}
use mathlib.Core.List.{List, [], Memᴰ as Mem}
use Rattle.model.specs.Update.{State, most_entities, most_cells}
use Rattle.model.specs.Consistent.{consistent}
use Rattle.table.specs.Rows.{are_zero}
use Rattle.layout.specs.Widths.{entity_width, cell_width, net_width, id_width, group_width}
use Rattle.layout.specs.Rows.{entities_image, cells_image, net_image, ids_image, groups_image}
use Rattle.layout.specs.State.{entities_len, cells_len, net_len, ids_len, groups_len, decode, spare_words, entity_words, cell_words, occupied_words, emptied_words, id_words, group_words, entity_count, cell_count, occupied_count, emptied_count, id_count, group_count, next_id, kind_of}
use Rattle.layout.specs.Points.{tidy}

-- From the place f on the list w is r.
pub record From (w : List ℕ) (f : ℕ) (r : List ℕ) : Type 0 where
  pub fits : f ≤ length w
  pub rest : drop f w ≡ r

-- What holds of a table of rows of width w: Good is asked of each row that is written, Fair of words that are read.
pub record TableLaws {A : Type 0} (w : ℕ) (image : ℕ → List A → List ℕ) (reads : ℕ → List ℕ → List A) (Good : A → Type 0) (Fair : ℕ → List ℕ → Type 0) : Type 0 where
  -- A table that is written is read again.
  pub read : (len : ℕ) (t : List A) → ((a : A) → Mem a t → Good a) → reads (length t) (image len t) ≡ t
  -- Words that are read are written again.
  pub written : (n : ℕ) (s : List ℕ) → w * n ≤ length s → are_zero (drop (w * n) s) ≡ true → Fair n s → image (length s) (reads n s) ≡ s
  -- The image of a table that fits has the length asked for.
  pub long : (len : ℕ) (t : List A) → ((a : A) → Mem a t → Good a) → w * length t ≤ len → length (image len t) ≡ len
  -- Zeros follow the rows.
  pub zeros : (len : ℕ) (t : List A) → ((a : A) → Mem a t → Good a) → are_zero (drop (w * length t) (image len t)) ≡ true
  -- As many rows are read as asked for.
  pub counted : (n : ℕ) (s : List ℕ) → length (reads n s) ≡ n
  -- The image of no rows is zeros.
  pub none : (len : ℕ) → image len [] ≡ replicate len 0

-- Nothing is asked.
abbrev pub Any : {A : Type 0} → A → Type 0
Any a = Unit {0}

abbrev pub Anyhow : ℕ → List ℕ → Type 0
Anyhow n s = Unit {0}

-- Each table has at most its most rows.
pub record Fits (s : State) : Type 0 where
  pub entities : length s.occupancy.entities ≤ most_entities
  pub cells : length s.occupancy.masks ≤ most_cells
  pub newly-occupied : length s.occupancy.newly_occupied ≤ most_cells
  pub newly-emptied : length s.occupancy.newly_emptied ≤ most_cells
  pub ids : length s.groups.ids ≤ most_cells
  pub groups : length s.records ≤ most_cells

-- The words w begin with the image of the state s.
pub record BeginsWith (s : State) (w : List ℕ) : Type 0 where
  pub entity-count : entity_count w ≡ length s.occupancy.entities
  pub cell-count : cell_count w ≡ length s.occupancy.masks
  pub occupied-count : occupied_count w ≡ length s.occupancy.newly_occupied
  pub emptied-count : emptied_count w ≡ length s.occupancy.newly_emptied
  pub id-count : id_count w ≡ length s.groups.ids
  pub group-count : group_count w ≡ length s.records
  pub next-id : next_id w ≡ s.groups.next
  pub kind-is : kind_of w ≡ s.kind
  pub spare-zero : are_zero (spare_words w) ≡ true
  pub entity-words : entity_words w ≡ entities_image entities_len s.occupancy.entities
  pub cell-words : cell_words w ≡ cells_image cells_len s.occupancy.masks
  pub occupied-words : occupied_words w ≡ net_image net_len s.occupancy.newly_occupied
  pub emptied-words : emptied_words w ≡ net_image net_len s.occupancy.newly_emptied
  pub id-words : id_words w ≡ ids_image ids_len s.groups.ids
  pub group-words : group_words w ≡ groups_image groups_len s.records

-- What consistent words are, as facts.
pub record Orderly (w : List ℕ) : Type 0 where
  pub spare-zero : are_zero (spare_words w) ≡ true
  pub entity-rows : tidy entity_width most_entities (entity_count w) (entity_words w) ≡ true
  pub cell-few : leb (cell_count w) most_cells ≡ true
  pub cell-rows : tidy cell_width most_cells (cell_count w) (cell_words w) ≡ true
  pub id-rows : tidy id_width most_cells (id_count w) (id_words w) ≡ true
  pub group-rows : tidy group_width most_cells (group_count w) (group_words w) ≡ true
  pub occupied-rows : tidy net_width most_cells (occupied_count w) (occupied_words w) ≡ true
  pub emptied-rows : tidy net_width most_cells (emptied_count w) (emptied_words w) ≡ true
  pub yard : consistent (decode w) ≡ true
