-- The state in words: a header, then the tables one after the other.
use Rattle.std.specs.Prelude.{ℕ, ◌-◌, List, ◌∷◌, ◌++◌, length, get_or, replicate}
use Rattle.std.proofs.Math.Seq.{slice}
use Rattle.model.specs.Update.{State}
use Rattle.layout.specs.Widths.{header_len, next_id_at, kind_at, spare}
use Rattle.layout.specs.Rows.{entities_image, cells_image, net_image, ids_image, groups_image, entities_in, cells_in, net_in, ids_in, groups_in}

-- 4,096 entities of 5 words.
unfoldable pub entities_len : ℕ
entities_len = 20480

-- 1,024 occupied cells with their masks, of 5 words.
unfoldable pub cells_len : ℕ
cells_len = 5120

-- 1,024 cells of 4 words, for each net list.
unfoldable pub net_len : ℕ
net_len = 4096

-- 1,024 cells with an id, of 5 words.
unfoldable pub ids_len : ℕ
ids_len = 5120

-- 1,024 groups of 10 words.
unfoldable pub groups_len : ℕ
groups_len = 10240

-- Where each table begins, and where the state ends.
unfoldable pub entities_from : ℕ
entities_from = 16

unfoldable pub cells_from : ℕ
cells_from = 20496

unfoldable pub occupied_from : ℕ
occupied_from = 25616

unfoldable pub emptied_from : ℕ
emptied_from = 29712

unfoldable pub ids_from : ℕ
ids_from = 33808

unfoldable pub groups_from : ℕ
groups_from = 38928

unfoldable pub state_len : ℕ
state_len = 49168

-- The header of a state: how many rows each table has, the next id, what touching means, zeros.
abbrev pub header : State → List ℕ
header s =
    length s.occupancy.entities ∷ length s.occupancy.masks
    ∷ length s.occupancy.newly_occupied ∷ length s.occupancy.newly_emptied
    ∷ length s.groups.ids ∷ length s.records ∷ s.groups.next ∷ s.kind ∷ replicate (header_len - spare) 0

-- The one image of a state.
unfoldable pub encode : State → List ℕ
encode s =
    header s
    ++ (entities_image entities_len s.occupancy.entities
    ++ (cells_image cells_len s.occupancy.masks
    ++ (net_image net_len s.occupancy.newly_occupied
    ++ (net_image net_len s.occupancy.newly_emptied
    ++ (ids_image ids_len s.groups.ids
    ++ groups_image groups_len s.records)))))

-- The words of each table.
abbrev pub entity_words : List ℕ → List ℕ
entity_words w = slice entities_from cells_from w

abbrev pub cell_words : List ℕ → List ℕ
cell_words w = slice cells_from occupied_from w

abbrev pub occupied_words : List ℕ → List ℕ
occupied_words w = slice occupied_from emptied_from w

abbrev pub emptied_words : List ℕ → List ℕ
emptied_words w = slice emptied_from ids_from w

abbrev pub id_words : List ℕ → List ℕ
id_words w = slice ids_from groups_from w

abbrev pub group_words : List ℕ → List ℕ
group_words w = slice groups_from state_len w

-- The words of the header that have no name.
abbrev pub spare_words : List ℕ → List ℕ
spare_words w = slice spare entities_from w

-- The words of the header that have one.
abbrev pub entity_count : List ℕ → ℕ
entity_count w = get_or w 0 0

abbrev pub cell_count : List ℕ → ℕ
cell_count w = get_or w 1 0

abbrev pub occupied_count : List ℕ → ℕ
occupied_count w = get_or w 2 0

abbrev pub emptied_count : List ℕ → ℕ
emptied_count w = get_or w 3 0

abbrev pub id_count : List ℕ → ℕ
id_count w = get_or w 4 0

abbrev pub group_count : List ℕ → ℕ
group_count w = get_or w 5 0

abbrev pub next_id : List ℕ → ℕ
next_id w = get_or w next_id_at 0

abbrev pub kind_of : List ℕ → ℕ
kind_of w = get_or w kind_at 0

-- The state that words stand for.
unfoldable pub decode : List ℕ → State
decode w =
    record {
      kind = kind_of w;
      occupancy = record {
        entities = entities_in (entity_count w) (entity_words w);
        masks = cells_in (cell_count w) (cell_words w);
        newly_occupied = net_in (occupied_count w) (occupied_words w);
        newly_emptied = net_in (emptied_count w) (emptied_words w);
      };
      groups = record { ids = ids_in (id_count w) (id_words w); next = next_id w };
      records = groups_in (group_count w) (group_words w);
    }
