-- How the map stands in memory.
use Rattle.std.specs.Prelude.{ℕ, suc, ◌*◌, ◌≤◌, ◌<◌, ◌≡◌, true, eqb, length, get_or}
use mathlib.Core.List.{List, Memᴰ as Mem}
use Rattle.std.proofs.Math.Option.{Option, none, some}
use Rattle.model.specs.Lists.{ascending, values}
use Rattle.model.specs.Cells.{Cell, below, cell_in_range, touch_at}
use Rattle.model.specs.Crowd.{how_many, tallied}
use Rattle.model.specs.Occupancy.{Occupancy, occupied, remove, move_to, play}
use Rattle.model.specs.Facts.{Asc, At, Free, Sound, Inside}
use Rattle.layout.specs.Widths.{cell_width, crowd_width, entity_width, net_width}
use Rattle.layout.specs.Rows.{entities_image, cells_image, net_image, ids_image}
use Rattle.map.specs.declared.Counts.{Counts}

-- Each cell where entities stand, with their number.
unfoldable pub tally : List (ℕ × Cell) → List (Cell × ℕ)
tally t = tallied (how_many t) (ascending below (values t))

-- Each occupied cell with the number of entities that stand in it.
unfoldable pub crowd_of : Occupancy → List (Cell × ℕ)
crowd_of o = tallied (how_many o.entities) (occupied o)

-- An occupancy that is sound at a kind of touching and in range; its net lists ascend, the newly occupied cells are occupied, and the newly emptied are not.
pub record Placed (kind : ℕ) (o : Occupancy) : Type 0 where
  pub sound : Sound (touch_at kind) o
  pub inside : Inside cell_in_range o
  pub opened-asc : Asc below o.newly_occupied
  pub emptied-asc : Asc below o.newly_emptied
  pub opened_in : (c : Cell) → Mem c o.newly_occupied → Mem c (occupied o)
  pub emptied-out : (c : Cell) → Mem c o.newly_emptied → Mem c (occupied o) → ⊥

-- The occupied cells with their masks and both net lists, in words, with their counts.
pub record Stored (cells occ emp : List ℕ) (n : Counts) (o : Occupancy) : Type 0 where
  pub masks : cells ≡ cells_image (length cells) o.masks
  pub opened : occ ≡ net_image (length occ) o.newly_occupied
  pub emptied : emp ≡ net_image (length emp) o.newly_emptied
  pub cells_count : n.cells ≡ length o.masks
  pub occupied-count : n.occupied ≡ length o.newly_occupied
  pub emptied-count : n.emptied ≡ length o.newly_emptied
  pub cells_fit : cell_width * n.cells ≤ length cells
  pub occupied-fit : net_width * n.occupied ≤ length occ
  pub emptied-fit : net_width * n.emptied ≤ length emp

-- The whole map in words: the entities, the occupied cells, how many stand in each, and both net lists.
pub record Held (kind : ℕ) (ents cells crowd occ emp : List ℕ) (n : Counts) (o : Occupancy) : Type 0 where
  pub entities-is : ents ≡ entities_image (length ents) o.entities
  pub entities-count : n.entities ≡ length o.entities
  pub entities-fit : entity_width * n.entities ≤ length ents
  pub crowd-is : crowd ≡ ids_image (length crowd) (crowd_of o)
  pub crowd-fit : crowd_width * n.cells ≤ length crowd
  pub stored : Stored cells occ emp n o
  pub placed : Placed kind o

-- The map in words but for the entities: the occupied cells, how many stand in each, and both net lists.
pub record Peopled (kind : ℕ) (cells crowd occ emp : List ℕ) (n : Counts) (o : Occupancy) : Type 0 where
  pub crowd-is : crowd ≡ ids_image (length crowd) (crowd_of o)
  pub crowd-fit : crowd_width * n.cells ≤ length crowd
  pub stored : Stored cells occ emp n o
  pub placed : Placed kind o

-- There is space for one cell more, with its mask, and for one newly occupied cell more.
pub record RoomToOpen (cells occ : List ℕ) (n : Counts) : Type 0 where
  pub cells-room : cell_width * suc n.cells ≤ length cells
  pub occupied-room : net_width * suc n.occupied ≤ length occ

-- There is space for one entity more, and for its cell.
pub record RoomToEnter (ents cells crowd occ : List ℕ) (n : Counts) : Type 0 where
  pub entities-room : entity_width * suc n.entities ≤ length ents
  pub crowd-room : crowd_width * suc n.cells ≤ length crowd
  pub opening : RoomToOpen cells occ n

-- There is space for one newly emptied cell more.
abbrev pub RoomToLeave : List ℕ → Counts → Type 0
RoomToLeave emp n = net_width * suc n.emptied ≤ length emp

-- The cell c, which is in range and not occupied, can open.
pub record Opens (kind : ℕ) (cells occ emp : List ℕ) (n : Counts) (c : Cell) (o : Occupancy) : Type 0 where
  pub placed : Placed kind o
  pub stored : Stored cells occ emp n o
  pub vacant : Mem c (occupied o) → ⊥
  pub ranged : cell_in_range c ≡ true
  pub space : RoomToOpen cells occ n

-- The cell c, which is occupied, can close.
pub record Closes (kind : ℕ) (cells occ emp : List ℕ) (n : Counts) (c : Cell) (o : Occupancy) : Type 0 where
  pub placed : Placed kind o
  pub stored : Stored cells occ emp n o
  pub taken : Mem c (occupied o)
  pub space : RoomToLeave emp n

-- The entity e, which stands nowhere, can enter c, which is in range.
pub record Enters (kind : ℕ) (ents cells crowd occ emp : List ℕ) (n : Counts) (e : ℕ) (c : Cell) (o : Occupancy) : Type 0 where
  pub held : Held kind ents cells crowd occ emp n o
  pub free : Free eqb o.entities e
  pub ranged : cell_in_range c ≡ true
  pub space : RoomToEnter ents cells crowd occ n

-- The entity e, which stands in c, can leave it.
pub record Leaves (kind : ℕ) (ents cells crowd occ emp : List ℕ) (n : Counts) (e : ℕ) (c : Cell) (o : Occupancy) : Type 0 where
  pub held : Held kind ents cells crowd occ emp n o
  pub stands : At eqb o.entities e c
  pub space : RoomToLeave emp n

-- The entity e, which stands nowhere and is counted, can enter c, which is in range.
pub record EntersCell (kind : ℕ) (cells crowd occ emp : List ℕ) (n : Counts) (e : ℕ) (c : Cell) (o : Occupancy) : Type 0 where
  pub peopled : Peopled kind cells crowd occ emp n o
  pub free : Free eqb o.entities e
  pub counts : length o.entities < n.entities
  pub ranged : cell_in_range c ≡ true
  pub crowd-room : crowd_width * suc n.cells ≤ length crowd
  pub opening : RoomToOpen cells occ n

-- The entity e, which stands in c, can leave it.
pub record LeavesCell (kind : ℕ) (cells crowd occ emp : List ℕ) (n : Counts) (e : ℕ) (c : Cell) (o : Occupancy) : Type 0 where
  pub peopled : Peopled kind cells crowd occ emp n o
  pub stands : At eqb o.entities e c
  pub space : RoomToLeave emp n

-- The entity e, which stands in d, can leave it and enter c, which is in range.
pub record Moves (kind : ℕ) (ents cells crowd occ emp : List ℕ) (n : Counts) (e : ℕ) (d c : Cell) (o : Occupancy) : Type 0 where
  pub leaving : Leaves kind ents cells crowd occ emp n e d o
  pub ranged : cell_in_range c ≡ true
  pub space : RoomToEnter ents cells crowd occ n

-- The occupancy after a removal of e.
abbrev pub removal_of : ℕ → ℕ → Occupancy → Occupancy
removal_of kind e o = play (touch_at kind) o (remove e)

-- The occupancy after a move of e to c.
abbrev pub move_of : ℕ → ℕ → Cell → Occupancy → Occupancy
move_of kind e c o = play (touch_at kind) o (move_to e c)

-- The number that a lookup in the crowd finds, 0 where it finds no row.
abbrev pub counted : Option (List ℕ) → ℕ
counted none = 0
counted (some v) = get_or v 0 0
