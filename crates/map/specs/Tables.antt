-- The map in the tables of a struct, and what a step keeps of them.
use Rattle.std.specs.Prelude.{ℕ, ◌≡◌, length}
use Rattle.model.specs.Cells.{Cell}
use Rattle.model.specs.Occupancy.{Occupancy}
use Rattle.map.specs.declared.Tables.{Tables}
use Rattle.map.specs.Held.{Stored, Peopled, Held, Opens, Closes, EntersCell, LeavesCell, Enters, Leaves, Moves, RoomToEnter, RoomToLeave}

-- The occupied cells with their masks and both net lists.
abbrev pub StoredIn : Tables → Occupancy → Type 0
StoredIn t o = Stored t.cells.now t.occupied.now t.emptied.now t.counts o

-- The map but for the entities.
abbrev pub PeopledIn : Tables → Occupancy → Type 0
PeopledIn t o = Peopled t.kind t.cells.now t.crowd.now t.occupied.now t.emptied.now t.counts o

-- The whole map.
abbrev pub HeldIn : Tables → Occupancy → Type 0
HeldIn t o = Held t.kind t.entities.now t.cells.now t.crowd.now t.occupied.now t.emptied.now t.counts o

-- The cell c, which is in range and not occupied, can open.
abbrev pub OpensIn : Tables → Cell → Occupancy → Type 0
OpensIn t c o = Opens t.kind t.cells.now t.occupied.now t.emptied.now t.counts c o

-- The cell c, which is occupied, can close.
abbrev pub ClosesIn : Tables → Cell → Occupancy → Type 0
ClosesIn t c o = Closes t.kind t.cells.now t.occupied.now t.emptied.now t.counts c o

-- The entity e, which stands nowhere and is counted, can enter c, which is in range.
abbrev pub EntersCellIn : Tables → ℕ → Cell → Occupancy → Type 0
EntersCellIn t e c o = EntersCell t.kind t.cells.now t.crowd.now t.occupied.now t.emptied.now t.counts e c o

-- The entity e, which stands in c, can leave it.
abbrev pub LeavesCellIn : Tables → ℕ → Cell → Occupancy → Type 0
LeavesCellIn t e c o = LeavesCell t.kind t.cells.now t.crowd.now t.occupied.now t.emptied.now t.counts e c o

-- The entity e, which stands nowhere, can enter c, which is in range.
abbrev pub EntersIn : Tables → ℕ → Cell → Occupancy → Type 0
EntersIn t e c o = Enters t.kind t.entities.now t.cells.now t.crowd.now t.occupied.now t.emptied.now t.counts e c o

-- The entity e, which stands in c, can leave it.
abbrev pub LeavesIn : Tables → ℕ → Cell → Occupancy → Type 0
LeavesIn t e c o = Leaves t.kind t.entities.now t.cells.now t.crowd.now t.occupied.now t.emptied.now t.counts e c o

-- The entity e, which stands in d, can leave it and enter c, which is in range.
abbrev pub MovesIn : Tables → ℕ → Cell → Cell → Occupancy → Type 0
MovesIn t e d c o = Moves t.kind t.entities.now t.cells.now t.crowd.now t.occupied.now t.emptied.now t.counts e d c o

-- There is space for one entity more, and for its cell.
abbrev pub RoomToEnterIn : Tables → Type 0
RoomToEnterIn t = RoomToEnter t.entities.now t.cells.now t.crowd.now t.occupied.now t.counts

-- There is space for one newly emptied cell more.
abbrev pub RoomToLeaveIn : Tables → Type 0
RoomToLeaveIn t = RoomToLeave t.emptied.now t.counts

-- The kind of touching, which memory is lent, and how long each table is.
pub record Kept (t u : Tables) : Type 0 where
  pub kind : u.kind ≡ t.kind
  pub entities-lent : u.entities.ghost_name ≡ t.entities.ghost_name
  pub cells-lent : u.cells.ghost_name ≡ t.cells.ghost_name
  pub crowd-lent : u.crowd.ghost_name ≡ t.crowd.ghost_name
  pub occupied-lent : u.occupied.ghost_name ≡ t.occupied.ghost_name
  pub emptied-lent : u.emptied.ghost_name ≡ t.emptied.ghost_name
  pub entities-long : length u.entities.now ≡ length t.entities.now
  pub cells-long : length u.cells.now ≡ length t.cells.now
  pub crowd-long : length u.crowd.now ≡ length t.crowd.now
  pub occupied-long : length u.occupied.now ≡ length t.occupied.now
  pub emptied-long : length u.emptied.now ≡ length t.emptied.now

-- The entities are the same, and their number.
pub record SameEntities (t u : Tables) : Type 0 where
  pub rows : u.entities.now ≡ t.entities.now
  pub count : u.counts.entities ≡ t.counts.entities
