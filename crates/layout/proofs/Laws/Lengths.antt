-- Each table begins where the one before it ends, and has room for its most rows.
use Rattle.std.specs.Prelude.{ℕ, ◌+◌, ◌*◌, ◌≤◌, ◌≡◌, refl}
use Rattle.std.proofs.Common.{arith}
use Rattle.model.specs.Update.{most_entities, most_cells}
use Rattle.layout.specs.Widths.{header_len, entity_width, cell_width, net_width, id_width, group_width}
use Rattle.layout.specs.State.{entities_len, cells_len, net_len, ids_len, groups_len, entities_from, cells_from, occupied_from, emptied_from, ids_from, groups_from, state_len}

-- The entities begin behind the header.
pub header-end : header_len ≡ entities_from
unfolding entities_from
header-end = refl

-- The occupied cells begin behind the entities.
pub entities-end : entities_from + entities_len ≡ cells_from
unfolding entities_from entities_len cells_from
entities-end = refl

-- The newly occupied cells begin behind the occupied cells.
pub cells-end : cells_from + cells_len ≡ occupied_from
unfolding cells_from cells_len occupied_from
cells-end = refl

-- The newly emptied cells begin behind the newly occupied.
pub occupied-end : occupied_from + net_len ≡ emptied_from
unfolding occupied_from net_len emptied_from
occupied-end = refl

-- The cells with an id begin behind the newly emptied.
pub emptied-end : emptied_from + net_len ≡ ids_from
unfolding emptied_from net_len ids_from
emptied-end = refl

-- The groups begin behind the cells with an id.
pub ids-end : ids_from + ids_len ≡ groups_from
unfolding ids_from ids_len groups_from
ids-end = refl

-- The state ends behind the groups.
pub groups-end : groups_from + groups_len ≡ state_len
unfolding groups_from groups_len state_len
groups-end = refl

-- There is room for the most entities.
pub entities-room : (n : ℕ) → n ≤ most_entities → entity_width * n ≤ entities_len
unfolding entities_len
entities-room n h = omega arith

-- There is room for the most occupied cells.
pub cells-room : (n : ℕ) → n ≤ most_cells → cell_width * n ≤ cells_len
unfolding cells_len
cells-room n h = omega arith

-- There is room for the most cells of a net list.
pub net-room : (n : ℕ) → n ≤ most_cells → net_width * n ≤ net_len
unfolding net_len
net-room n h = omega arith

-- There is room for the most cells with an id.
pub ids-room : (n : ℕ) → n ≤ most_cells → id_width * n ≤ ids_len
unfolding ids_len
ids-room n h = omega arith

-- There is room for the most groups.
pub groups-room : (n : ℕ) → n ≤ most_cells → group_width * n ≤ groups_len
unfolding groups_len
groups-room n h = omega arith
