-- What consistent means: the stored kind, point 9, then the eight points of document 01 in its order, and their conjunction. Strictly
-- ascending rows belong to them: entity rows to point 1, cell rows to point 2, group rows to point 5, net lists to point 8.
use Rattle.std.specs.Prelude.{ℕ, Bool, cond, ◌&&◌, not, List, eqb, leb, ltb, length}
use Rattle.model.specs.Lists.{all, has, without, equal, ascending, is_ascending, keys, values}
use Rattle.model.specs.Cells.{Cell, same, below, cell_in_range, is_kind}
use Rattle.model.specs.Masks.{mask_of}
use Rattle.model.specs.Occupancy.{Occupancy, occupied}
use Rattle.model.specs.Groups.{Ids, Group, Corner, part, records}
use Rattle.model.specs.Update.{State, most_entities, most_cells, touch_of}

-- 1. Entities distinct, they and the occupied cells within number.
abbrev pub within_number : State → Bool
within_number s =
    is_ascending ltb (keys s.occupancy.entities)
    && (leb (length s.occupancy.entities) most_entities && leb (length (occupied s.occupancy)) most_cells)

-- The cells that an entity stands in, ascending.
abbrev pub standing : State → List Cell
standing s = ascending below (values s.occupancy.entities)

-- 2. The cells with an id, each held once, are exactly those an entity stands in; so are the occupied cells.
abbrev pub cells_exact : State → Bool
cells_exact s = equal same (keys s.groups.ids) (standing s) && equal same (occupied s.occupancy) (standing s)

-- Whether two tests agree.
abbrev pub agree : Bool → Bool → Bool
agree p q = cond p q (not q)

module _ (touch : Cell → Cell → Bool) where
  -- 3. Each mask has exactly the bits of touching occupied cells.
  abbrev pub masks_exact : State → Bool
  masks_exact s = all (λ (p : Cell × ℕ). eqb p.1 (mask_of touch (occupied s.occupancy) p.0)) s.occupancy.masks

  -- Whether b is joined to a through the cells.
  abbrev pub joined_in : List Cell → Cell → Cell → Bool
  joined_in cells a b = has same (part touch a (without same a cells)) b

  -- 4. Ids shared exactly by joined cells.
  abbrev pub ids_shared : State → Bool
  ids_shared s =
      let ids : Ids = s.groups.ids in
      all (λ (p : Cell × ℕ). all (λ (q : Cell × ℕ). agree (eqb p.1 q.1) (joined_in (keys ids) p.0 q.0)) ids) ids

-- Whether two corners are the same.
abbrev pub same_corner : Corner → Corner → Bool
same_corner p q = eqb p.x q.x && (eqb p.y q.y && eqb p.z q.z)

-- Whether two group records are the same.
abbrev pub same_record : ℕ × Group → ℕ × Group → Bool
same_record p q =
    eqb p.0 q.0
    && (eqb p.1.grid q.1.grid
    && (eqb p.1.count q.1.count
    && (eqb p.1.entities q.1.entities
    && (same_corner p.1.low q.1.low && same_corner p.1.high q.1.high))))

-- 5. One group record for each id that a cell has and no other, its grid, corners and counts exact.
abbrev pub records_exact : State → Bool
records_exact s = equal same_record s.records (records s.occupancy.entities s.groups.ids)

-- 6. Every id below the next id.
abbrev pub ids_below_next : State → Bool
ids_below_next s = all (λ g. ltb g s.groups.next) (values s.groups.ids)

-- 7. Coordinates in range.
abbrev pub coordinates_in_range : State → Bool
coordinates_in_range s =
    all cell_in_range (values s.occupancy.entities)
    && (all cell_in_range s.occupancy.newly_occupied && all cell_in_range s.occupancy.newly_emptied)

-- 8. Net lists strictly ascending, at most 1,024 cells each, the first occupied, the second not.
abbrev pub nets_in_order : State → Bool
nets_in_order s =
    let o : Occupancy = s.occupancy in
    is_ascending below o.newly_occupied
    && (is_ascending below o.newly_emptied
    && (leb (length o.newly_occupied) most_cells
    && (leb (length o.newly_emptied) most_cells
    && (all (has same (occupied o)) o.newly_occupied
    && all (λ c. not (has same (occupied o) c)) o.newly_emptied))))

-- All eight, for any touching.
abbrev pub consistent_by : (Cell → Cell → Bool) → State → Bool
consistent_by touch s =
    within_number s
    && (cells_exact s
    && (masks_exact touch s
    && (ids_shared touch s
    && (records_exact s
    && (ids_below_next s
    && (coordinates_in_range s
    && nets_in_order s))))))

-- 9. The stored kind is 6, 18 or 26.
abbrev pub kind_known : State → Bool
kind_known s = is_kind s.kind

-- Point 9, then the eight with touching as the state has chosen it.
abbrev pub consistent : State → Bool
consistent s = kind_known s && consistent_by (touch_of s) s
