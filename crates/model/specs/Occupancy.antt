-- Occupancy, event by event.
use Rattle.std.specs.Prelude.{ℕ, Bool, false, cond, List, [], ◌∷◌, ◌++◌, eqb, ltb}
use Rattle.std.proofs.Math.Option.{Option, none, some}
use Rattle.model.specs.Lists.{any, has, without, each, add, run, keys, get, put, drop_key}
use Rattle.model.specs.Cells.{Cell, same, below}
use Rattle.model.specs.Masks.{masked}

-- Where each entity stands; the occupied cells, each with its mask; both net lists.
pub record Occupancy : Type 0 where
  pub entities : List (ℕ × Cell)
  pub masks : List (Cell × ℕ)
  pub newly_occupied : List Cell
  pub newly_emptied : List Cell

-- A removal of an entity, or a move of an entity to a cell.
pub data Event : Type 0 where
  remove : ℕ → Event
  move_to : ℕ → Cell → Event

-- A batch has removals and moves.
pub record Batch : Type 0 where
  pub removals : List ℕ
  pub moves : List (ℕ × Cell)

-- All removals run first, then the moves, each in list order.
abbrev pub events : Batch → List Event
events b = each remove b.removals ++ each (λ (m : ℕ × Cell). move_to m.0 m.1) b.moves

-- No entity, no cell.
abbrev pub nothing : Occupancy
nothing = record { entities = []; masks = []; newly_occupied = []; newly_emptied = [] }

-- The occupied cells.
abbrev pub occupied : Occupancy → List Cell
occupied o = keys o.masks

-- Whether some entity stands in the cell.
abbrev pub stands_in : List (ℕ × Cell) → Cell → Bool
stands_in entities c = any (λ (p : ℕ × Cell). same c p.1) entities

-- The same cells, masks and net lists with other entities.
abbrev pub with_entities : List (ℕ × Cell) → Occupancy → Occupancy
with_entities l o = record { entities = l; masks = o.masks; newly_occupied = o.newly_occupied; newly_emptied = o.newly_emptied }

-- Both net lists start empty in each batch.
abbrev pub start_batch : Occupancy → Occupancy
start_batch o = record { entities = o.entities; masks = o.masks; newly_occupied = []; newly_emptied = [] }

-- What an event comes to: an entity leaves a cell, or enters one.
pub data Passage : Type 0 where
  leaves : ℕ → Cell → Passage
  enters : ℕ → Cell → Passage

-- An entity leaves the cell where it stands, if it stands anywhere.
abbrev pub leaves_from : ℕ → Option Cell → List Passage
leaves_from e none = []
leaves_from e (some c) = leaves e c ∷ []

-- Whether the place is the cell c.
abbrev pub is_at : Option Cell → Cell → Bool
is_at none c = false
is_at (some d) c = same c d

-- A removal of an unknown entity does nothing; a move to the cell where the entity stands does nothing; otherwise a moved entity
-- first leaves its old cell, then enters the new one.
abbrev pub passages : List (ℕ × Cell) → Event → List Passage
passages entities (remove e) = leaves_from e (get eqb entities e)
passages entities (move_to e c) =
    cond (is_at (get eqb entities e) c) [] (leaves_from e (get eqb entities e) ++ (enters e c ∷ []))

module _ (touch : Cell → Cell → Bool) where
  -- A cell entered while empty joins the occupied cells, whose masks are then exact; if it was in the newly emptied list it leaves
  -- that, else it joins the newly occupied list.
  abbrev pub open_cell : Cell → Occupancy → Occupancy
  open_cell c o =
      record {
        entities = o.entities;
        masks = masked touch (add below c (occupied o));
        newly_occupied = cond (has same o.newly_emptied c) o.newly_occupied (add below c o.newly_occupied);
        newly_emptied = without same c o.newly_emptied;
      }

  -- A cell left by its last entity leaves the occupied cells, whose masks are then exact; if it was in the newly occupied list it
  -- leaves that list, else it joins the newly emptied list.
  abbrev pub close_cell : Cell → Occupancy → Occupancy
  close_cell c o =
      record {
        entities = o.entities;
        masks = masked touch (without same c (occupied o));
        newly_occupied = without same c o.newly_occupied;
        newly_emptied = cond (has same o.newly_occupied c) o.newly_emptied (add below c o.newly_emptied);
      }

  -- The entity stands in the cell from now on; the cell opens if no entity stood there.
  abbrev pub enter : ℕ → Cell → Occupancy → Occupancy
  enter e c o =
      with_entities (put ltb e c o.entities) (cond (stands_in o.entities c) o (open_cell c o))

  -- The entity stands nowhere from now on; the cell closes if no other entity stands there.
  abbrev pub leave : ℕ → Cell → Occupancy → Occupancy
  leave e c o =
      with_entities (drop_key eqb e o.entities) (cond (stands_in (drop_key eqb e o.entities) c) o (close_cell c o))

  -- One passage.
  abbrev pub pass : Occupancy → Passage → Occupancy
  pass o (leaves e c) = leave e c o
  pass o (enters e c) = enter e c o

  -- One event.
  abbrev pub play : Occupancy → Event → Occupancy
  play o e = run pass o (passages o.entities e)

  -- The passages of some events, one after the other.
  abbrev pub trace : Occupancy → List Event → List Passage
  trace o [] = []
  trace o (e ∷ es) = passages o.entities e ++ trace (play o e) es

  -- A batch's events, from both net lists empty.
  abbrev pub play_batch : Batch → Occupancy → Occupancy
  play_batch b o = run play (start_batch o) (events b)
