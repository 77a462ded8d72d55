-- Facts about lists, tables, occupancy and states, of which promises of inner functions speak.
use Rattle.std.specs.Prelude.{ℕ, ◌<◌, ◌≤◌, ◌≡◌, ◌↔◌, Bool, not, T, ltb, length}
use mathlib.Core.List.{List, [], ◌∷◌, Memᴰ as Mem}
use Rattle.std.proofs.Math.Option.{some}
use Rattle.model.specs.Lists.{keep, has, ascending, keys, values, get}
use Rattle.model.specs.Cells.{Cell, same, below, cell_in_range}
use Rattle.model.specs.Masks.{masked}
use Rattle.model.specs.Occupancy.{Occupancy, occupied}
use Rattle.model.specs.Groups.{Ids, records}
use Rattle.model.specs.Update.{State, most_entities, most_cells}
use Rattle.model.specs.Paths.{Joined}

-- Each member is less than all that follow.
pub data Asc {K : Type 0} (lt : K → K → Bool) : List K → Type 0 where
  nil : Asc lt []
  cons : {a : K} {l : List K} → ((b : K) → Mem b l → T (lt a b)) → Asc lt l → Asc lt (a ∷ l)

-- The value v stands under the key k.
pub record At {K W : Type 0} (eq : K → K → Bool) (t : List (K × W)) (k : K) (v : W) : Type 0 where
  pub is : get eq t k ≡ some v

module _ {K W : Type 0} (eq : K → K → Bool) where
  -- Something stands under the key.
  abbrev pub In : List (K × W) → K → Type 0
  In t k = (v : W) × At eq t k v

  -- Nothing stands under the key.
  abbrev pub Free : List (K × W) → K → Type 0
  Free t k = (v : W) → At eq t k v → ⊥

  -- Every row is the one that is found by its key.
  abbrev pub Fair : List (K × W) → Type 0
  Fair t = (q : K × W) → Mem q t → At eq t q.0 q.1

-- Entities ascend; the occupied cells are those where an entity stands, ascending; each mask is exact.
pub record Sound (touch : Cell → Cell → Bool) (o : Occupancy) : Type 0 where
  pub asc : Asc ltb (keys o.entities)
  pub cells : occupied o ≡ ascending below (values o.entities)
  pub exact : o.masks ≡ masked touch (occupied o)

-- The members of l that are not in m, in order.
abbrev pub minus : {K : Type 0} → (K → K → Bool) → List K → List K → List K
minus eq l m = keep (λ a. not (has eq m a)) l

-- The net lists are the difference of the occupied cells and those that were occupied.
pub record Net (was : List Cell) (o : Occupancy) : Type 0 where
  pub opened : o.newly_occupied ≡ minus same (occupied o) was
  pub emptied : o.newly_emptied ≡ minus same was (occupied o)

-- The cells of the entities and of both net lists are in R.
pub record Inside (R : Cell → Bool) (o : Occupancy) : Type 0 where
  pub stood : {c : Cell} → Mem c (values o.entities) → T (R c)
  pub opened : {c : Cell} → Mem c o.newly_occupied → T (R c)
  pub emptied : {c : Cell} → Mem c o.newly_emptied → T (R c)

module _ (touch : Cell → Cell → Bool) where
  -- Entities and cells are within number.
  pub record Within (o : Occupancy) : Type 0 where
    pub entities : length o.entities ≤ most_entities
    pub cells : length (occupied o) ≤ most_cells

  -- The cells of two rows share an id exactly if a path of cells with an id joins them.
  abbrev pub Shared : Ids → Type 0
  Shared ids = (p q : Cell × ℕ) → Mem p ids → Mem q ids → (p.1 ≡ q.1) ↔ Joined touch (keys ids) p.0 q.0

-- What a consistent state is, as facts.
pub record Ok (touch : Cell → Cell → Bool) (s : State) : Type 0 where
  pub sound : Sound touch s.occupancy
  pub few-entities : length s.occupancy.entities ≤ most_entities
  pub few-cells : length (occupied s.occupancy) ≤ most_cells
  pub id-cells : keys s.groups.ids ≡ occupied s.occupancy
  pub shared : Shared touch s.groups.ids
  pub records-are : s.records ≡ records s.occupancy.entities s.groups.ids
  pub under : (g : ℕ) → Mem g (values s.groups.ids) → g < s.groups.next
  pub range-entities : (c : Cell) → Mem c (values s.occupancy.entities) → T (cell_in_range c)
  pub range-occupied : (c : Cell) → Mem c s.occupancy.newly_occupied → T (cell_in_range c)
  pub range-emptied : (c : Cell) → Mem c s.occupancy.newly_emptied → T (cell_in_range c)
  pub asc-occupied : Asc below s.occupancy.newly_occupied
  pub asc-emptied : Asc below s.occupancy.newly_emptied
  pub few-occupied : length s.occupancy.newly_occupied ≤ most_cells
  pub few-emptied : length s.occupancy.newly_emptied ≤ most_cells
  pub in-occupied : (c : Cell) → Mem c s.occupancy.newly_occupied → Mem c (occupied s.occupancy)
  pub not-emptied : (c : Cell) → Mem c s.occupancy.newly_emptied → Mem c (occupied s.occupancy) → ⊥
