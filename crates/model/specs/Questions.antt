-- Asking: what each question answers, as values. What is not found is `none`, or a list with `found` false.
use Rattle.std.specs.Prelude.{ℕ, Bool, cond, List, [], ◌∷◌, eqb}
use Rattle.std.proofs.Math.Option.{Option, none, some}
use Rattle.std.specs.Int.Count.{ones}
use Rattle.component.specs.Around.{around}
use Rattle.model.specs.Lists.{keep, has, keys, get}
use Rattle.model.specs.Cells.{Cell, same}
use Rattle.model.specs.Occupancy.{occupied}
use Rattle.model.specs.Masks.{touching}
use Rattle.model.specs.Groups.{Group}
use Rattle.model.specs.Flood.{Depth, Flood, flood}
use Rattle.model.specs.Shortest.{shown_path}
use Rattle.model.specs.Update.{State, touch_of}

-- A list answer: whether what was asked for was found, and the list.
pub record Listed (A : Type 0) : Type 0 where
  pub found : Bool
  pub list : List A

-- Where an entity stands.
abbrev pub where_is : State → ℕ → Option Cell
where_is s e = get eqb s.occupancy.entities e

-- A cell's entities, ascending.
abbrev pub entities_in : State → Cell → Listed ℕ
entities_in s c =
    record {
      found = has same (occupied s.occupancy) c;
      list = keys (keep (λ (p : ℕ × Cell). same c p.1) s.occupancy.entities);
    }

-- A cell's id.
abbrev pub id_of : State → Cell → Option ℕ
id_of s c = get same s.groups.ids c

-- A group by id.
abbrev pub group_by : State → ℕ → Option Group
group_by s g = get eqb s.records g

-- The ids, ascending.
abbrev pub id_list : State → List ℕ
id_list s = keys s.records

-- Nearby: the cell, then the touching occupied cells in cell order.
abbrev pub nearby_by : (Cell → Cell → Bool) → State → Cell → Listed Cell
nearby_by touch s c =
    let found : Bool = has same (occupied s.occupancy) c in
    record { found = found; list = cond found (c ∷ touching touch (occupied s.occupancy) c) [] }

-- Nearby, the flood and the path, with touching as the state has chosen it.
abbrev pub nearby : State → Cell → Listed Cell
nearby s c = nearby_by (touch_of s) s c

abbrev pub flood_of : State → Cell → Depth → ℕ → Flood
flood_of s seed depth budget = flood (touch_of s) s.occupancy seed depth budget

abbrev pub path_between : State → Cell → Cell → Option (List Cell)
path_between s a b = shown_path (touch_of s) (occupied s.occupancy) a b

-- The number of ones in a mask, if there is one.
abbrev pub ones_of : Option ℕ → Option ℕ
ones_of none = none
ones_of (some m) = some (ones m)

-- A cell's neighbour count: the number of ones in its mask.
abbrev pub neighbour_count : State → Cell → Option ℕ
neighbour_count s c = ones_of (get same s.occupancy.masks c)

-- Cube: the centre first, then the neighbours of radius r in order, occupied ones only.
abbrev pub cube : State → Cell → ℕ → Listed Cell
cube s c r =
    record {
      found = has same (occupied s.occupancy) c;
      list = keep (has same (occupied s.occupancy)) (c ∷ around r c);
    }
