-- The state, a fresh one, the refusals of a batch, and the update.
use Rattle.std.specs.Prelude.{ℕ, Bool, cond, not, List, [], ◌∷◌, eqb, ltb, length}
use Rattle.model.specs.Lists.{all}
use Rattle.model.specs.Cells.{Cell, cell_in_range, is_kind, touch_at}
use Rattle.model.specs.Occupancy.{Occupancy, Event, Batch, events, nothing, occupied, start_batch, play, play_batch}
use Rattle.model.specs.Groups.{Groups, Group, regroup, records}

-- What touching means (6, 18 or 26), occupancy, the cells' ids with the next id, and the group records.
pub record State : Type 0 where
  pub kind : ℕ
  pub occupancy : Occupancy
  pub groups : Groups
  pub records : List (ℕ × Group)

-- A fresh state is given its first id, and what touching means.
abbrev pub fresh : ℕ → ℕ → State
fresh first kind = record { kind = kind; occupancy = nothing; groups = record { ids = []; next = first }; records = [] }

-- Touching as the state has chosen it.
abbrev pub touch_of : State → Cell → Cell → Bool
touch_of s = touch_at s.kind

-- The most events in a batch.
abbrev pub most_events : ℕ
most_events = 1024

-- The most entities.
abbrev pub most_entities : ℕ
most_entities = 4096

-- The most occupied cells.
abbrev pub most_cells : ℕ
most_cells = 1024

-- 2^64 - 2,049: a next id above it leaves fewer than 2,048 ids.
abbrev pub last_next : ℕ
last_next = 18446744073709549567

-- 3: more than 1,024 events in the batch.
abbrev pub too_many_events : Batch → Bool
too_many_events b = ltb most_events (length (events b))

-- 4: some coordinate given is outside its range.
abbrev pub out_of_range : Batch → Bool
out_of_range b = not (all (λ (m : ℕ × Cell). cell_in_range m.1) b.moves)

-- 5: fewer than 2,048 ids are left.
abbrev pub few_ids : ℕ → Bool
few_ids next = ltb last_next next

-- The number of a fresh state: 13, a choice that is none of the three, is tried before 5.
abbrev pub fresh_refusal : ℕ → ℕ → ℕ
fresh_refusal first kind = cond (not (is_kind kind)) 13 (cond (few_ids first) 5 0)

-- 6: more than 4,096 entities.
abbrev pub too_many_entities : Occupancy → Bool
too_many_entities o = ltb most_entities (length o.entities)

-- 7: more than 1,024 occupied cells.
abbrev pub too_many_cells : Occupancy → Bool
too_many_cells o = ltb most_cells (length (occupied o))

module _ (touch : Cell → Cell → Bool) where
  -- The first event in order to break 6 or 7 decides, 6 first; each is judged on what the event would leave.
  abbrev pub broken_by : Occupancy → List Event → ℕ
  broken_by o [] = 0
  broken_by o (e ∷ es) =
      let after : Occupancy = play touch o e in
      cond (too_many_entities after) 6 (cond (too_many_cells after) 7 (broken_by after es))

  -- The number of a batch: 3, 4 and 5 are tried in that order, then 6 and 7 event by event; 0 if none of them holds.
  unfoldable pub refusal_by : State → Batch → ℕ
  refusal_by s b =
      cond (too_many_events b) 3
      (cond (out_of_range b) 4
      (cond (few_ids s.groups.next) 5
      (broken_by (start_batch s.occupancy) (events b))))

  -- The state after an accepted batch: the events, then a regrouping, then the group records.
  unfoldable pub accepted_by : State → Batch → State
  accepted_by s b =
      let o : Occupancy = play_batch touch b s.occupancy in
      let g : Groups = regroup touch o.newly_occupied o.newly_emptied s.groups in
      record { kind = s.kind; occupancy = o; groups = g; records = records o.entities g.ids }

  -- The number given back and the state left: a refusal leaves the state unchanged.
  unfoldable pub update_by : State → Batch → ℕ × State
  update_by s b =
      let n : ℕ = refusal_by s b in
      cond (eqb n 0) (0, accepted_by s b) (n, s)

-- The same, with touching as the state has chosen it.
abbrev pub refusal : State → Batch → ℕ
refusal s b = refusal_by (touch_of s) s b

abbrev pub accepted : State → Batch → State
accepted s b = accepted_by (touch_of s) s b

abbrev pub update : State → Batch → ℕ × State
update s b = update_by (touch_of s) s b
