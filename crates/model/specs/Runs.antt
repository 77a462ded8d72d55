-- Runs, and what two runs share on one grid.
use Rattle.std.specs.Prelude.{ℕ, ◌≡◌, Bool, List, T, eqb, ltb}
use Rattle.std.proofs.Math.Option.{Option, none, some}
use Rattle.model.specs.Lists.{keep, only, change}
use Rattle.model.specs.Cells.{Cell, is_kind}
use Rattle.model.specs.Occupancy.{Batch, Passage, leaves, enters, events, start_batch, trace}
use Rattle.model.specs.Flood.{Depth, flood}
use Rattle.model.specs.Update.{State, fresh, touch_of, update_by, update}
use Rattle.model.specs.Questions.{id_of, group_by}

module _ (touch : Cell → Cell → Bool) where
  -- A state that a history from a fresh state leads to, each batch accepted, for any touching.
  pub data ReachedBy : State → Type 0 where
    start : (first kind : ℕ) → ReachedBy (fresh first kind)
    next : {s : State} (b : Batch) → ReachedBy s → (update_by touch s b).0 ≡ 0 → ReachedBy (update_by touch s b).1

-- A state that a history from a fresh state leads to, each batch accepted, with touching as the fresh state chose it.
pub data Reached : State → Type 0 where
  start : (first kind : ℕ) → T (is_kind kind) → Reached (fresh first kind)
  next : {s : State} (b : Batch) → Reached s → (update s b).0 ≡ 0 → Reached (update s b).1

-- Whether a cell is of the grid.
abbrev pub on_grid : ℕ → Cell → Bool
on_grid grid c = eqb grid c.grid

-- Whether a passage is of the grid.
abbrev pub passage_on : ℕ → Passage → Bool
passage_on grid (leaves e c) = on_grid grid c
passage_on grid (enters e c) = on_grid grid c

module _ (touch : Cell → Cell → Bool) (grid : ℕ) where
  -- The enter and leave events of a batch on the grid, in order.
  abbrev pub passages_on : State → Batch → List Passage
  passages_on s b = keep (passage_on grid) (trace touch (start_batch s.occupancy) (events b))

  -- Two runs from fresh states, every batch accepted in both, that agree batch by batch on the grid's enter and leave events.
  pub data AlikeBy : State → State → Type 0 where
    start : (first first' kind kind' : ℕ) → AlikeBy (fresh first kind) (fresh first' kind')
    next : {s t : State} (b d : Batch) → AlikeBy s t → (update_by touch s b).0 ≡ 0 → (update_by touch t d).0 ≡ 0 →
        passages_on s b ≡ passages_on t d → AlikeBy (update_by touch s b).1 (update_by touch t d).1

-- The same for two runs with one choice of touching.
pub data Alike (grid : ℕ) : State → State → Type 0 where
  start : (first first' kind : ℕ) → T (is_kind kind) → Alike grid (fresh first kind) (fresh first' kind)
  next : {s t : State} (b d : Batch) → Alike grid s t → (update s b).0 ≡ 0 → (update t d).0 ≡ 0 →
      passages_on (touch_of s) grid s b ≡ passages_on (touch_of t) grid t d → Alike grid (update s b).1 (update t d).1

-- An id that was found, by another name.
abbrev pub renamed : (ℕ → ℕ) → Option ℕ → Option ℕ
renamed name none = none
renamed name (some g) = some (name g)

-- What two states show of the grid is equal, the ids by a renaming that keeps their order.
pub record SameOn (touch : Cell → Cell → Bool) (grid : ℕ) (s t : State) : Type 0 where
  -- who stands where
  pub entities : keep (λ (p : ℕ × Cell). on_grid grid p.1) s.occupancy.entities ≡ keep (λ (p : ℕ × Cell). on_grid grid p.1) t.occupancy.entities
  -- the occupied cells with their masks
  pub masks : only (on_grid grid) s.occupancy.masks ≡ only (on_grid grid) t.occupancy.masks
  pub newly_occupied : keep (on_grid grid) s.occupancy.newly_occupied ≡ keep (on_grid grid) t.occupancy.newly_occupied
  pub newly_emptied : keep (on_grid grid) s.occupancy.newly_emptied ≡ keep (on_grid grid) t.occupancy.newly_emptied
  -- floods from every seed with every depth and budget
  pub floods : (seed : Cell) → T (on_grid grid seed) → (depth : Depth) (budget : ℕ) → flood touch s.occupancy seed depth budget ≡ flood touch t.occupancy seed depth budget
  -- the ids, renamed
  pub name : ℕ → ℕ
  pub ids : only (on_grid grid) t.groups.ids ≡ change (λ c g. name g) (only (on_grid grid) s.groups.ids)
  pub in_order : (a b : Cell) (g h : ℕ) → T (on_grid grid a) → T (on_grid grid b) → id_of s a ≡ some g → id_of s b ≡ some h → ltb (name g) (name h) ≡ ltb g h
  -- the groups with their counts and corners
  pub groups : (a : Cell) (g : ℕ) → T (on_grid grid a) → id_of s a ≡ some g → group_by t (name g) ≡ group_by s g
