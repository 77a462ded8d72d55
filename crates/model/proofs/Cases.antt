-- The twelve moves on paper, A to L, as one list.
use Rattle.std.specs.Prelude.{ℕ, ◌+◌, ◌-◌, Bool, true, false, ◌&&◌, List, [], ◌∷◌, ◌++◌, eqb}
use Rattle.std.proofs.Math.Option.{Option, none, some}
use Rattle.model.specs.Lists.{all, equal, run}
use Rattle.model.specs.Cells.{Cell, bias, same}
use Rattle.model.specs.Occupancy.{Batch}
use Rattle.model.specs.Flood.{Depth}
use Rattle.model.specs.Groups.{Group, Corner}
use Rattle.model.specs.Update.{State, fresh, update}
use Rattle.model.specs.Questions.{group_by, flood_of}
use Rattle.model.specs.Consistent.{same_corner}
pub mod Paper
pub mod Kinds
pub mod Choices
pub mod Slips
pub mod KeptOut
pub mod Rows
pub mod Rings

-- One thing to be seen after the batches of a case.
pub data Seen : Type 0 where
  numbers : List ℕ → Seen
  ids : List (Cell × ℕ) → Seen
  corners : ℕ → Corner → Corner → Seen
  no_group : ℕ → Seen
  nets : List Cell → List Cell → Seen
  floods : Cell → Depth → List Cell → Seen

-- The batches of a case, and what is to be seen.
pub record Case : Type 0 where
  pub batches : List Batch
  pub seen : List Seen

-- The numbers given back so far, and the state.
pub record Played : Type 0 where
  pub numbers : List ℕ
  pub state : State

-- One batch more.
abbrev pub play_one : Played → Batch → Played
play_one p b =
    let r : ℕ × State = update p.state b in
    record { numbers = p.numbers ++ (r.0 ∷ []); state = r.1 }

-- All batches of a case from a fresh state of a kind with first id 0.
abbrev pub played : ℕ → List Batch → Played
played kind = run play_one (record { numbers = []; state = fresh 0 kind })

-- Whether a group has these corners.
abbrev pub has_corners : Option Group → Corner → Corner → Bool
has_corners none low high = false
has_corners (some g) low high = same_corner g.low low && same_corner g.high high

-- Whether there is no such group.
abbrev pub is_none : Option Group → Bool
is_none none = true
is_none (some g) = false

-- Whether a cell has this id, row by row.
abbrev pub same_row : Cell × ℕ → Cell × ℕ → Bool
same_row p q = same p.0 q.0 && eqb p.1 q.1

-- Whether it is seen.
abbrev pub sees : Played → Seen → Bool
sees p (numbers l) = equal eqb p.numbers l
sees p (ids l) = equal same_row p.state.groups.ids l
sees p (corners g low high) = has_corners (group_by p.state g) low high
sees p (no_group g) = is_none (group_by p.state g)
sees p (nets f e) = equal same p.state.occupancy.newly_occupied f && equal same p.state.occupancy.newly_emptied e
sees p (floods c d l) = equal same (flood_of p.state c d 1024).cells l

-- Whether a case goes as written where touching is of a kind.
abbrev pub holds_at : ℕ → Case → Bool
holds_at kind c =
    let p : Played = played kind c.batches in
    all (sees p) c.seen

-- Whether it does at 26, as on paper.
abbrev pub holds : Case → Bool
holds = holds_at 26

-- The cell of a grid at x, y, z from zero up.
abbrev pub cell : ℕ → ℕ → ℕ → ℕ → Cell
cell g x y z = record { grid = g; z = bias + z; y = bias + y; x = bias + x }

-- The cell (x, 0, 0) of grid 1, and the one as far below zero.
abbrev pub at : ℕ → Cell
at x = cell 1 x 0 0

abbrev pub minus : ℕ → Cell
minus x = record { grid = 1; z = bias; y = bias; x = bias - x }

-- The corner (x, 0, 0).
abbrev pub corner : ℕ → Corner
corner x = record { x = bias + x; y = bias; z = bias }

-- A batch of moves, and a batch of one removal.
abbrev pub moving : List (ℕ × Cell) → Batch
moving l = record { removals = []; moves = l }

abbrev pub removing : ℕ → Batch
removing e = record { removals = e ∷ []; moves = [] }

-- Entity x goes to (x, 0, 0).
abbrev pub fill : ℕ → Batch
fill x = moving ((x, at x) ∷ [])

-- The depth d, from zero up.
abbrev pub depth : ℕ → Depth
depth d = some (bias + d)

-- The batches of B: (0,0,0), then (2,0,0), then (1,0,0).
abbrev pub case_b : List Batch
case_b = fill 0 ∷ fill 2 ∷ fill 1 ∷ []

abbrev pub cases : List Case
cases =
    -- A
    record { batches = fill 0 ∷ fill 2 ∷ []; seen = ids ((at 0, 0) ∷ (at 2, 1) ∷ []) ∷ [] } ∷
    -- B
    record { batches = case_b; seen = ids ((at 0, 0) ∷ (at 1, 0) ∷ (at 2, 0) ∷ []) ∷ corners 0 (corner 0) (corner 2) ∷ [] } ∷
    -- C
    record { batches = case_b ++ (removing 1 ∷ []); seen = ids ((at 0, 0) ∷ (at 2, 2) ∷ []) ∷ [] } ∷
    -- D
    record { batches = fill 0 ∷ fill 2 ∷ fill 3 ∷ fill 1 ∷ []; seen = ids ((at 0, 0) ∷ (at 1, 0) ∷ (at 2, 0) ∷ (at 3, 0) ∷ []) ∷ [] } ∷
    -- E
    record {
      batches = fill 0 ∷ fill 2 ∷ fill 3 ∷ fill 4 ∷ fill 1 ∷ [];
      seen = ids ((at 0, 1) ∷ (at 1, 1) ∷ (at 2, 1) ∷ (at 3, 1) ∷ (at 4, 1) ∷ []) ∷ [];
    } ∷
    -- F
    record { batches = fill 0 ∷ moving ((0, at 1) ∷ []) ∷ []; seen = ids ((at 1, 0) ∷ []) ∷ corners 0 (corner 1) (corner 1) ∷ [] } ∷
    -- G
    record { batches = fill 0 ∷ moving ((0, at 5) ∷ []) ∷ []; seen = ids ((at 5, 1) ∷ []) ∷ no_group 0 ∷ [] } ∷
    -- H
    record { batches = moving ((0, at 0) ∷ (1, at 7) ∷ []) ∷ moving ((0, at 7) ∷ (1, at 0) ∷ []) ∷ []; seen = nets [] [] ∷ [] } ∷
    -- I
    record {
      batches = moving ((0, at 0) ∷ (1, cell 1 1 1 1) ∷ (2, cell 2 1 0 0) ∷ []) ∷ [];
      seen = ids ((at 0, 0) ∷ (cell 1 1 1 1, 0) ∷ (cell 2 1 0 0, 1) ∷ []) ∷ [];
    } ∷
    -- J
    record { batches = fill 1000000000 ∷ fill 1000000001 ∷ []; seen = numbers (0 ∷ 4 ∷ []) ∷ [] } ∷
    -- K
    record {
      batches = case_b ++ (record { removals = 1 ∷ []; moves = (3, cell 1 1 1 0) ∷ [] } ∷ []);
      seen = ids ((at 0, 0) ∷ (at 2, 0) ∷ (cell 1 1 1 0, 0) ∷ []) ∷ [];
    } ∷
    -- L
    record {
      batches = moving ((0, at 0) ∷ (1, at 1) ∷ (2, minus 1) ∷ []) ∷ [];
      seen = floods (at 0) none (at 0 ∷ minus 1 ∷ at 1 ∷ []) ∷ floods (at 0) (depth 0) (at 0 ∷ []) ∷ floods (at 0) (depth 1) (at 0 ∷ minus 1 ∷ at 1 ∷ []) ∷ [];
    } ∷ []
