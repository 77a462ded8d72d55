-- Groups: rules 1 to 3, regrouping, and what is shown of a group.
use Rattle.std.specs.Prelude.{ℕ, zero, suc, min, max, Bool, cond, not, List, [], ◌∷◌, ◌++◌, eqb, ltb, length}
use Rattle.model.specs.Lists.{keep, any, has, gather, ascending, sort, run, keys, values, put, only, change}
use Rattle.model.specs.Cells.{Cell, same, below}

-- The cells that have an id, ascending, each with its id.
abbrev pub Ids : Type 0
Ids = List (Cell × ℕ)

-- The cells' ids, and the next id.
pub record Groups : Type 0 where
  pub ids : Ids
  pub next : ℕ

-- The cells of a group, ascending.
abbrev pub members : Ids → ℕ → List Cell
members ids g = keys (keep (λ (p : Cell × ℕ). eqb g p.1) ids)

-- How many cells a group has.
abbrev pub size : Ids → ℕ → ℕ
size ids g = length (members ids g)

-- The largest of the groups; among equals the earliest found.
abbrev pub largest_group : Ids → ℕ → List ℕ → ℕ
largest_group ids g [] = g
largest_group ids g (h ∷ hs) = largest_group ids (cond (ltb (size ids g) (size ids h)) h g) hs

-- All groups found become the group g.
abbrev pub merge : ℕ → List ℕ → Ids → Ids
merge g found = change (λ c h. cond (has eqb found h) g h)

-- A piece's cells take the id g.
abbrev pub relabel : ℕ → List Cell → Ids → Ids
relabel g piece = change (λ c h. cond (has same piece c) g h)

module _ (touch : Cell → Cell → Bool) where
  -- The groups found at a cell's neighbours, in order.
  abbrev pub found_at : Ids → Cell → List ℕ
  found_at ids c = values (only (touch c) ids)

  -- If none is found the cell takes the next id; otherwise it joins the first found, and then all found merge: the largest keeps
  -- its id, counted after the join.
  abbrev pub join_found : Groups → Cell → List ℕ → Groups
  join_found s c [] = record { ids = put below c s.next s.ids; next = suc s.next }
  join_found s c (g ∷ gs) =
      let joined : Ids = put below c g s.ids in
      record { ids = merge (largest_group joined g gs) (g ∷ gs) joined; next = s.next }

  -- Rule 1, for one newly occupied cell.
  abbrev pub rule1 : Groups → Cell → Groups
  rule1 s c = join_found s c (found_at s.ids c)

  -- Rule 2: all newly emptied cells leave their groups.
  abbrev pub rule2 : List Cell → Groups → Groups
  rule2 emptied s = record { ids = only (λ c. not (has same emptied c)) s.ids; next = s.next }

  -- The cells that are reached from a queue among those of `rest`, which are not yet queued; n is the most cells to reach.
  abbrev pub reach : ℕ → List Cell → List Cell → List Cell
  reach zero queue rest = []
  reach (suc n) [] rest = []
  reach (suc n) (c ∷ queue) rest = c ∷ reach n (queue ++ keep (touch c) rest) (keep (λ d. not (touch c d)) rest)

  -- The cell c and the cells of l that are joined to it through cells of l.
  abbrev pub part : Cell → List Cell → List Cell
  part c l = reach (suc (length l)) (c ∷ []) l

  -- The connected parts of a list, each in the list's order, by their first cells; n is the most parts.
  abbrev pub pieces : ℕ → List Cell → List (List Cell)
  pieces zero l = []
  pieces (suc n) [] = []
  pieces (suc n) (c ∷ l) =
      let p : List Cell = part c l in
      keep (has same p) (c ∷ l) ∷ pieces n (keep (λ d. not (has same p d)) l)

  -- All connected parts of a list.
  abbrev pub parts : List Cell → List (List Cell)
  parts l = pieces (length l) l

  -- Whether a piece has fewer cells than another.
  abbrev pub smaller : List Cell → List Cell → Bool
  smaller p q = ltb (length p) (length q)

  -- The largest piece, among equals the first, and the others as they stood.
  abbrev pub largest_piece : List Cell → List (List Cell) → List Cell × List (List Cell)
  largest_piece p [] = (p, [])
  largest_piece p (q ∷ qs) =
      let r : List Cell × List (List Cell) = largest_piece q qs in
      cond (smaller p r.0) (r.0, p ∷ r.1) (p, q ∷ qs)

  -- A piece takes the next id.
  abbrev pub take_next : Groups → List Cell → Groups
  take_next s piece = record { ids = relabel s.next piece s.ids; next = suc s.next }

  -- The largest piece keeps the id; the others take next ids by ascending size, equal sizes by ascending least cell.
  abbrev pub split_into : Groups → List (List Cell) → Groups
  split_into s [] = s
  split_into s (p ∷ ps) = run take_next s (sort smaller (largest_piece p ps).1)

  -- Rule 3, for one affected group.
  abbrev pub split : Groups → ℕ → Groups
  split s g = split_into s (parts (members s.ids g))

  -- The groups of the occupied neighbours of emptied cells, ascending.
  abbrev pub affected : List Cell → Ids → List ℕ
  affected emptied ids = ascending ltb (values (only (λ c. any (λ d. touch d c) emptied) ids))

  -- Rule 3: affected groups are taken by ascending id.
  unfoldable pub rule3 : List Cell → Groups → Groups
  rule3 emptied s = run split s (affected emptied s.ids)

  -- Regrouping: rule 1 for the newly occupied cells, ascending, then rule 2, and only then rule 3.
  unfoldable pub regroup : List Cell → List Cell → Groups → Groups
  regroup occupied emptied s = rule3 emptied (rule2 emptied (run rule1 s occupied))

-- Three stored coordinates.
pub record Corner : Type 0 where
  pub x : ℕ
  pub y : ℕ
  pub z : ℕ

-- What is shown of a group: its grid, its cell count, its entity count, the low and the high corner.
pub record Group : Type 0 where
  pub grid : ℕ
  pub count : ℕ
  pub entities : ℕ
  pub low : Corner
  pub high : Corner

-- A cell's coordinates.
abbrev pub corner_at : Cell → Corner
corner_at c = record { x = c.x; y = c.y; z = c.z }

-- The smaller on each axis.
abbrev pub lower : Corner → Cell → Corner
lower p c = record { x = min p.x c.x; y = min p.y c.y; z = min p.z c.z }

-- The larger on each axis.
abbrev pub higher : Corner → Cell → Corner
higher p c = record { x = max p.x c.x; y = max p.y c.y; z = max p.z c.z }

-- How many entities stand in the cells.
abbrev pub standing_at : List (ℕ × Cell) → List Cell → ℕ
standing_at entities cells = length (keep (λ (p : ℕ × Cell). has same cells p.1) entities)

-- The group of a first cell and others: its grid, its cell count, its entity count, its exact corners.
abbrev pub group_of : List (ℕ × Cell) → Cell → List Cell → Group
group_of entities c cs =
    record {
      grid = c.grid;
      count = suc (length cs);
      entities = standing_at entities (c ∷ cs);
      low = run lower (corner_at c) cs;
      high = run higher (corner_at c) cs;
    }

-- The record of a group with these cells; a group with no cell has none.
abbrev pub record_of : List (ℕ × Cell) → ℕ → List Cell → List (ℕ × Group)
record_of entities g [] = []
record_of entities g (c ∷ cs) = (g, group_of entities c cs) ∷ []

-- One group record for each id that a cell has, ascending by id.
abbrev pub records : List (ℕ × Cell) → Ids → List (ℕ × Group)
records entities ids = gather (λ g. record_of entities g (members ids g)) (ascending ltb (values ids))
