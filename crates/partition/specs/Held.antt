-- What words hold: a table of cells with ids, the groups, a table of group records.
use Rattle.std.specs.Prelude.{ℕ, suc, ◌+◌, ◌*◌, ◌≤◌, ◌<◌, min, max, ◌≡◌, not, T, ltb, length, get_or, take, drop}
use mathlib.Core.List.{List, [], ◌∷◌, Memᴰ as Mem}
use Rattle.std.proofs.Math.Option.{Option, none, some}
use Rattle.model.specs.Lists.{each, keep, gather, count, keys, get, put, has, only}
use Rattle.model.specs.Cells.{Cell, same, below, cell_in_range, touch_at}
use Rattle.model.specs.Groups.{Ids, Groups, Group, corner_at, lower, higher, largest_group, merge}
use Rattle.model.specs.Crowd.{how_many}
use Rattle.model.specs.Facts.{Asc}
use Rattle.component.specs.Stored.{stored_by_axis}
use Rattle.table.specs.Rows.{cell, cell_at, row_of}
use Rattle.layout.specs.Widths.{id_width, cell_id, net_width, group_width, group_grid, group_cells, group_entities, group_low, group_high}
use Rattle.layout.specs.Rows.{id_row, ids_image, groups_image, net_image, neighbour_of}

-- The words hold n cells with ids, ascending.
pub record HeldTable (words : List ℕ) (n : ℕ) (t : Ids) : Type 0 where
  pub image : words ≡ ids_image (length words) t
  pub count : n ≡ length t
  pub asc : Asc below (keys t)
  pub fits : id_width * n ≤ length words

-- The words hold n cells with ids, ascending, in range.
pub record HeldRows (words : List ℕ) (n : ℕ) (t : Ids) : Type 0 where
  pub image : words ≡ ids_image (length words) t
  pub count : n ≡ length t
  pub asc : Asc below (keys t)
  pub ranged : (c : Cell) → Mem c (keys t) → T (cell_in_range c)
  pub fits : id_width * n ≤ length words

-- The words hold the groups, and `next` is their next id.
pub record HeldIds (words : List ℕ) (n next : ℕ) (s : Groups) : Type 0 where
  pub rows : HeldRows words n s.ids
  pub is-next : next ≡ s.next

-- The words hold m cells of a net list, ascending, in range.
pub record HeldCells (words : List ℕ) (m : ℕ) (l : List Cell) : Type 0 where
  pub image : words ≡ net_image (length words) l
  pub count : m ≡ length l
  pub asc : Asc below l
  pub ranged : (c : Cell) → Mem c l → T (cell_in_range c)
  pub fits : net_width * m ≤ length words

-- The words hold k group records, ascending by id.
pub record HeldGroups (words : List ℕ) (k : ℕ) (l : List (ℕ × Group)) : Type 0 where
  pub image : words ≡ groups_image (length words) l
  pub count : k ≡ length l
  pub asc : Asc ltb (keys l)
  pub fits : group_width * k ≤ length words

-- A group with one cell more, in which m entities stand; the group of that cell alone where there was none.
abbrev pub grown : Option Group → Cell → ℕ → Group
grown none c m = record { grid = c.grid; count = 1; entities = m; low = corner_at c; high = corner_at c }
grown (some r) c m = record { grid = r.grid; count = suc r.count; entities = r.entities + m; low = lower r.low c; high = higher r.high c }

-- Each group has fewer than 2^63 cells, and than 2^63 entities.
abbrev pub few : List (ℕ × Group) → Type 0
few l = (q : ℕ × Group) → Mem q l → (q.1.count < 9223372036854775808) × (q.1.entities < 9223372036854775808)

-- Beside n cells with ids some words count how many of the entities stand in each of the cells.
pub record HeldCounts (counts ids : List ℕ) (n : ℕ) (entities : List (ℕ × Cell)) : Type 0 where
  pub are : (i : ℕ) → i < n → get_or counts i 0 ≡ how_many entities (cell_at ids (id_width * i))
  pub fits : n ≤ length counts

-- A corner of the record that stands at a place, as a cell of the group's grid; its coordinates stand from `first` on.
abbrev pub corner_cell : List ℕ → ℕ → ℕ → Cell
corner_cell s at first =
    record { grid = get_or s (at + group_grid) 0; z = get_or s (at + (first + 2)) 0; y = get_or s (at + (first + 1)) 0; x = get_or s (at + first) 0 }

-- The words of the record that stands at a place, with one cell more, in which m entities stand.
abbrev pub grown_words : List ℕ → ℕ → Cell → ℕ → List ℕ
grown_words s at c m =
    let low : Cell = stored_by_axis min (corner_cell s at group_low) c in
    let high : Cell = stored_by_axis max (corner_cell s at group_high) c in
    get_or s at 0 ∷ get_or s (at + group_grid) 0 ∷ (get_or s (at + group_cells) 0 + 1) ∷ (get_or s (at + group_entities) 0 + m)
    ∷ low.x ∷ low.y ∷ low.z ∷ high.x ∷ high.y ∷ high.z ∷ []

-- Those of the first k neighbours of a cell that touch it at the kind.
unfoldable pub tried : ℕ → Cell → ℕ → List Cell
tried kind c k = keep (touch_at kind c) (each (neighbour_of c) (count 1 k))

-- An id that is there, as a list.
abbrev pub list_of : Option ℕ → List ℕ
list_of none = []
list_of (some g) = g ∷ []

-- The ids of those of the cells that have one, in order.
unfoldable pub ids_at : Ids → List Cell → List ℕ
ids_at t l = gather (λ d. list_of (get same t d)) l

-- The cells with ids after the cell c joins the first group of a list, and all of them merge.
unfoldable pub joined : Ids → Cell → List ℕ → Ids
joined t c l = merge (largest_group (put below c (get_or l 0 0) t) (get_or l 0 0) (drop 1 l)) l (put below c (get_or l 0 0) t)

-- Row i of words: the cell and its id.
abbrev pub row_in : List ℕ → ℕ → Cell × ℕ
row_in words i = (cell_at words (id_width * i), get_or words (id_width * i + cell_id) 0)

-- The words of rows.
abbrev pub words_of : Ids → List ℕ
words_of t = gather (row_of cell) (each id_row t)

-- The rows that stay.
abbrev pub stay : List Cell → Ids → Ids
stay l t = only (λ c. not (has same l c)) t

-- The first i rows are sifted: those of them that stay fill the first j rows.
pub record Sifted (words : List ℕ) (i j : ℕ) (l : List Cell) (t : Ids) : Type 0 where
  pub count : j ≡ length (stay l (take i t))
  pub front : take (id_width * j) words ≡ words_of (stay l (take i t))
