-- How far a flood is, and what it does with a row.
use Rattle.std.specs.Prelude.{ℕ, suc, ◌≤◌, ◌<◌, ◌≡◌, Bool, true, cond, List, eqb, length, get_or, set}
use Rattle.model.specs.Lists.{run, keys}
use Rattle.model.specs.Cells.{touch_at}
use Rattle.model.specs.Masks.{bit, leads_to}
use Rattle.model.specs.Places.{offset_at}
use Rattle.table.specs.Rows.{is_table4, table4}
use Rattle.layout.specs.Widths.{cell_width}
use Rattle.neighbourhood.specs.Rows.{row_cell, row_mask, row_near, row_for, onward}

-- Whether a row is unmarked.
abbrev pub is_open : List ℕ → ℕ → Bool
is_open marks j = eqb (get_or marks j 0) 0

-- The marks of the rows, the queue of rows, and where the queue ends.
pub record Front : Type 0 where
  pub end : ℕ
  pub marks : List ℕ
  pub queue : List ℕ

-- A front of its parts.
abbrev pub front : ℕ → List ℕ → List ℕ → Front
front end marks queue = record { end = end; marks = marks; queue = queue }

-- An unmarked row is marked and queued; a marked row is passed over.
abbrev pub push : ℕ → Front → ℕ → Front
push label f j =
    cond (eqb (get_or f.marks j 0) 0) (front (suc f.end) (set f.marks j label) (set f.queue f.end j)) f

-- Some rows, one after the other.
unfoldable pub pushed : ℕ → Front → List ℕ → Front
pushed label f l = run (push label) f l

-- What following the mask of row i asks: the words are a table's, the mask is exact, the row and those that it leads to are there, and the
-- queue has space.
pub record Followable (words : List ℕ) (n i label : ℕ) (f : Front) : Type 0 where
  pub kind : ℕ
  pub table : is_table4 cell_width n words ≡ true
  pub row : i < n
  pub exact : (k : ℕ) → k < 26 → bit (row_mask words i) k ≡ leads_to (touch_at kind) (keys (table4 cell_width n words)) (row_cell words i) (offset_at k)
  pub there : (k : ℕ) → k < 26 → bit (row_mask words i) k ≡ true → row_for words n (row_near words i k) < n
  pub fits : n ≤ length f.marks
  pub space : (pushed label f (onward words n i)).end ≤ length f.queue
