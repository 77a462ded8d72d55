-- What is read of words in which a table of occupied cells stands is that table.
use Rattle.std.specs.Prelude.{ℕ, ◌*◌, ◌≤◌, ◌<◌, ◌≡◌, true, length}
use Rattle.std.proofs.Common.{add-zero, ◌∙◌, subst, get_or-drop}
use native.Mathlib.Omega.{arith}
use Rattle.std.proofs.Math.Path.{refl, sym, ap}
use mathlib.Core.List.Memᴰ.{cast as mem-cast}
use mathlib.Core.List.{List, Memᴰ as Mem}
use Rattle.std.proofs.Math.ListN.{get_or}
use Rattle.model.specs.Facts.{Asc}
use Rattle.model.specs.Lists.{each, keep, keys, is_ascending, count}
use Rattle.model.specs.Cells.{Cell, below, offsets_of, touch_at, shift}
use Rattle.model.specs.Masks.{bit, touching, leads_to, mask_of, masked}
use Rattle.model.proofs.Laws.Tests.{T_true, true_of}
use Rattle.model.proofs.Laws.Orders.{cells}
use Rattle.model.proofs.Laws.Members.{keep-in, keep_out, each_in, each-out, each-each, each_same, each-length, key_in, count-in, Once, once-keep, once-each}
use Rattle.model.proofs.Laws.Sorted.{is_ascending-in, asc-once}
use Rattle.model.specs.Places.{offset_at}
use Rattle.model.proofs.Laws.Slots.{mask-bit}
use Rattle.model.proofs.Theorems.MasksExact.{mask-cells}
use Rattle.std.specs.Prelude.{Result, Ok, Err}
use Rattle.table.specs.Rows.{cell, entry_of, rows_of, placed, place_of, table4, is_table4, image4}
use Rattle.table.specs.Laws.Kinds.{cell-lawful}
use Rattle.table.specs.Laws.Words.{rest_at, entry_at, cell-at}
use Rattle.table.specs.Laws.Places.{missing-key}
use Rattle.table.specs.Laws.Answers.{found_below, found-is}
use Rattle.table.specs.Laws.Images.{table-of-image, image-is-table}
use Rattle.layout.specs.Widths.{cell_mask, cell_width}
use Rattle.layout.specs.Rows.{id_row, cells_image}
use Rattle.layout.proofs.Laws.Rows.{ids-wide}
use Rattle.layout.proofs.Laws.Images.{cells-laws}
use Rattle.neighbourhood.specs.Rows.{row_cell, row_mask, row_near, row_list, row_for, onward}
use Rattle.neighbourhood.specs.Standing.{Cells}
use Rattle.neighbourhood.proofs.Laws.Lines.{get_d-mem, each_at, asc-index}

-- No cell, and no mask.
abbrev no_row : Cell × ℕ
no_row = (record { grid = 0; z = 0; y = 0; x = 0 }, 0)

-- The words of a table of ascending cells with exact masks hold it.
pub cells_of : (kind : ℕ) (t : List (Cell × ℕ)) → t ≡ masked (touch_at kind) (keys t) → (len : ℕ) → Asc below (keys t) → cell_width * length t ≤ len → Cells kind (cells_image len t) (length t) t
cells_of kind t x len s h =
    let e : length (cells_image len t) ≡ len = cells-laws.long len t (λ a m. tt) h in
    record { image = ap (λ m. cells_image m t) (sym e); number = refl; fits = omega arith; asc = s; exact = x }

module _ {kind : ℕ} (words : List ℕ) (n : ℕ) (t : List (Cell × ℕ)) (k : Cells kind words n t) where
  written : words ≡ image4 (length words) (each id_row t)
  unfolding cells_image
  written = k.image

  size : n ≡ length (each id_row t)
  size = k.number ∙ sym (each-length id_row t)

  -- The rows are those of the table.
  pub cells-rows : table4 cell_width n words ≡ each id_row t
  cells-rows = (λ i. table4 cell_width (size i) (written i)) ∙ table-of-image cell cell-lawful cell_width (length words) (each id_row t) (ids-wide t)

  -- The keys are the occupied cells.
  pub cells-keys : keys (table4 cell_width n words) ≡ keys t
  cells-keys = ap keys cells-rows ∙ each-each (λ (p : Cell × List ℕ). p.0) id_row t

  -- The words are a table's.
  pub cells-table : is_table4 cell_width n words ≡ true
  cells-table =
      (λ i. is_table4 cell_width (size i) (written i))
      ∙ image-is-table cell cell-lawful cell_width (length words) (each id_row t) (omega (arith, k.fits, size)) (ids-wide t)
      ∙ ap (is_ascending below) (each-each (λ (p : Cell × List ℕ). p.0) id_row t)
      ∙ true_of (is_ascending below (keys t)) (is_ascending-in k.asc)

  module _ (i : ℕ) (h : i < n) where
    abbrev row : Cell × ℕ
    row = get_or t i no_row

    row_in : Mem row t
    row_in = get_d-mem t i no_row (omega (arith, k.number))

    row_is : get_or (table4 cell_width n words) i (id_row no_row) ≡ id_row row
    row_is = ap (λ (l : List (Cell × List ℕ)). get_or l i (id_row no_row)) cells-rows ∙ each_at id_row t i no_row (id_row no_row) (omega (arith, k.number))

    entry-is : get_or (table4 cell_width n words) i (id_row no_row) ≡ entry_of cell (get_or (rows_of cell_width n words) i mathlib.Core.List.[])
    entry-is =
        ap (λ (j : ℕ). get_or (table4 cell_width n words) j (id_row no_row)) (sym (add-zero i))
        ∙ sym (get_or-drop i (table4 cell_width n words) 0 (id_row no_row))
        ∙ ap (λ (l : List (Cell × List ℕ)). get_or l 0 (id_row no_row)) (entry_at cell cell_width n words i h)

    word-is : row_mask words i ≡ row.1
    unfolding row_mask
    word-is = sym (rest_at cell_width n words i cell_mask 0 h (omega arith)) ∙ ap (λ (p : Cell × List ℕ). get_or p.1 0 0) (sym entry-is ∙ row_is)

    -- The cell of row i is the table's.
    pub key-is : get_or (keys t) i no_row.0 ≡ row_cell words i
    unfolding row_cell
    key-is = ap (λ (l : List Cell). get_or l i no_row.0) (sym cells-keys) ∙ cell-at cell_width n words (omega arith) i no_row.0 h

    cell-is : row_cell words i ≡ row.0
    cell-is = sym key-is ∙ each_at (λ (p : Cell × ℕ). p.0) t i no_row no_row.0 (omega (arith, k.number))

    -- The cell of a row is occupied.
    pub row-occupied : Mem (row_cell words i) (keys t)
    row-occupied = mem-cast cell-is (key_in row_in)

    -- The mask of row i is that of its cell.
    pub row-mask : row_mask words i ≡ mask_of (touch_at kind) (keys t) (row_cell words i)
    row-mask =
        let r = each-out (λ c. (c, mask_of (touch_at kind) (keys t) c)) (keys t) (subst (λ l. Mem row l) k.exact row_in) in
        word-is ∙ ap (λ (p : Cell × ℕ). p.1) r.2 ∙ ap (mask_of (touch_at kind) (keys t)) (sym (cell-is ∙ ap (λ (p : Cell × ℕ). p.0) r.2))

    -- The cells that its set bits tell of are those that it touches, in cell order.
    pub row-list : row_list words i ≡ touching (touch_at kind) (keys t) (row_cell words i)
    unfolding row_list row_near touch_at
    row-list =
        ap (λ m. each (λ j. shift (row_cell words i) (offset_at j)) (keep (bit m) (count 0 26))) row-mask
        ∙ mask-cells (offsets_of kind) (keys t) (row_cell words i) k.asc

    -- A bit is set where it leads to one of them.
    pub row-bit : (j : ℕ) → j < 26 → bit (row_mask words i) j ≡ leads_to (touch_at kind) (keys (table4 cell_width n words)) (row_cell words i) (offset_at j)
    row-bit j g =
        ap (λ m. bit m j) row-mask
        ∙ mask-bit (touch_at kind) (keys t) (row_cell words i) j g
        ∙ ap (λ l. leads_to (touch_at kind) l (row_cell words i) (offset_at j)) (sym cells-keys)

  -- A cell stands in one row.
  pub row-once : (i j : ℕ) → i < n → j < n → row_cell words i ≡ row_cell words j → i ≡ j
  row-once i j h g e =
      let l : length (keys t) ≡ length t = each-length (λ (p : Cell × ℕ). p.0) t in
      asc-index cells (keys t) i j no_row.0 k.asc (omega (arith, k.number)) (omega (arith, k.number)) (key-is i h ∙ e ∙ sym (key-is j g))

  -- The row of an occupied cell is there, and has that cell.
  pub row-for : (d : Cell) → Mem d (keys t) → (row_for words n d < n) × (row_cell words (row_for words n d) ≡ d)
  unfolding row_for
  row-for d m = go (place_of below (keys (table4 cell_width n words)) d) refl
    where
      go : (p : Result ℕ ℕ) → p ≡ place_of below (keys (table4 cell_width n words)) d → (placed p < n) × (row_cell words (placed p) ≡ d)
      go (Ok i) e =
          let h = found_below cell cell-lawful cell_width n words d i e in
          (h, sym (key-is i h) ∙ ap (λ (l : List Cell). get_or l i no_row.0) (sym cells-keys) ∙ found-is cell cell-lawful cell_width n words d i no_row.0 e)
      go (Err i) e = absurd (missing-key cells d (keys (table4 cell_width n words)) i (subst (Asc below) (sym cells-keys) k.asc) e (subst (λ l. Mem d l) (sym cells-keys) m))

  -- No cell touches another twice.
  pub touching-once : (c : Cell) → Once (touching (touch_at kind) (keys t) c)
  touching-once c = once-keep (touch_at kind c) (keys t) (asc-once cells k.asc)

  -- The touching cells are occupied.
  pub touching-in : (c d : Cell) → Mem d (touching (touch_at kind) (keys t) c) → Mem d (keys t)
  touching-in c d m = (keep_out (touch_at kind c) (keys t) m).0

  module _ (i : ℕ) (h : i < n) where
    list-in : (d : Cell) → Mem d (row_list words i) → Mem d (keys t)
    list-in d m = touching-in (row_cell words i) d (subst (λ l. Mem d l) (row-list i h) m)

    onward-list : onward words n i ≡ each (row_for words n) (row_list words i)
    unfolding onward row_list
    onward-list = sym (each-each (row_for words n) (row_near words i) (keep (bit (row_mask words i)) (count 0 26)))

    -- The rows that row i leads to have the cells that it touches.
    pub onward-cells : each (row_cell words) (onward words n i) ≡ touching (touch_at kind) (keys t) (row_cell words i)
    onward-cells =
        ap (each (row_cell words)) onward-list
        ∙ each-each (row_cell words) (row_for words n) (row_list words i)
        ∙ each_same (λ d. row_cell words (row_for words n d)) (row_list words i) (λ d m. (row-for d (list-in d m)).1)
        ∙ row-list i h

    -- The row that a set bit leads to is there.
    pub row-lead : (j : ℕ) → j < 26 → bit (row_mask words i) j ≡ true → row_for words n (row_near words i j) < n
    unfolding row_list
    row-lead j g e =
        let z : 0 ≤ j = omega arith in
        let m : Mem j (count 0 26) = count-in 0 26 z g in
        (row-for (row_near words i j) (list-in (row_near words i j) (each_in (row_near words i) (keep-in (bit (row_mask words i)) m (T_true e))))).0

    -- They are there.
    pub onward-under : (j : ℕ) → Mem j (onward words n i) → j < n
    onward-under j m =
        let r = each-out (row_for words n) (row_list words i) (subst (λ l. Mem j l) onward-list m) in
        subst (λ a. a < n) (sym r.2) (row-for r.0 (list-in r.0 r.1)).0

    -- None comes twice.
    pub onward-once : Once (onward words n i)
    onward-once =
        subst Once (sym onward-list)
        (once-each (row_for words n) (row_list words i)
        (λ a b m j e. sym (row-for a (list-in a m)).1 ∙ ap (row_cell words) e ∙ (row-for b (list-in b j)).1)
        (subst Once (sym (row-list i h)) (touching-once (row_cell words i))))
