-- The rows one by one, and the mask of the first of them.
use Rattle.std.specs.Prelude.{ℕ, ◌+◌, ◌-◌, ◌*◌, ◌<◌, ◌≤◌, ◌≡◌, Bool, true, false, cond, List, [], ◌∷◌, ◌++◌, length, take, get_or}
use Rattle.std.proofs.Common.{add-one, arith, sym, ap, ◌∙◌, subst, take-suc, take_all, eq-eqb, ne_eqb}
use Rattle.model.specs.Lists.{keys}
use Rattle.model.specs.Cells.{Cell, offsets_of, touch_at}
use Rattle.model.specs.Masks.{with_bit, mask_of}
use Rattle.model.specs.Places.{slot, place_in}
use Rattle.model.proofs.Laws.Slots.{slot-low, slot-high, mask_end, mask-none}
use Rattle.table.specs.Rows.{cell, cell_at, table4}
use Rattle.table.specs.Laws.Words.{word_at, rest_at}
use Rattle.layout.specs.Widths.{cell_mask, cell_width}
use Rattle.layout.specs.Rows.{id_of, cells_in}
use Rattle.masks_check.specs.Rows.{row_right}
use Rattle.points_check.specs.Lines.{Lines}
use Rattle.points_check.specs.Laws.Lines.{lines-as, lines_at, lines-each}
use Rattle.points_check.specs.Laws.Readings.{key-lines, row-lines}

-- The mask with one cell more at the end.
mask-more : (kind : ℕ) (l : List Cell) (d c : Cell) → mask_of (touch_at kind) (l ++ (d ∷ [])) c ≡ cond (touch_at kind c d) (with_bit (mask_of (touch_at kind) l c) (slot c d)) (mask_of (touch_at kind) l c)
unfolding touch_at
mask-more kind l d c = mask_end (offsets_of kind) l d c

module _ (kind m : ℕ) (s : List ℕ) (c : Cell) where
  abbrev k : List Cell
  k = keys (table4 cell_width m s)

  lines : Lines (keys (table4 cell_width m s)) m (λ i. cell_at s (cell_width * i))
  lines = key-lines cell_width m s (omega arith)

  -- Before any row.
  pub scan-none : 0 ≡ mask_of (touch_at kind) (take 0 (keys (table4 cell_width m s))) c
  unfolding touch_at
  scan-none = mask-none (offsets_of kind) c

  module _ (i : ℕ) (h : i < m) where
    more : take (i + 1) k ≡ take i k ++ (cell_at s (cell_width * i) ∷ [])
    more =
        let g : length k ≡ m = lines.len in
        ap (λ (n : ℕ). take n k) (add-one i) ∙ take-suc k i (cell_at s 0) (omega arith) ∙ ap (λ x. take i k ++ (x ∷ [])) (lines_at lines i h (cell_at s 0))

    next : (b : ℕ) → b ≡ mask_of (touch_at kind) (take i k) c → (t : Bool) → touch_at kind c (cell_at s (cell_width * i)) ≡ t → cond t (with_bit b (slot c (cell_at s (cell_width * i)))) b ≡ mask_of (touch_at kind) (take (i + 1) k) c
    next b e t f =
        (λ j. cond (sym f j) (with_bit (e j) (slot c (cell_at s (cell_width * i)))) (e j))
        ∙ sym (ap (λ (l : List Cell). mask_of (touch_at kind) l c) more ∙ mask-more kind (take i k) (cell_at s (cell_width * i)) c)

    -- One row more, which touches.
    pub scan-yes : (b : ℕ) → b ≡ mask_of (touch_at kind) (take i (keys (table4 cell_width m s))) c → touch_at kind c (cell_at s (cell_width * i)) ≡ true → (r : ℕ) → r ≡ with_bit b (slot c (cell_at s (cell_width * i))) → r ≡ mask_of (touch_at kind) (take (i + 1) (keys (table4 cell_width m s))) c
    scan-yes b e f r q = q ∙ next b e true f

    -- One row more, which does not.
    pub scan-no : (b : ℕ) → b ≡ mask_of (touch_at kind) (take i (keys (table4 cell_width m s))) c → touch_at kind c (cell_at s (cell_width * i)) ≡ false → b ≡ mask_of (touch_at kind) (take (i + 1) (keys (table4 cell_width m s))) c
    scan-no b e f = next b e false f

  -- After all rows.
  pub scan-end : (i b : ℕ) → m ≤ i → b ≡ mask_of (touch_at kind) (take i (keys (table4 cell_width m s))) c → b ≡ mask_of (touch_at kind) (keys (table4 cell_width m s)) c
  scan-end i b h e = let g : length k ≡ m = lines.len in e ∙ ap (λ (l : List Cell). mask_of (touch_at kind) l c) (take_all i k (omega arith))

-- The occupied cells with their masks, row by row.
pub mask-lines : (m : ℕ) (s : List ℕ) → Lines (cells_in m s) m (λ i. (cell_at s (cell_width * i), get_or s (cell_width * i + cell_mask) 0))
unfolding cells_in
mask-lines m s =
    lines-as (lines-each id_of (row-lines cell cell_width m s))
    (λ i h.
    let e : cell_width * i + 0 ≡ cell_width * i = omega arith in
    let g = word_at cell_width m s i 0 h (omega arith) ∙ ap (λ (n : ℕ). get_or s n 0) e in
    let z = word_at cell_width m s i 1 h (omega arith) in
    let y = word_at cell_width m s i 2 h (omega arith) in
    let x = word_at cell_width m s i 3 h (omega arith) in
    let v = rest_at cell_width m s i cell_mask 0 h (omega arith) in
    λ t. (record { grid = g t; z = z t; y = y t; x = x t }, v t))

-- The bit by its three steps.
module _ (c d : Cell) (z y x : ℕ) (ez : z ≡ d.z + 1 - c.z) (ey : y ≡ d.y + 1 - c.y) (ex : x ≡ d.x + 1 - c.x) where
  place_is : (z * 3 + y) * 3 + x ≡ place_in c d
  place_is = λ i. (ez i * 3 + ey i) * 3 + ex i

  pub slot_small : (z * 3 + y) * 3 + x < 13 → (z * 3 + y) * 3 + x ≡ slot c d
  slot_small h = place_is ∙ sym (slot-low (place_in c d) (subst (λ (n : ℕ). n < 13) place_is h))

  pub slot-big : 13 ≤ (z * 3 + y) * 3 + x → (z * 3 + y) * 3 + x - 1 ≡ slot c d
  slot-big h = ap (λ (n : ℕ). n - 1) place_is ∙ sym (slot-high (place_in c d) (subst (λ (n : ℕ). 13 ≤ n) place_is h))

-- One row.
module _ (kind : ℕ) (l : List Cell) (c e : Cell) (w r : ℕ) (f : c ≡ e) (q : r ≡ mask_of (touch_at kind) l c) where
  pub row-yes : w ≡ r → row_right kind l (e, w) ≡ true
  row-yes h = eq-eqb w (mask_of (touch_at kind) l e) (h ∙ q ∙ ap (mask_of (touch_at kind) l) f)

  pub row-no : (w ≡ r → ⊥) → row_right kind l (e, w) ≡ false
  row-no n = ne_eqb w (mask_of (touch_at kind) l e) (λ h. n (h ∙ sym (q ∙ ap (mask_of (touch_at kind) l) f)))
