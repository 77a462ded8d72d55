-- The ways out of the functions on the rows of tables.
use Prim.Native.Nat.{ℕ, suc, ◌+◌, ◌*◌, ◌≤◌}
use native.Mathlib.Omega.{arith}
use mathlib.Core.Path.{◌≡◌, refl, sym, ap, ◌∙◌, subst}
use mathlib.Core.Bool.{Bool, true, false, cond, not}
use mathlib.Core.List.{List, [], ◌∷◌, ◌++◌, append_assoc, Memᴰ as Mem}
use mathlib.Core.Option.{some}
use lib.ListN.{length, take, drop, get_or, set, length-append, length-drop}
use lib.Seq.{length-take-le, take-suc, take-take, take-add, take_at, drop_at, get_or-take, get_or-drop, append_snoc, set_split}
use Rattle.component.specs.Order.{same, below}
use Rattle.component.specs.declared.Cell.{Cell}
use Rattle.model.specs.Facts.{At}
use Rattle.model.specs.Lists.{has, each, keys, put, drop_key, change}
use Rattle.model.specs.Masks.{with_bit, without_bit}
use Rattle.model.proofs.Laws.Tests.{T_true}
use Rattle.model.proofs.Laws.Orders.{cells}
use Rattle.model.proofs.Laws.Members.{of-hasnt, each-length}
use Rattle.model.proofs.Laws.Tables.{free_of, key-free, drop-free, asc-fair, free-key}
use Rattle.std.specs.Prelude.{Ok, Err}
use Rattle.table.specs.Moves.{over}
use Rattle.table.specs.Rows.{cell, cell_at, table4, stored4, is_table4, place_of}
use Rattle.table.specs.Laws.Kinds.{cell-lawful}
use Rattle.table.specs.Laws.Words.{row_at, key-at, row_fits}
use Rattle.table.specs.Laws.Images.{table-facts}
use Rattle.table.specs.Laws.Answers.{found_below, found-is, found-rest, missing-none}
use Rattle.table.specs.Laws.Next.{put_next, drop-next}
use Rattle.table.proofs.Ways.{put-stored}
use Rattle.layout.specs.Widths.{cell_mask, cell_width}
use Rattle.map.specs.Told.{TableIs, revised_mask, revised, revised_row, told_one}
use Rattle.map.specs.Laws.Tables.{put-is-change, change-missing}

-- A row that is written over the row of its cell leaves the table with it.
put-found : (w n : ℕ) (s r : List ℕ) (i : ℕ) → length r ≡ w → is_table4 w n s ≡ true → Ok i ≡ place_of below (keys (table4 w n s)) (cell_at r 0) → (u : List ℕ) → u ≡ over s (w * i) r
    → (n, u) ≡ stored4 (length s) (put below (cell_at r 0) (drop 4 r) (table4 w n s))
put-found w n s r i wide =
    subst (λ (v : ℕ). is_table4 v n s ≡ true → Ok i ≡ place_of below (keys (table4 v n s)) (cell_at r 0) → (u : List ℕ) → u ≡ over s (v * i) r
    → (n, u) ≡ stored4 (length s) (put below (cell_at r 0) (drop 4 r) (table4 v n s))) wide
    (λ ok e u q. ap (λ (v : List ℕ). (n, v)) q ∙ put-stored cell n s r cell-lawful ok (Ok i) e)

-- A word that is written in the place of a mask stands in its row, over what the row was.
pub word_over : (s : List ℕ) (i : ℕ) (joins : Bool) (w v : ℕ) → cell_width * i + cell_width ≤ length s → v ≡ revised_mask joins w (get_or s (cell_width * i + cell_mask) 0)
    → set s (cell_width * i + cell_mask) v ≡ over s (cell_width * i) (revised_row joins w (take cell_width (drop (cell_width * i) s)))
unfolding over revised_row revised
word_over s i joins w v h e =
    let a : ℕ = cell_width * i in
    let d : List ℕ = drop a s in
    let l = length-drop a s in
    let four : length (take cell_mask d) ≡ cell_mask = length-take-le cell_mask d (omega arith) in
    let row : take cell_width d ≡ take cell_mask d ++ (get_or d cell_mask 0 ∷ []) = take-suc d cell_mask 0 (omega arith) in
    let front : take cell_mask (take cell_width d) ≡ take cell_mask d = take-take cell_mask cell_width d (omega arith) in
    let back : drop cell_mask (take cell_width d) ≡ get_or s (a + cell_mask) 0 ∷ [] = ap (drop cell_mask) row ∙ drop_at (take cell_mask d) (get_or d cell_mask 0 ∷ []) cell_mask four ∙ ap (λ (n : ℕ). n ∷ []) (get_or-drop a s cell_mask 0) in
    let new : take cell_mask (take cell_width d) ++ each (revised_mask joins w) (drop cell_mask (take cell_width d)) ≡ take cell_mask d ++ (v ∷ []) = (λ k. front k ++ each (revised_mask joins w) (back k)) ∙ ap (λ (n : ℕ). take cell_mask d ++ (n ∷ [])) (sym e) in
    let five : a + length (take cell_mask d ++ (v ∷ [])) ≡ suc (a + cell_mask) = omega (arith, length-append (take cell_mask d) (v ∷ []), four) in
    set_split s (a + cell_mask) v (omega arith)
    ∙ ap (λ (x : List ℕ). x ++ (v ∷ drop (suc (a + cell_mask)) s)) (take-add a cell_mask s)
    ∙ append_assoc (take a s) (take cell_mask d) (v ∷ drop (suc (a + cell_mask)) s)
    ∙ ap (λ (x : List ℕ). take a s ++ x) (sym (append_snoc (take cell_mask d) v (drop (suc (a + cell_mask)) s)))
    ∙ ap (λ (n : ℕ). take a s ++ ((take cell_mask d ++ (v ∷ [])) ++ drop n s)) (sym five)
    ∙ ap (λ (x : List ℕ). take a s ++ (x ++ drop (a + length x) s)) (sym new)

module _ (w n : ℕ) (s : List ℕ) (ok : is_table4 w n s ≡ true) (d : Cell) (i : ℕ) where
  -- A cell that is missing is not among the keys.
  missing-out : Err i ≡ place_of below (keys (table4 w n s)) d → Mem d (keys (table4 w n s)) → ⊥
  missing-out e = key-free cells (table4 w n s) (free_of (table4 w n s) d (missing-none cell cell-lawful w n s d i ok e))

-- Either way out of a mask that is revised.
pub set_is : (w m : ℕ) (joins : Bool) → joins ≡ true → with_bit m w ≡ revised_mask joins w m
unfolding revised_mask
set_is w m joins e = ap (λ (b : Bool). cond b (with_bit m w) (without_bit m w)) (sym e)

pub clear-is : (w m : ℕ) (joins : Bool) → joins ≡ false → without_bit m w ≡ revised_mask joins w m
unfolding revised_mask
clear-is w m joins e = ap (λ (b : Bool). cond b (with_bit m w) (without_bit m w)) (sym e)

-- A row keeps its length.
revised-length : (joins : Bool) (w : ℕ) (ws : List ℕ) → length (revised joins w ws) ≡ length ws
unfolding revised
revised-length joins w ws = each-length (revised_mask joins w) ws

module _ (n : ℕ) (s : List ℕ) (ok : is_table4 cell_width n s ≡ true) (joins : Bool) (d : Cell) (w i : ℕ) where
  abbrev row : List ℕ
  row = take cell_width (drop (cell_width * i) s)

  module _ (e : Ok i ≡ place_of below (keys (table4 cell_width n s)) d) where
    -- The row that is found is within the words.
    pub found-row : cell_width * i + cell_width ≤ length s
    found-row = omega (arith, row_fits cell_width n i (found_below cell cell-lawful cell_width n s d i e), (table-facts cell cell_width n s ok).fits)

    row-length : length row ≡ cell_width
    row-length = length-take-le cell_width (drop (cell_width * i) s) (omega (arith, length-drop (cell_width * i) s, found-row))

    front : take cell_mask (revised_row joins w row) ≡ take cell_mask row
    unfolding revised_row
    front = take_at (take cell_mask row) (revised joins w (drop 4 row)) cell_mask (length-take-le cell_mask row (omega (arith, row-length)))

    back : drop cell_mask (revised_row joins w row) ≡ revised joins w (drop 4 row)
    unfolding revised_row
    back = drop_at (take cell_mask row) (revised joins w (drop 4 row)) cell_mask (length-take-le cell_mask row (omega (arith, row-length)))

    wide : length (revised_row joins w row) ≡ cell_width
    unfolding revised_row
    wide =
        length-append (take cell_mask row) (revised joins w (drop 4 row))
        ∙ omega (arith, length-take-le cell_mask row (omega (arith, row-length)), revised-length joins w (drop 4 row), length-drop 4 row, row-length)

    cell-front : (r : List ℕ) → cell_at r 0 ≡ cell_at (take cell_mask r) 0
    cell-front r = λ j. record {
      grid = sym (get_or-take cell_mask r 0 0 (omega arith)) j;
      z = sym (get_or-take cell_mask r 1 0 (omega arith)) j;
      y = sym (get_or-take cell_mask r 2 0 (omega arith)) j;
      x = sym (get_or-take cell_mask r 3 0 (omega arith)) j;
    }

    keyed : cell_at (revised_row joins w row) 0 ≡ d
    keyed =
        cell-front (revised_row joins w row) ∙ ap (λ (r : List ℕ). cell_at r 0) front ∙ sym (cell-front row)
        ∙ sym (key-at cell cell_width n s i d (found_below cell cell-lawful cell_width n s d i e)) ∙ found-is cell cell-lawful cell_width n s d i d e

    stands : At same (table4 cell_width n s) d (drop 4 row)
    stands = record { is = found-rest cell cell-lawful cell_width n s d i ok e ∙ ap (λ (r : List ℕ). some (drop 4 r)) (row_at cell_width n s i (found_below cell cell-lawful cell_width n s d i e)) }

    -- The row that is found is revised.
    pub told-found : (u : List ℕ) → u ≡ over s (cell_width * i) (revised_row joins w (take cell_width (drop (cell_width * i) s))) → TableIs cell cell_width n u (change (told_one joins d w) (table4 cell_width n s))
    unfolding told_one
    told-found u q =
        let r : List ℕ = revised_row joins w row in
        let st = put-found cell_width n s r i wide ok (e ∙ ap (place_of below (keys (table4 cell_width n s))) (sym keyed)) u q in
        let nx = put_next cell cell_width cell-lawful n s ok (length s) n u (cell_at r 0) (drop 4 r) (omega (arith, length-drop 4 r, wide)) st in
        record {
          table = nx.0;
          is = nx.1 ∙ (λ j. put below (keyed j) (back j) (table4 cell_width n s))
              ∙ put-is-change cells d (revised joins w) (table4 cell_width n s) (drop 4 row) (table-facts cell cell_width n s ok).asc stands;
        }

  -- The cell is missing, and nothing is revised.
  pub told-missing : Err i ≡ place_of below (keys (table4 cell_width n s)) d → TableIs cell cell_width n s (change (told_one joins d w) (table4 cell_width n s))
  unfolding told_one
  told-missing e = record { table = ok; is = sym (change-missing cells d (revised joins w) (table4 cell_width n s) (missing-out cell_width n s ok d i e)) }

module _ (n m : ℕ) (from to : List ℕ) (c : Cell) (okf : is_table4 cell_mask n from ≡ true) (okt : is_table4 cell_mask m to ≡ true) where
  abbrev left : List (Cell × List ℕ)
  left = table4 cell_mask n from

  abbrev joined : List (Cell × List ℕ)
  joined = table4 cell_mask m to

  -- The cell leaves the list where it is.
  pub cross-leaves : true ≡ has same (keys (table4 cell_mask n from)) c → (r : ℕ) (x : List ℕ) → (r, x) ≡ stored4 (length from) (drop_key same c (table4 cell_mask n from))
      → (TableIs cell cell_mask r x (drop_key same c (table4 cell_mask n from))) × (TableIs cell cell_mask m to (cond (has same (keys (table4 cell_mask n from)) c) (table4 cell_mask m to) (put below c [] (table4 cell_mask m to))))
  cross-leaves h r x q =
      let nx = drop-next cell cell_mask cell-lawful n from okf (length from) r x c q in
      (record { table = nx.0; is = nx.1 }, record { table = okt; is = ap (λ (b : Bool). cond b joined (put below c [] joined)) h })

  -- The cell joins the other.
  pub cross-joins : false ≡ has same (keys (table4 cell_mask n from)) c → (r : ℕ) (x : List ℕ) → (r, x) ≡ stored4 (length to) (put below c [] (table4 cell_mask m to))
      → (TableIs cell cell_mask n from (drop_key same c (table4 cell_mask n from))) × (TableIs cell cell_mask r x (cond (has same (keys (table4 cell_mask n from)) c) (table4 cell_mask m to) (put below c [] (table4 cell_mask m to))))
  cross-joins h r x q =
      let nx = put_next cell cell_mask cell-lawful m to okt (length to) r x c [] refl q in
      let s = (table-facts cell cell_mask n from okf).asc in
      let out : Mem c (keys left) → ⊥ = of-hasnt cells {a = c} (keys left) (T_true (ap not (sym h))) in (
        record { table = okf; is = sym (drop-free cells left c (asc-fair cells left s) (free-key cells left out)) },
        record { table = nx.0; is = nx.1 ∙ ap (λ (b : Bool). cond b joined (put below c [] joined)) h },
      )
