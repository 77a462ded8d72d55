-- Ids that agree with the marks of connected parts are shared exactly by joined cells.
use Rattle.std.specs.Prelude.{ℕ, suc, ◌+◌, ◌*◌, ◌≤◌, ◌<◌, ◌≡◌, refl, ◌↔◌, Bool, true, false, cond, ◌&&◌, ◌||◌, not, T, eqb, length, replicate}
use Rattle.std.proofs.Common.{add-one, arith, ◌∙◌, subst, subst₂, ⊎_elim, T_not, eqb→eq}
use Rattle.std.proofs.Math.Path.{sym, ap}
use mathlib.Core.List.{List, Memᴰ as Mem}
use Rattle.std.proofs.Math.ListN.{get_or}
use Rattle.std.proofs.lemmas.List.{length-replicate, get_or-replicate}
use Rattle.model.specs.Facts.{Shared}
use Rattle.model.specs.Lists.{all, keys, count}
use Rattle.model.specs.Cells.{Cell, touch_at}
use Rattle.model.specs.Groups.{Ids}
use Rattle.model.specs.Paths.{Joined}
use Rattle.model.proofs.Laws.Tests.{same_test, eqb_of, or_cases, or_right}
use Rattle.model.proofs.Laws.Members.{all-in, all-out, count-in, count-out}
use Rattle.model.proofs.Laws.Shared.{shared-in, shared-out, agree-in, agree-out}
use Rattle.model.specs.Shared.{shared_in}
use Rattle.model.proofs.Laws.Kinds.{kind-touching}
use Rattle.neighbourhood.proofs.Laws.Lines.{get_d-mem, mem-get_d}
use Rattle.neighbourhood.specs.Rows.{row_cell}
use Rattle.neighbourhood.specs.Standing.{Cells, HasTable}
use Rattle.neighbourhood.proofs.Laws.Reads as flooded
use Rattle.table.specs.Rows.{cell, cell_at, table4}
use Rattle.table.specs.Laws.Words.{word_at, rest_at}
use Rattle.layout.specs.Rows.{id_of, ids_in}
use Rattle.points_check.specs.Lines.{Lines}
use Rattle.points_check.specs.Laws.Lines.{lines_at, lines-as, lines-each}
use Rattle.points_check.specs.Laws.Readings.{row-lines, key-lines, ids-keys}
use Rattle.layout.specs.Widths.{cell_width, id_width, cell_id}
use Rattle.parts_check.specs.Agree.{id_at, agree_at, first_agrees, Partable}
use Rattle.parts_check.specs.Parts.{Linked, Labelled}
use Rattle.parts_check.specs.Laws.Parts.{label_of, linked-same, same-linked, first-marked}

-- A pair of tests agrees, or it does not.
pub agreed : (a b : Bool) → ((a && not b) || (not a && b)) ≡ false → cond a b (not b) ≡ true
agreed true true e = refl
agreed true false e = sym e
agreed false true e = sym e
agreed false false e = refl

pub disagreed : (a b : Bool) → ((a && not b) || (not a && b)) ≡ true → cond a b (not b) ≡ false
disagreed true true e = sym e
disagreed true false e = refl
disagreed false true e = refl
disagreed false false e = sym e

-- A member by its number.
lines-mem : {A : Type 0} {l : List A} {n : ℕ} {at : ℕ → A} → Lines l n at → (i : ℕ) → i < n → Mem (at i) l
lines-mem {l} {n} {at} r i h = let e : length l ≡ n = r.len in subst (λ x. Mem x l) (lines_at r i h (at i)) (get_d-mem l i (at i) (omega arith))

-- The number of a member.
mem-lines : {A : Type 0} {l : List A} {n : ℕ} {at : ℕ → A} → Lines l n at → {a : A} → Mem a l → (i : ℕ) × (i < n) × (a ≡ at i)
mem-lines {l} {n} {at} r {a} m =
    let q = mem-get_d l a m in
    let e : length l ≡ n = r.len in
    let h : q.0 < n = omega (arith, q.1) in
    (q.0, h, sym q.2 ∙ lines_at r q.0 h a)

-- Each row of ids is its cell and its id.
id-rows : (m : ℕ) (s : List ℕ) → Lines (ids_in m s) m (λ i. (cell_at s (id_width * i), id_at s i))
unfolding ids_in
id-rows m s =
    lines-as (lines-each id_of (row-lines cell id_width m s)) (λ i h.
    let e : id_width * i + 0 ≡ id_width * i = omega arith in
    let g = word_at id_width m s i 0 h (omega arith) ∙ ap (λ k. get_or s k 0) e in
    let z = word_at id_width m s i 1 h (omega arith) in
    let y = word_at id_width m s i 2 h (omega arith) in
    let x = word_at id_width m s i 3 h (omega arith) in
    let v = rest_at id_width m s i cell_id 0 h (omega arith) in
    λ t. (record { grid = g t; z = z t; y = y t; x = x t }, v t))

module _ {kind : ℕ} (words : List ℕ) (m : ℕ) (t : List (Cell × ℕ)) (k : Cells kind words m t) (ids marks : List ℕ) (same_keys : keys (table4 id_width m ids) ≡ keys t) (d : Labelled kind words m t m marks) where
  abbrev rows : Ids
  rows = ids_in m ids

  rows-keys : keys rows ≡ keys t
  rows-keys = ids-keys m ids ∙ same_keys

  -- The cell of a row of ids is the cell of that row.
  row_is : (j : ℕ) → j < m → cell_at ids (id_width * j) ≡ row_cell words j
  unfolding row_cell
  row_is j h =
      let o : Cell = record { grid = 0; z = 0; y = 0; x = 0 } in
      sym (lines_at (key-lines id_width m ids (omega arith)) j h o)
      ∙ ap (λ (l : List Cell). get_or l j o) (same_keys ∙ sym (flooded.cells-keys words m t k))
      ∙ lines_at (key-lines cell_width m words (omega arith)) j h o

  -- A path of cells with an id is a path of occupied cells.
  path-in : (i j : ℕ) → i < m → j < m → Joined (touch_at kind) (keys rows) (cell_at ids (id_width * i)) (cell_at ids (id_width * j)) → Linked kind words t i j
  path-in i j h g w =
      subst₂ (λ (a b : Cell). Joined (touch_at kind) (keys t) a b) (row_is i h) (row_is j g)
      (subst (λ (l : List Cell). Joined (touch_at kind) l (cell_at ids (id_width * i)) (cell_at ids (id_width * j))) rows-keys w)

  path-out : (i j : ℕ) → i < m → j < m → Linked kind words t i j → Joined (touch_at kind) (keys rows) (cell_at ids (id_width * i)) (cell_at ids (id_width * j))
  path-out i j h g w =
      subst (λ (l : List Cell). Joined (touch_at kind) l (cell_at ids (id_width * i)) (cell_at ids (id_width * j))) (sym rows-keys)
      (subst₂ (λ (a b : Cell). Joined (touch_at kind) (keys t) a b) (sym (row_is i h)) (sym (row_is j g)) w)

  abbrev firsts-agree : Bool
  firsts-agree = all (first_agrees ids m marks) (count 0 m)

  module _ (u : T firsts-agree) where
    -- The first row of a part agrees with each row.
    first-agrees : (f j : ℕ) → f < m → j < m → get_or marks f 0 ≡ suc f → ((id_at ids f ≡ id_at ids j) ↔ (get_or marks f 0 ≡ get_or marks j 0))
    first-agrees f j h g e =
        let one : T (eqb (get_or marks f 0) (f + 1)) = eqb_of (get_or marks f 0) (f + 1) (e ∙ sym (add-one f)) in
        let a : T (all (agree_at ids marks f) (count 0 m)) =
        ⊎_elim (λ n. absurd (T_not (eqb (get_or marks f 0) (f + 1)) n one)) (λ x. x)
        (or_cases (not (eqb (get_or marks f 0) (f + 1))) (all (agree_at ids marks f) (count 0 m)) (all-out (first_agrees ids m marks) (count 0 m) u (count-in 0 m (omega arith) (omega arith)))) in
        let p = agree-out (eqb (id_at ids f) (id_at ids j)) (eqb (get_or marks f 0) (get_or marks j 0)) (all-out (agree_at ids marks f) (count 0 m) a (count-in 0 m (omega arith) (omega arith))) in (
          λ x. eqb→eq (get_or marks f 0) (get_or marks j 0) (p.0 (eqb_of (id_at ids f) (id_at ids j) x)),
          λ x. eqb→eq (id_at ids f) (id_at ids j) (p.1 (eqb_of (get_or marks f 0) (get_or marks j 0) x)),
        )

    -- Two rows have one id exactly if they have one mark.
    ids-marks : (i j : ℕ) → i < m → j < m → ((id_at ids i ≡ id_at ids j) ↔ (get_or marks i 0 ≡ get_or marks j 0))
    ids-marks i j h g =
        let l = label_of words m t k m marks (omega arith) d i h in
        let f : ℕ = l.0 in
        let b : f < m = (d.some i f h l.1).0 in
        let e : get_or marks f 0 ≡ suc f = first-marked words m t k m marks (omega arith) d i f h l.1 b in
        let here : id_at ids f ≡ id_at ids i = (first-agrees f i b h e).1 (e ∙ sym l.1) in
        let q = first-agrees f j b g e in
        (λ x. l.1 ∙ sym e ∙ q.0 (here ∙ x), λ x. sym here ∙ q.1 (e ∙ sym l.1 ∙ x))

    agree-shared : Shared (touch_at kind) rows
    agree-shared p q x y =
        let i = mem-lines (id-rows m ids) x in
        let j = mem-lines (id-rows m ids) y in
        let a : p.1 ≡ id_at ids i.0 = ap (λ (z : Cell × ℕ). z.1) i.2 in
        let b : q.1 ≡ id_at ids j.0 = ap (λ (z : Cell × ℕ). z.1) j.2 in
        let s = ids-marks i.0 j.0 i.1 j.1 in (
          λ e. subst₂ (λ (z v : Cell × ℕ). Joined (touch_at kind) (keys rows) z.0 v.0) (sym i.2) (sym j.2)
              (path-out i.0 j.0 i.1 j.1 (same-linked words m t k m marks (omega arith) d i.0 j.0 i.1 j.1 (s.0 (sym a ∙ e ∙ b)))),
          λ w. a ∙ s.1 (linked-same words m t k m marks (omega arith) d i.0 j.0 i.1 j.1
              (path-in i.0 j.0 i.1 j.1 (subst₂ (λ (z v : Cell × ℕ). Joined (touch_at kind) (keys rows) z.0 v.0) i.2 j.2 w))) ∙ sym b,
        )

  shared-agree : Shared (touch_at kind) rows → T firsts-agree
  shared-agree s =
      all-in (first_agrees ids m marks) (count 0 m) (λ i x. let h : i < m = let r = count-out 0 m x in let b = r.1 in omega arith in
      or_right (not (eqb (get_or marks i 0) (i + 1))) (all (agree_at ids marks i) (count 0 m))
      (all-in (agree_at ids marks i) (count 0 m) (λ j y. let g : j < m = let r = count-out 0 m y in let b = r.1 in omega arith in
      let q = s (cell_at ids (id_width * i), id_at ids i) (cell_at ids (id_width * j), id_at ids j) (lines-mem (id-rows m ids) i h) (lines-mem (id-rows m ids) j g) in
      agree-in (eqb (id_at ids i) (id_at ids j)) (eqb (get_or marks i 0) (get_or marks j 0))
      (λ u. eqb_of (get_or marks i 0) (get_or marks j 0) (linked-same words m t k m marks (omega arith) d i j h g (path-in i j h g (q.0 (eqb→eq (id_at ids i) (id_at ids j) u)))))
      (λ u. eqb_of (id_at ids i) (id_at ids j) (q.1 (path-out i j h g (same-linked words m t k m marks (omega arith) d i j h g (eqb→eq (get_or marks i 0) (get_or marks j 0) u))))))))

  -- Whether the first rows agree with all rows is whether ids are shared exactly by joined cells.
  pub agreement : firsts-agree ≡ shared_in (touch_at kind) rows
  agreement =
      same_test firsts-agree (shared_in (touch_at kind) rows)
      (λ u. shared-in (touch_at kind) (kind-touching kind).flip rows (agree-shared u))
      (λ u. shared-agree (shared-out (touch_at kind) (kind-touching kind).flip rows u))

-- Marks and a queue that are not set.
pub unmarked : (words : List ℕ) (n len : ℕ) → HasTable words n → n ≤ len → Partable words n (replicate len 0) (replicate len 0)
unmarked words n len s h =
    let l = length-replicate {A = ℕ} len 0 in
    record { stands = s; marks_fit = omega arith; queue_fits = omega arith; clear = λ j i. get_or-replicate len j 0 0 (omega arith) }
