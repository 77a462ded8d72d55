-- What marks say of the cells where entities stand.
use Rattle.std.specs.Prelude.{ℕ, suc, ◌+◌, ◌*◌, ◌≤◌, ◌<◌, ◌≡◌, refl, Bool, true, false, cond, ◌||◌, T, ltb, length, take, get_or, set, replicate}
use Rattle.std.proofs.Common.{add-one, arith, sym, ap, ◌∙◌, subst, ⊎_elim, T_not, length-append, take-suc, get_or-set_same, get_or-set_other, get_or-take, length-take-le, lt-ltb}
use mathlib.Core.List.{List, [], ◌∷◌, ◌++◌, Memᴰ as Mem}
use Rattle.std.proofs.Math.Dec.{not_T}
use Rattle.std.proofs.lemmas.List.{length-replicate, get_or-replicate}
use Rattle.model.specs.Lists.{any, all, has, keep, equal, keys, ascending}
use Rattle.model.specs.Cells.{Cell, same, below}
use Rattle.model.proofs.Laws.Tests.{T_true, T_false, true_of, false_of, same_test}
use Rattle.model.proofs.Laws.Orders.{cells, numbers, is-or, differ}
use Rattle.model.proofs.Laws.Members.{keep_append, keep-shorter, all-in, all-out, has_of, of-has, equal-in, equal-out}
use Rattle.model.proofs.Laws.Sorted.{asc-equal, ascending-asc, ascending-in, ascending-out}
use Rattle.neighbourhood.proofs.Laws.Lines.{get_d-mem, mem-get_d, asc-index}
use Rattle.std.specs.Prelude.{Ok}
use Rattle.table.specs.Rows.{cell, cell_at, table4, is_table4, place_of}
use Rattle.table.specs.Laws.Kinds.{cell-lawful}
use Rattle.table.specs.Laws.Images.{table-facts}
use Rattle.table.specs.Laws.Answers.{found_below, found-is}
use Rattle.layout.specs.Widths.{entity_width, cell_width}
use Rattle.points_check.specs.Lines.{Lines}
use Rattle.points_check.specs.Laws.Lines.{lines_at}
use Rattle.points_check.specs.Laws.Readings.{key-lines}
use Rattle.points_check.specs.Marks.{Counted, Marked, Countable}

-- A list holds something that passes exactly if it keeps something.
some-kept : {A : Type 0} (p : A → Bool) (l : List A) → ltb 0 (length (keep p l)) ≡ any p l
some-kept p [] = refl
some-kept p (x ∷ l) = go (p x) (some-kept p l)
  where
    go : (b : Bool) → ltb 0 (length (keep p l)) ≡ any p l → ltb 0 (length (cond b (x ∷ keep p l) (keep p l))) ≡ (b || any p l)
    go true e = lt-ltb 0 (suc (length (keep p l))) (omega arith)
    go false e = e

-- Rows that are counted are marked by their numbers.
pub counted-marked : {l : List Cell} {at : ℕ → Cell} {m : ℕ} {counts : List ℕ} → Counted l at m counts → Marked l at m counts
counted-marked {l} {at} q = record { is = λ j h. ap (ltb 0) (q.is j h) ∙ some-kept (same (at j)) l }

-- Before the first member every number is 0.
pub counted_none : (at : ℕ → Cell) (m : ℕ) (counts : List ℕ) → ((j : ℕ) → j < m → get_or counts j 0 ≡ 0) → Counted [] at m counts
counted_none at m counts f = record { is = f }

-- No number passes that of the members.
pub counted-few : {l : List Cell} {at : ℕ → Cell} {m : ℕ} {counts : List ℕ} → Counted l at m counts → (j : ℕ) → j < m → get_or counts j 0 ≤ length l
counted-few {l} {at} q j h = let e = q.is j h in omega (arith, keep-shorter (same (at j)) l)

module _ (s : List ℕ) (m : ℕ) (ok : is_table4 cell_width m s ≡ true) where
  abbrev K : List Cell
  K = keys (table4 cell_width m s)

  abbrev at : ℕ → Cell
  at j = cell_at s (cell_width * j)

  keyed : Lines K m at
  keyed = key-lines cell_width m s (omega arith)

  -- Rows with the same cell are the same row.
  rows-differ : (j k : ℕ) → j < m → k < m → at j ≡ at k → j ≡ k
  rows-differ j k h g e =
      let l : length K ≡ m = keyed.len in
      asc-index cells K j k (at 0) (table-facts cell cell_width m s ok).asc (omega arith) (omega arith)
      (lines_at keyed j h (at 0) ∙ e ∙ sym (lines_at keyed k g (at 0)))

  -- The row of a cell that is found has one more.
  pub counted-more : {l : List Cell} {n : ℕ} {e : ℕ → Cell} (counts : List ℕ) (i j : ℕ) → Lines l n e → i < n → m ≤ length counts → Ok j ≡ place_of below K (e i)
      → Counted (take i l) at m counts → Counted (take (i + 1) l) at m (set counts j (get_or counts j 0 + 1))
  counted-more {l} {n} {e} counts i j r h fit f q = record { is = now }
    where
      within : j < m
      within = found_below cell cell-lawful cell_width m s (e i) j f

      there : at j ≡ e i
      there = sym (lines_at keyed j within (e i)) ∙ found-is cell cell-lawful cell_width m s (e i) j (e i) f

      more : take (i + 1) l ≡ take i l ++ e i ∷ []
      more =
          let g : length l ≡ n = r.len in
          ap (λ k. take k l) (add-one i) ∙ take-suc l i (e i) (omega arith) ∙ ap (λ x. take i l ++ x ∷ []) (lines_at r i h (e i))

      -- How many there are of a cell, by whether the next member is it.
      counted : (a : Cell) (b : Bool) → same a (e i) ≡ b → length (keep (same a) (take (i + 1) l)) ≡ cond b (length (keep (same a) (take i l)) + 1) (length (keep (same a) (take i l)))
      counted a b d =
          ap (λ k. length (keep (same a) k)) more ∙ ap length (keep_append (same a) (take i l) (e i ∷ [])) ∙ length-append (keep (same a) (take i l)) (keep (same a) (e i ∷ []))
          ∙ ap (λ (t : Bool). length (keep (same a) (take i l)) + length (cond {A = List Cell} t (e i ∷ []) [])) d ∙ go b
        where
          go : (t : Bool) → length (keep (same a) (take i l)) + length (cond {A = List Cell} t (e i ∷ []) []) ≡ cond t (length (keep (same a) (take i l)) + 1) (length (keep (same a) (take i l)))
          go true = refl
          go false = omega arith

      now : (k : ℕ) → k < m → get_or (set counts j (get_or counts j 0 + 1)) k 0 ≡ length (keep (same (at k)) (take (i + 1) l))
      now k g =
          ⊎_elim
          (λ p.
          ap (λ x. get_or (set counts j (get_or counts j 0 + 1)) x 0) p
          ∙ get_or-set_same counts j (get_or counts j 0 + 1) 0 (let b = within in omega arith)
          ∙ ap (λ x. x + 1) (q.is j within)
          ∙ sym (counted (at j) true (true_of (same (at j) (e i)) (subst (λ x. T (same (at j) x)) there (cells.same_self (at j)))))
          ∙ ap (λ x. length (keep (same (at x)) (take (i + 1) l))) (sym p))
          (λ p.
          get_or-set_other counts j k (get_or counts j 0 + 1) 0 p
          ∙ q.is k g
          ∙ sym (counted (at k) false (false_of (same (at k) (e i)) (differ cells (λ x. p (rows-differ k j g within (x ∙ sym there)))))))
          (is-or numbers k j)

  -- Where some entity's cell has no row, the cells are not those where entities stand.
  pub stood-no : (l : List Cell) → all (has same K) l ≡ false → equal same K (ascending below l) ≡ false
  stood-no l e =
      false_of (equal same K (ascending below l))
      (not_T (equal same K (ascending below l)) (λ t.
      T_not (all (has same K) l) (T_false e)
      (all-in (has same K) l (λ a k. has_of cells (subst (λ x. Mem a x) (sym (equal-out same cells.same-eq K (ascending below l) t)) (ascending-in cells l k))))))

  -- Where each entity's cell has a row and these are marked, the cells are those where entities stand if all rows are marked.
  pub stood-is : (l : List Cell) (marks : List ℕ) → all (has same K) l ≡ true → m ≤ length marks → Marked l at m marks → all (ltb 0) (take m marks) ≡ equal same K (ascending below l)
  stood-is l marks e fit q = same_test (all (ltb 0) (take m marks)) (equal same K (ascending below l)) to from
    where
      long : length (take m marks) ≡ m
      long = length-take-le m marks fit

      -- The cell of a row is a key.
      key : (j : ℕ) → j < m → Mem (at j) K
      key j h = let g : length K ≡ m = keyed.len in subst (λ x. Mem x K) (lines_at keyed j h (at 0)) (get_d-mem K j (at 0) (omega arith))

      marked : (j : ℕ) → j < m → T (all (ltb 0) (take m marks)) → Mem (at j) l
      marked j h t =
          of-has cells l (subst T (ap (ltb 0) (get_or-take m marks j 0 h) ∙ q.is j h) (all-out (ltb 0) (take m marks) t (get_d-mem (take m marks) j 0 (omega (arith, long)))))

      to : T (all (ltb 0) (take m marks)) → T (equal same K (ascending below l))
      to t =
          equal-in same cells.same_self
          (asc-equal cells K (ascending below l) (table-facts cell cell_width m s ok).asc (ascending-asc cells l)
          (λ a k.
          let r = mem-get_d K (at 0) k in
          let g : length K ≡ m = keyed.len in
          let h : r.0 < m = omega (arith, r.1, g) in
          ascending-in cells l (subst (λ x. Mem x l) (sym (lines_at keyed r.0 h (at 0)) ∙ r.2) (marked r.0 h t)))
          (λ a k. of-has cells K (all-out (has same K) l (T_true e) (ascending-out cells l k))))

      from : T (equal same K (ascending below l)) → T (all (ltb 0) (take m marks))
      from t =
          all-in (ltb 0) (take m marks) (λ v k.
          let r = mem-get_d (take m marks) 0 k in
          let h : r.0 < m = omega (arith, r.1, long) in
          subst (λ x. T (ltb 0 x)) (sym (get_or-take m marks r.0 0 h) ∙ r.2)
          (subst T (sym (q.is r.0 h))
          (has_of cells (ascending-out cells l (subst (λ x. Mem (at r.0) x) (equal-out same cells.same-eq K (ascending below l) t) (key r.0 h))))))

  pub stood-yes : {l : List Cell} {marks : List ℕ} (k : ℕ) → all (has same K) l ≡ true → length marks ≡ k → m ≤ k → Marked l at m marks
      → {r : Bool} → r ≡ all (ltb 0) (take m marks) → r ≡ equal same K (ascending below l)
  stood-yes {l} {marks} k e g h q f = f ∙ stood-is l marks e (omega arith) q

-- Marks that are not set.
pub cleared : (ents : List ℕ) (n : ℕ) (words : List ℕ) (m k : ℕ) → is_table4 cell_width m words ≡ true → entity_width * n ≤ length ents → m ≤ k → Countable ents n words m (replicate k 0)
cleared ents n words m k ok h g =
    let l = length-replicate {A = ℕ} k 0 in
    record { table = ok; there = h; space = omega arith; clear = λ j i. get_or-replicate k j 0 0 (omega arith) }
