-- The rows that a row leads to are those whose cells it touches; the cells of the unmarked rows.
use Rattle.std.specs.Prelude.{ℕ, suc, ◌+◌, ◌<◌, ◌≡◌, refl, Bool, true, ◌&&◌, T, length, drop, get_or}
use Rattle.std.proofs.Common.{add-zero, arith, ◌∙◌, subst, eq-eqb, eqb→eq}
use Rattle.std.proofs.Math.Path.{sym, ap}
use Rattle.std.proofs.Math.Bool.{not}
use mathlib.Core.List.Memᴰ.{head}
use mathlib.Core.List.Memᴰ.{tail}
use mathlib.Core.List.{List, [], ◌∷◌, Memᴰ as Mem}
use Rattle.model.specs.Lists.{each, keep, keys, count}
use Rattle.model.specs.Cells.{Cell, touch_at}
use Rattle.model.proofs.Laws.Tests.{eqb_of}
use Rattle.model.proofs.Laws.Orders.{numbers}
use Rattle.model.proofs.Laws.Members.{keep-in, keep_out, keep_all, keep-ext, keep-keep, keep-swap, keep-each, each_in, each-out, each-length, count-in, count-out, Once, once-keep, once-each}
use Rattle.model.proofs.Laws.Sorted.{asc-once, count-asc}
use Rattle.model.proofs.Laws.Kinds.{kind-touching}
use Rattle.neighbourhood.specs.Rows.{row_cell, onward}
use Rattle.neighbourhood.specs.Fronts.{is_open}
use Rattle.neighbourhood.specs.Standing.{Cells, open_cells}
use Rattle.neighbourhood.proofs.Laws.Reads.{key-is, row-once, onward-cells, onward-under}

-- A list is what stands at its numbers.
each-count : {A : Type 0} (f : ℕ → A) (l : List A) (a : ℕ) (d : A) → ((i : ℕ) → i < length l → get_or l i d ≡ f (a + i)) → each f (count a (length l)) ≡ l
each-count f [] a d h = refl
each-count f (x ∷ l) a d h =
    let z : 0 < length (x ∷ l) = omega arith in
    let first : f a ≡ x = ap f (sym (add-zero a)) ∙ sym (h 0 z) in
    let rest : each f (count (suc a) (length l)) ≡ l =
    each-count f l (suc a) d (λ i g. let u : suc i < length (x ∷ l) = omega arith in let e : a + suc i ≡ suc a + i = omega arith in h (suc i) u ∙ ap f e) in
    λ i. first i ∷ rest i

-- Members that a rule keeps apart are known by what it gives.
each-inj : {A B : Type 0} (f : A → B) (l m : List A) → ((a b : A) → Mem a l → Mem b m → f a ≡ f b → a ≡ b) → each f l ≡ each f m → l ≡ m
each-inj f [] [] g e = refl
each-inj f [] (y ∷ m) g e = absurd (omega (arith, ap length e))
each-inj f (x ∷ l) [] g e = absurd (omega (arith, ap length e))
each-inj f (x ∷ l) (y ∷ m) g e =
    let first : x ≡ y = g x y (head refl) (head refl) (ap (λ k. get_or k 0 (f x)) e) in
    let rest : l ≡ m = each-inj f l m (λ a b h k. g a b (tail h) (tail k)) (ap (drop 1) e) in
    λ i. first i ∷ rest i

-- The numbers below n are counted, and no others.
pub counted : (n j : ℕ) → j < n → Mem j (count 0 n)
counted n j h = count-in 0 n (omega arith) (omega arith)

pub counted-under : (n j : ℕ) → Mem j (count 0 n) → j < n
counted-under n j m = let r = count-out 0 n m in omega arith

module _ {kind : ℕ} (words : List ℕ) (n : ℕ) (t : List (Cell × ℕ)) (k : Cells kind words n t) where
  long : length (keys t) ≡ n
  long = each-length (λ (p : Cell × ℕ). p.0) t ∙ sym k.number

  -- The cells of all rows are the occupied cells.
  pub rows-keys : each (row_cell words) (count 0 n) ≡ keys t
  rows-keys =
      ap (λ m. each (row_cell words) (count 0 m)) (sym long)
      ∙ each-count (row_cell words) (keys t) 0 (record { grid = 0; z = 0; y = 0; x = 0 })
      (λ i h. let u : i < n = omega (arith, long) in let e : i ≡ 0 + i = omega arith in key-is words n t k i u ∙ ap (row_cell words) e)

  -- A row leads to those whose cells it touches.
  pub onward-are : (i : ℕ) → i < n → onward words n i ≡ keep (λ j. touch_at kind (row_cell words i) (row_cell words j)) (count 0 n)
  onward-are i h =
      each-inj (row_cell words) (onward words n i) (keep (λ j. touch_at kind (row_cell words i) (row_cell words j)) (count 0 n))
      (λ a b m o. row-once words n t k a b (onward-under words n t k i h a m) (counted-under n b (keep_out _ (count 0 n) o).0))
      (onward-cells words n t k i h
      ∙ ap (keep (touch_at kind (row_cell words i))) (sym rows-keys)
      ∙ keep-each (row_cell words) (touch_at kind (row_cell words i)) (count 0 n))

  pub onward-touch : (i j : ℕ) → i < n → Mem j (onward words n i) → T (touch_at kind (row_cell words i) (row_cell words j))
  onward-touch i j h m = (keep_out (λ j. touch_at kind (row_cell words i) (row_cell words j)) (count 0 n) (subst (λ l. Mem j l) (onward-are i h) m)).1

  pub touch-onward : (i j : ℕ) → i < n → j < n → T (touch_at kind (row_cell words i) (row_cell words j)) → Mem j (onward words n i)
  touch-onward i j h g u = subst (λ l. Mem j l) (sym (onward-are i h)) (keep-in (λ j. touch_at kind (row_cell words i) (row_cell words j)) (counted n j g) u)

  -- What a row leads to leads back to it.
  pub onward-back : (i j : ℕ) → i < n → Mem j (onward words n i) → Mem i (onward words n j)
  onward-back i j h m = touch-onward j i (onward-under words n t k i h j m) h ((kind-touching kind).flip (row_cell words i) (row_cell words j) (onward-touch i j h m))

  -- The unmarked cells are those that pass a test, where it tells the unmarked rows.
  pub open-where : (marks : List ℕ) (p : Cell → Bool) → ((j : ℕ) → j < n → is_open marks j ≡ p (row_cell words j)) → open_cells words n marks ≡ keep p (keys t)
  unfolding open_cells
  open-where marks p f =
      ap (each (row_cell words)) (keep-ext (is_open marks) (λ j. p (row_cell words j)) (count 0 n) (λ j m. f j (counted-under n j m)))
      ∙ sym (keep-each (row_cell words) p (count 0 n))
      ∙ ap (keep p) rows-keys

  -- Where no row is marked they are all the occupied cells.
  pub open-all : (marks : List ℕ) → ((j : ℕ) → j < n → get_or marks j 0 ≡ 0) → open_cells words n marks ≡ keys t
  open-all marks z = open-where marks (λ c. true) (λ j h. eq-eqb (get_or marks j 0) 0 (z j h)) ∙ keep_all (λ c. true) (keys t) (λ c m. tt)

  -- Where the cells that pass a test are marked besides, they are left out.
  pub open-less : (p : Cell → Bool) (marks marks' : List ℕ) → ((j : ℕ) → j < n → is_open marks' j ≡ (is_open marks j && not (p (row_cell words j))))
      → keep (λ c. not (p c)) (open_cells words n marks) ≡ open_cells words n marks'
  unfolding open_cells
  open-less p marks marks' f =
      keep-each (row_cell words) (λ c. not (p c)) (keep (is_open marks) (count 0 n))
      ∙ ap (each (row_cell words)) (keep-keep (λ j. not (p (row_cell words j))) (is_open marks) (count 0 n) ∙ sym (keep-ext (is_open marks') (λ j. is_open marks j && not (p (row_cell words j))) (count 0 n) (λ j m. f j (counted-under n j m))))

  -- The touching ones of them are the cells of the unmarked rows that a row leads to.
  pub open-touching : (i : ℕ) → i < n → (marks : List ℕ) → keep (touch_at kind (row_cell words i)) (open_cells words n marks) ≡ each (row_cell words) (keep (is_open marks) (onward words n i))
  unfolding open_cells
  open-touching i h marks =
      keep-each (row_cell words) (touch_at kind (row_cell words i)) (keep (is_open marks) (count 0 n))
      ∙ ap (each (row_cell words)) (keep-swap (λ j. touch_at kind (row_cell words i) (row_cell words j)) (is_open marks) (count 0 n) ∙ ap (keep (is_open marks)) (sym (onward-are i h)))

  -- No unmarked cell comes twice.
  pub open-once : (marks : List ℕ) → Once (open_cells words n marks)
  unfolding open_cells
  open-once marks =
      once-each (row_cell words) (keep (is_open marks) (count 0 n))
      (λ a b l m. row-once words n t k a b (counted-under n a (keep_out _ (count 0 n) l).0) (counted-under n b (keep_out _ (count 0 n) m).0))
      (once-keep (is_open marks) (count 0 n) (asc-once numbers (count-asc 0 n)))

-- The cell of an unmarked row is among them.
pub open_in : (words : List ℕ) (n : ℕ) (marks : List ℕ) (j : ℕ) → j < n → get_or marks j 0 ≡ 0 → Mem (row_cell words j) (open_cells words n marks)
unfolding open_cells
open_in words n marks j h z =
    each_in (row_cell words) (keep-in (is_open marks) (counted n j h) (eqb_of (get_or marks j 0) 0 z))

-- They are cells of unmarked rows.
pub open-out : (words : List ℕ) (n : ℕ) (marks : List ℕ) {c : Cell} → Mem c (open_cells words n marks) → (j : ℕ) × (j < n) × (get_or marks j 0 ≡ 0) × (c ≡ row_cell words j)
unfolding open_cells
open-out words n marks m =
    let r = each-out (row_cell words) (keep (is_open marks) (count 0 n)) m in
    let q = keep_out (is_open marks) (count 0 n) r.1 in
    (r.0, counted-under n r.0 q.0, eqb→eq (get_or marks r.0 0) 0 q.1, r.2)
