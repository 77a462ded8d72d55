-- Rule 2, row by row: the rows that stay are moved to the front, and zeros come in behind them.
use Rattle.std.specs.Prelude.{ℕ, ◌+◌, ◌-◌, ◌*◌, ◌≤◌, ◌<◌, ◌≡◌, refl, Bool, true, false, not, T, take, get_or, replicate}
use native.Mathlib.Omega.{arith}
use Rattle.std.proofs.Common.{add-one, ◌∙◌, subst, get_or-drop, take_all}
use Rattle.std.proofs.Math.Path.{sym, ap}
use Rattle.std.proofs.Math.Bool.{cond}
use mathlib.Core.List.{List, [], ◌∷◌, ◌++◌, append_assoc, append-nil}
use Rattle.std.proofs.Math.ListN.{length, drop, length-append}
use Rattle.std.proofs.lemmas.List.{length-replicate, replicate-append-replicate}
use Rattle.std.proofs.Math.Seq.{take_at, drop_at, drop-drop, length-take-le}
use Rattle.model.specs.Lists.{has}
use Rattle.model.specs.Cells.{Cell, same, cell_in_range}
use Rattle.model.specs.Groups.{Ids}
use Rattle.model.proofs.Laws.Orders.{cells}
use Rattle.model.proofs.Laws.Members.{keep_append, keep_out, key_in, key-out}
use Rattle.model.proofs.Laws.Tables.{only-asc}
use Rattle.table.specs.Moves.{over}
use Rattle.table.specs.Rows.{cell_at, image_of}
use Rattle.layout.specs.Rows.{ids_image}
use Rattle.layout.specs.Widths.{id_width, cell_id}
use Rattle.partition.specs.Held.{HeldRows, words_of, stay, Sifted, row_in}
use Rattle.partition.specs.Laws.Held.{ids-at}
use Rattle.partition.specs.Laws.Ids.{words_long, words_append}
use Rattle.partition.specs.Laws.Join.{take_more}

-- Nothing is sifted yet.
pub sift-none : (words : List ℕ) (l : List Cell) (t : Ids) → Sifted words 0 0 l t
sift-none words l t = record { count = refl; front = refl }

module _ (words₀ words : List ℕ) (n : ℕ) (t : Ids) (held : HeldRows words₀ n t) (l : List Cell) (i j : ℕ) (h : i < n)
    (back : drop (id_width * j) words ≡ drop (id_width * j) words₀) (long : id_width * n ≤ length words) (low : j ≤ i) (so : Sifted words i j l t) where
  word_back : (a : ℕ) → get_or words (id_width * i + a) 0 ≡ get_or words₀ (id_width * i + a) 0
  word_back a =
      let e : id_width * j + (id_width * (i - j) + a) ≡ id_width * i + a = omega arith in
      ap (λ (m : ℕ). get_or words m 0) (sym e)
      ∙ sym (get_or-drop (id_width * j) words (id_width * (i - j) + a) 0)
      ∙ ap (λ (w : List ℕ). get_or w (id_width * (i - j) + a) 0) back
      ∙ get_or-drop (id_width * j) words₀ (id_width * (i - j) + a) 0
      ∙ ap (λ (m : ℕ). get_or words₀ m 0) e

  word_first : get_or words (id_width * i) 0 ≡ get_or words₀ (id_width * i) 0
  word_first = ap (λ (m : ℕ). get_or words m 0) z ∙ word_back 0 ∙ ap (λ (m : ℕ). get_or words₀ m 0) (sym z)
    where
      z : id_width * i ≡ id_width * i + 0
      z = omega arith

  cell-back : cell_at words (id_width * i) ≡ cell_at words₀ (id_width * i)
  cell-back = λ k. record { grid = word_first k; z = word_back 1 k; y = word_back 2 k; x = word_back 3 k }

  next-rows : stay l (take (i + 1) t) ≡ stay l (take i t) ++ stay l (row_in words₀ i ∷ [])
  next-rows =
      ap (λ (m : ℕ). stay l (take m t)) (add-one i)
      ∙ ap (stay l) (take_more t i (row_in words₀ i) (ids-at words₀ n t held i h))
      ∙ keep_append (λ (p : Cell × ℕ). not (has same l p.0)) (take i t) (row_in words₀ i ∷ [])

  next-is : (b : Bool) → b ≡ has same l (cell_at words (id_width * i)) → stay l (take (i + 1) t) ≡ stay l (take i t) ++ cond (not b) (row_in words₀ i ∷ []) []
  next-is b e = next-rows ∙ ap (λ (x : Bool). stay l (take i t) ++ cond (not x) (row_in words₀ i ∷ []) []) (sym (e ∙ ap (has same l) cell-back))

  -- Row i goes.
  pub sift-drop : (b : Bool) → b ≡ has same l (cell_at words (id_width * i)) → b ≡ true → Sifted words (i + 1) j l t
  sift-drop b e y =
      let a : stay l (take (i + 1) t) ≡ stay l (take i t) = next-is b e ∙ ap (λ (x : Bool). stay l (take i t) ++ cond (not x) (row_in words₀ i ∷ []) []) y ∙ append-nil (stay l (take i t)) in
      record { count = so.count ∙ ap length (sym a); front = so.front ∙ ap words_of (sym a) }

  abbrev copied : List ℕ
  copied = words_of (row_in words i ∷ [])

  copied_is : copied ≡ words_of (row_in words₀ i ∷ [])
  copied_is = λ k. words_of ((cell-back k, word_back cell_id k) ∷ [])

  -- Row i stays, and is copied to row j.
  pub sift-keep : (b : Bool) → b ≡ has same l (cell_at words (id_width * i)) → b ≡ false → (x : List ℕ) → x ≡ over words (id_width * j) copied → Sifted x (i + 1) (j + 1) l t
  unfolding over
  sift-keep b e y x q =
      let a : stay l (take (i + 1) t) ≡ stay l (take i t) ++ row_in words₀ i ∷ [] = next-is b e ∙ ap (λ (z : Bool). stay l (take i t) ++ cond (not z) (row_in words₀ i ∷ []) []) y in
      let p : length (take (id_width * j) words) ≡ id_width * j = length-take-le (id_width * j) words (omega arith) in
      let d : length (take (id_width * j) words ++ copied) ≡ id_width * (j + 1) = length-append (take (id_width * j) words) copied ∙ omega arith in
      record {
        count = omega (arith, so.count, ap length a, length-append (stay l (take i t)) (row_in words₀ i ∷ []));
        front =
            ap (take (id_width * (j + 1))) (q ∙ sym (append_assoc (take (id_width * j) words) copied (drop (id_width * j + id_width) words)))
            ∙ take_at (take (id_width * j) words ++ copied) (drop (id_width * j + id_width) words) (id_width * (j + 1)) d
            ∙ (λ k. so.front k ++ copied_is k)
            ∙ sym (words_append (stay l (take i t)) (row_in words₀ i ∷ []))
            ∙ ap words_of (sym a);
      }

  -- Behind row j the words are as they were.
  pub sift-back : (x : List ℕ) → x ≡ over words (id_width * j) copied → drop (id_width * (j + 1)) x ≡ drop (id_width * (j + 1)) words₀
  unfolding over
  sift-back x q =
      let p : length (take (id_width * j) words) ≡ id_width * j = length-take-le (id_width * j) words (omega arith) in
      let d : length (take (id_width * j) words ++ copied) ≡ id_width * j + id_width = length-append (take (id_width * j) words) copied ∙ omega arith in
      let f : id_width * (j + 1) ≡ id_width * j + id_width = omega arith in
      ap (λ (m : ℕ). drop m x) f
      ∙ ap (drop (id_width * j + id_width)) (q ∙ sym (append_assoc (take (id_width * j) words) copied (drop (id_width * j + id_width) words)))
      ∙ drop_at (take (id_width * j) words ++ copied) (drop (id_width * j + id_width) words) (id_width * j + id_width) d
      ∙ sym (drop-drop id_width (id_width * j) words)
      ∙ ap (drop id_width) back
      ∙ drop-drop id_width (id_width * j) words₀
      ∙ ap (λ (m : ℕ). drop m words₀) (sym f)

-- The words behind the rows of a table are zero.
behind-zero : (words : List ℕ) (n : ℕ) (t : Ids) → HeldRows words n t → drop (id_width * n) words ≡ replicate (length words - id_width * n) 0
unfolding ids_image image_of
behind-zero words n t held =
    let c : n ≡ length t = held.count in
    let l : length (words_of t) ≡ id_width * n = words_long t ∙ ap (λ (m : ℕ). id_width * m) (sym c) in
    ap (drop (id_width * n)) held.image
    ∙ drop_at (words_of t) (replicate (length words - length (words_of t)) 0) (id_width * n) l
    ∙ ap (λ (m : ℕ). replicate (length words - m) 0) l

-- All rows are sifted, and zeros are written behind those that stay.
pub sift-all : (words₀ words x : List ℕ) (n : ℕ) (t : Ids) → HeldRows words₀ n t → (l : List Cell) (j : ℕ) → j ≤ n
    → drop (id_width * j) words ≡ drop (id_width * j) words₀ → length words ≡ length words₀ → Sifted words n j l t
    → x ≡ over words (id_width * j) (replicate (id_width * (n - j)) 0) → HeldRows x j (stay l t)
unfolding ids_image image_of over
sift-all words₀ words x n t held l j h back long so q =
    let c : n ≡ length t = held.count in
    let fits : id_width * n ≤ length words₀ = held.fits in
    let u : take n t ≡ t = take_all n t (omega arith) in
    let len : ℕ = length words in
    let cnt : j ≡ length (stay l t) = so.count ∙ ap (λ (v : Ids). length (stay l v)) u in
    let wl : length (words_of (stay l t)) ≡ id_width * j = words_long (stay l t) ∙ ap (λ (m : ℕ). id_width * m) (sym cnt) in
    let z : id_width * j + length (replicate {A = ℕ} (id_width * (n - j)) 0) ≡ id_width * n = omega (arith, length-replicate {A = ℕ} (id_width * (n - j)) 0) in
    let s : id_width * j + id_width * (n - j) ≡ id_width * n = omega arith in
    let b : drop (id_width * n) words ≡ replicate (len - id_width * n) 0 =
    ap (λ (m : ℕ). drop m words) (sym s) ∙ sym (drop-drop (id_width * (n - j)) (id_width * j) words) ∙ ap (drop (id_width * (n - j))) back ∙ drop-drop (id_width * (n - j)) (id_width * j) words₀ ∙ ap (λ (m : ℕ). drop m words₀) s ∙ behind-zero words₀ n t held ∙ ap (λ (m : ℕ). replicate (m - id_width * n) 0) (sym long) in
    let w : id_width * (n - j) + (len - id_width * n) ≡ len - id_width * j = omega arith in
    let y : x ≡ words_of (stay l t) ++ replicate (len - id_width * j) 0 =
    q ∙ (λ k. (so.front ∙ ap (λ (v : Ids). words_of (stay l v)) u) k ++ (replicate (id_width * (n - j)) 0 ++ (ap (λ (m : ℕ). drop m words) z ∙ b) k))
    ∙ ap (λ (v : List ℕ). words_of (stay l t) ++ v) (replicate-append-replicate (id_width * (n - j)) (len - id_width * n) 0 ∙ ap (λ (m : ℕ). replicate m 0) w) in
    let lx : length x ≡ len = ap length y ∙ length-append (words_of (stay l t)) (replicate (len - id_width * j) 0) ∙ omega (arith, length-replicate {A = ℕ} (len - id_width * j) 0) in
    let v : len - id_width * j ≡ length x - length (words_of (stay l t)) = omega arith in
    record {
      image = y ∙ ap (λ (m : ℕ). words_of (stay l t) ++ replicate m 0) v;
      count = cnt;
      asc = only-asc cells (λ d. not (has same l d)) t held.asc;
      ranged = λ d k. let o = key-out (stay l t) k in
          subst (λ (a : Cell). T (cell_in_range a)) (sym o.2) (held.ranged o.0.0 (key_in (keep_out (λ (p : Cell × ℕ). not (has same l p.0)) t o.1).0));
      fits = omega arith;
    }
