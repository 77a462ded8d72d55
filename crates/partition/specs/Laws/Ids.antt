-- Cells with ids in words: what a search finds, and what is held after a row is put, taken out or given another id.
use Prim.Native.Nat.{ℕ, suc, ◌+◌, ◌-◌, ◌*◌, ◌≤◌, ◌<◌}
use native.Mathlib.Omega.{arith}
use Rattle.std.specs.Prelude.{◌≡◌, refl, true, T, take, drop, get_or, set}
use Rattle.std.proofs.Math.Path.{sym, ap}
use Rattle.std.proofs.Common.{◌∙◌, subst, ⊎_elim, length-append, length-set, take-append-drop, length-take-le}
use mathlib.Core.List.{List, [], ◌∷◌, ◌++◌, append_assoc, Memᴰ as Mem}
use Rattle.std.proofs.Math.Option.{Option, none, some}
use Rattle.std.proofs.Math.ListN.{length, replicate}
use Rattle.std.proofs.lemmas.List.{set_at}
use Rattle.model.specs.Lists.{each, keys, get, put, gather}
use Rattle.model.specs.Cells.{Cell, same, below, cell_in_range}
use Rattle.model.specs.Groups.{Ids}
use Rattle.model.proofs.Laws.Orders.{cells}
use Rattle.model.proofs.Laws.Members.{each-length, each_append, gather_append, key_in, key-out}
use Rattle.model.specs.Facts.{Asc}
use Rattle.model.proofs.Laws.Tables.{put-asc, put-out}
use Rattle.table.specs.Rows.{cell, cell_at, cell_words, rows_of, row_of, table_of, image_of, stored_of, is_table_of, has_room_of, place_of, key4}
use Rattle.std.specs.Prelude.{Ok, Err}
use Rattle.table.specs.Laws.Kinds.{cell-lawful}
use Rattle.table.specs.Laws.Answers.{found_below, found-rest, missing-none}
use Rattle.table.specs.Laws.Images.{words-length}
use Rattle.table.specs.Laws.Next.{room-space}
use Rattle.table.specs.Laws.Words.{rest_at}
use Rattle.layout.specs.Rows.{id_row, ids_image}
use Rattle.layout.specs.Widths.{id_width, cell_id}
use Rattle.partition.specs.Held.{HeldRows, words_of, row_in}
use Rattle.partition.specs.Laws.Held.{on_some, through-get, through-put, put-shorter, rows-wide, stored-length, ids-table, ids-rows, ids-at, none-some, some_inj, one_id}

-- Each row has five words.
pub words_long : (t : Ids) → length (words_of t) ≡ id_width * length t
words_long t = words-length cell cell-lawful id_width (each id_row t) (rows-wide cell id_width id_row (λ a. refl) t) ∙ ap (λ (m : ℕ). id_width * m) (each-length id_row t)

pub words_append : (a b : Ids) → words_of (a ++ b) ≡ words_of a ++ words_of b
words_append a b = ap (gather (row_of cell)) (each_append id_row a b) ∙ gather_append (row_of cell) (each id_row a) (each id_row b)

keys-again : (a b : Ids) (c : Cell) (g v : ℕ) → keys (a ++ (c, g) ∷ b) ≡ keys (a ++ (c, v) ∷ b)
keys-again a b c g v = each_append (λ (p : Cell × ℕ). p.0) a ((c, g) ∷ b) ∙ sym (each_append (λ (p : Cell × ℕ). p.0) a ((c, v) ∷ b))

length-again : (a b : Ids) (c : Cell) (g v : ℕ) → length (a ++ (c, g) ∷ b) ≡ length (a ++ (c, v) ∷ b)
length-again a b c g v = length-append a ((c, g) ∷ b) ∙ sym (length-append a ((c, v) ∷ b))

module _ (len : ℕ) (a b : Ids) (c : Cell) where
  abbrev behind : ℕ → List ℕ
  behind m = words_of b ++ replicate (len - m) 0

  image-form : (g : ℕ) → ids_image len (a ++ (c, g) ∷ b) ≡ (words_of a ++ cell_words c) ++ g ∷ behind (id_width * length (a ++ (c, g) ∷ b))
  unfolding ids_image image_of
  image-form g =
      (λ i. words_of (a ++ (c, g) ∷ b) ++ replicate (len - words_long (a ++ (c, g) ∷ b) i) 0)
      ∙ ap (λ (w : List ℕ). w ++ replicate (len - id_width * length (a ++ (c, g) ∷ b)) 0) (words_append a ((c, g) ∷ b))
      ∙ append_assoc (words_of a) (words_of ((c, g) ∷ b)) (replicate (len - id_width * length (a ++ (c, g) ∷ b)) 0)
      ∙ sym (append_assoc (words_of a) (cell_words c) (g ∷ behind (id_width * length (a ++ (c, g) ∷ b))))

  -- The word of an id is written.
  set-image : (g v at : ℕ) → id_width * length a + cell_id ≡ at → set (ids_image len (a ++ (c, g) ∷ b)) at v ≡ ids_image len (a ++ (c, v) ∷ b)
  set-image g v at h =
      ap (λ (w : List ℕ). set w at v) (image-form g)
      ∙ set_at (words_of a ++ cell_words c) g (behind (id_width * length (a ++ (c, g) ∷ b))) v at (length-append (words_of a) (cell_words c) ∙ omega (arith, words_long a))
      ∙ ap (λ (m : ℕ). (words_of a ++ cell_words c) ++ v ∷ behind (id_width * m)) (length-again a b c g v)
      ∙ sym (image-form v)

module _ (words : List ℕ) (n : ℕ) (t : Ids) (held : HeldRows words n t) where
  -- The rows before row i, row i, and the rows behind it.
  ids-split : (i : ℕ) → i < n → t ≡ take i t ++ row_in words i ∷ drop (suc i) t
  ids-split i h = sym (take-append-drop i t) ∙ ap (λ (u : Ids). take i t ++ u) (ids-at words n t held i h)

  -- Row i is given the id v.
  pub ids_set : (i v : ℕ) → i < n → HeldRows (set words (id_width * i + cell_id) v) n (take i t ++ (cell_at words (id_width * i), v) ∷ drop (suc i) t)
  ids_set i v h =
      let c : Cell = cell_at words (id_width * i) in
      let g : ℕ = get_or words (id_width * i + cell_id) 0 in
      let u : Ids = take i t ++ (c, v) ∷ drop (suc i) t in
      let e = ids-split i h in
      let k : n ≡ length t = held.count in
      let l : length (take i t) ≡ i = length-take-le i t (omega arith) in
      let s : keys u ≡ keys t = keys-again (take i t) (drop (suc i) t) c v g ∙ ap keys (sym e) in
      let m : length (set words (id_width * i + cell_id) v) ≡ length words = length-set words (id_width * i + cell_id) v in
      record {
        image =
            ap (λ (w : List ℕ). set w (id_width * i + cell_id) v) (held.image ∙ ap (ids_image (length words)) e)
            ∙ set-image (length words) (take i t) (drop (suc i) t) c g v (id_width * i + cell_id) (omega arith)
            ∙ ap (λ (z : ℕ). ids_image z u) (sym m);
        count = k ∙ ap length e ∙ length-again (take i t) (drop (suc i) t) c g v;
        asc = subst (λ (x : List Cell). Asc below x) (sym s) held.asc;
        ranged = λ d y. held.ranged d (subst (λ (x : List Cell). Mem d x) s y);
        fits = omega (arith, held.fits);
      }

  ids-get : (d : Cell) → get same (table_of cell id_width n words) d ≡ on_some one_id (get same t d)
  ids-get d = ap (λ (u : List (Cell × List ℕ)). get same u d) (ids-rows words n t held) ∙ through-get one_id same t d

  -- A cell that is not found has no id.
  pub row-missing : (d : Cell) (i : ℕ) → Err i ≡ place_of below (keys (table_of cell id_width n words)) d → get same t d ≡ none
  row-missing d i e = go (get same t d) (sym (ids-get d) ∙ missing-none cell cell-lawful id_width n words d i (ids-table words n t held) e)
    where
      go : (o : Option ℕ) → on_some one_id o ≡ none → o ≡ none
      go none f = refl
      go (some r) f = absurd (none-some f)

  -- A cell that is found has the id of its row.
  pub row-found : (d : Cell) (i : ℕ) → Ok i ≡ place_of below (keys (table_of cell id_width n words)) d → (i < n) × (get same t d ≡ some (get_or words (id_width * i + cell_id) 0))
  row-found d i e =
      let h : i < n = found_below cell cell-lawful id_width n words d i e in
      let w : get_or (drop cell_id (get_or (rows_of id_width n words) i [])) 0 0 ≡ get_or words (id_width * i + cell_id) 0 = rest_at id_width n words i cell_id 0 h (omega arith) in
      (h, go (get same t d) (sym (found-rest cell cell-lawful id_width n words d i (ids-table words n t held) e) ∙ ids-get d) w)
    where
      go : (o : Option ℕ) → some (drop cell_id (get_or (rows_of id_width n words) i [])) ≡ on_some one_id o → get_or (drop cell_id (get_or (rows_of id_width n words) i [])) 0 0 ≡ get_or words (id_width * i + cell_id) 0
          → o ≡ some (get_or words (id_width * i + cell_id) 0)
      go none f w = absurd (none-some f)
      go (some g) f w = ap (λ (x : ℕ). some x) (sym (ap (λ (r : List ℕ). get_or r 0 0) (some_inj f)) ∙ w)

  -- What is held after rows are stored that are no more than fit.
  stored-held : (u : Ids) (r : ℕ) (x : List ℕ) → id_width * length u ≤ length words → Asc below (keys u) → ((c : Cell) → Mem c (keys u) → T (cell_in_range c))
      → ◌≡◌ {A = ℕ × List ℕ} (r, x) (stored_of cell (length words) (each id_row u)) → HeldRows x r u
  unfolding ids_image
  stored-held u r x f a g q =
      let m : r ≡ length u = ap (λ (p : ℕ × List ℕ). p.0) q ∙ each-length id_row u in
      let y : x ≡ image_of cell (length words) (each id_row u) = ap (λ (p : ℕ × List ℕ). p.1) q in
      let z : length x ≡ length words = ap length y ∙ stored-length cell id_width id_row (λ b. refl) cell-lawful (omega arith) (length words) u f in
      record { image = y ∙ ap (λ (len : ℕ). image_of cell len (each id_row u)) (sym z); count = m; asc = a; ranged = g; fits = omega arith }

  -- A row of a cell can be put.
  pub push-asks : (c : Cell) (g : ℕ) → id_width * n + id_width ≤ length words
      → (is_table_of cell id_width n words ≡ true) × (has_room_of cell id_width n words (key4 (c.grid ∷ c.z ∷ c.y ∷ c.x ∷ g ∷ [])) ≡ true)
  push-asks c g h = (ids-table words n t held, room-space cell id_width n words c (omega arith))

  -- What is held after a row is put.
  pub push-done : (c : Cell) (g r : ℕ) (x : List ℕ) → T (cell_in_range c) → id_width * n + id_width ≤ length words
      → ◌≡◌ {A = ℕ × List ℕ} (r, x) (stored_of cell (length words) (put below c (g ∷ []) (table_of cell id_width n words)))
      → HeldRows x r (put below c g t)
  push-done c g r x k h q =
      let e : put below c (g ∷ []) (table_of cell id_width n words) ≡ each id_row (put below c g t) = ap (put below c (g ∷ [])) (ids-rows words n t held) ∙ sym (through-put one_id below c g t) in
      let m : n ≡ length t = held.count in
      stored-held (put below c g t) r x (omega (arith, put-shorter cells t c g)) (put-asc cells t c g held.asc)
      (λ d y. let o = key-out (put below c g t) y in
      ⊎_elim (λ z. subst (λ (b : Cell). T (cell_in_range b)) (sym (o.2 ∙ ap (λ (p : Cell × ℕ). p.0) z)) k)
      (λ z. subst (λ (b : Cell). T (cell_in_range b)) (sym o.2) (held.ranged o.0.0 (key_in z))) (put-out cells t c g o.1))
      (q ∙ ap (λ (u : List (Cell × List ℕ)). stored_of cell (length words) u) e)
