-- What is read from words that hold a table, and what is held after a row is put.
use Prim.Native.Nat.{ℕ, zero, suc, ◌+◌, ◌-◌, ◌*◌, ◌≤◌, ◌<◌, min, max}
use native.Mathlib.Omega.{arith}
use Rattle.std.proofs.Math.Path.{◌≡◌, sym, ap}
use Rattle.std.specs.Prelude.{refl, Bool, true, false, cond, T, eqb, take, drop, replicate}
use Rattle.std.proofs.Common.{◌∙◌, subst, take-append-drop, drop-cons}
use mathlib.Core.List.Memᴰ.{append_right}
use mathlib.Core.List.Memᴰ.{head}
use mathlib.Core.List.{List, [], ◌∷◌, Memᴰ as Mem}
use Rattle.std.proofs.Math.Option.{Option, none, some}
use Rattle.std.proofs.Math.Dec.{ltb}
use Rattle.std.proofs.Math.ListN.{length, get_or}
use Rattle.model.specs.Facts.{Asc}
use Rattle.model.specs.Lists.{each, keys, get, put}
use Rattle.model.specs.Cells.{Cell, below, cell_in_range}
use Rattle.model.specs.Groups.{Ids, Group}
use Rattle.model.proofs.Laws.Tests.{and_both, true_of, eqb_of}
use Rattle.model.proofs.Laws.Members.{each-length, each-each, each_same}
use Rattle.model.proofs.Laws.Orders.{Ordered, numbers}
use Rattle.model.proofs.Laws.Sorted.{add-length}
use Rattle.model.proofs.Laws.Tables.{keys-put, keys_length, put-asc, at_mem}
use Rattle.table.specs.Rows.{Kind, number, cell, cell_at, rows_of, entry_of, table_of, image_of, stored_of, are_wide, is_table_of, has_room_of, place_of, key1, rest1}
use Rattle.std.specs.Prelude.{Ok, Err}
use Rattle.table.specs.Laws.Answers.{found_below, found-is, found-rest, missing-none}
use Rattle.table.specs.Laws.Kinds.{Lawful, number-lawful, cell-lawful}
use Rattle.table.specs.Laws.Images.{image-length}
use Rattle.table.specs.Laws.Next.{stored_next, room-space}
use Rattle.table.specs.Laws.Words.{table-length, entry_at, word_at, rest_at, number_at, cell-at}
use Rattle.layout.specs.Rows.{id_row, id_of, group_row, net_row, ids_image, groups_image, net_image, ids_in}
use Rattle.layout.specs.Widths.{id_width, cell_id, net_width, group_width, group_cells, group_entities}
use Rattle.partition.specs.Held.{HeldTable, HeldRows, HeldCells, HeldGroups, grown, grown_words, few, row_in}

module _ {A B : Type 0} (f : A → B) where
  pub each-drop : (i : ℕ) (l : List A) → each f (drop i l) ≡ drop i (each f l)
  each-drop zero l = refl
  each-drop (suc i) [] = refl
  each-drop (suc i) (x ∷ l) = each-drop i l

-- What is there, read as another.
abbrev pub on_some : {U W : Type 0} → (U → W) → Option U → Option W
on_some f none = none
on_some f (some v) = some (f v)

module _ {K U W : Type 0} (f : U → W) where
  -- A table with each value read as another.
  abbrev pub through : List (K × U) → List (K × W)
  through = each (λ (p : K × U). (p.0, f p.1))

  pub through-get : (eq : K → K → Bool) (l : List (K × U)) (k : K) → get eq (through l) k ≡ on_some f (get eq l k)
  through-get eq [] k = refl
  through-get eq (p ∷ l) k = go (eq k p.0) (through-get eq l k)
    where
      go : (b : Bool) → get eq (through l) k ≡ on_some f (get eq l k) → cond b (some (f p.1)) (get eq (through l) k) ≡ on_some f (cond b (some p.1) (get eq l k))
      go true e = refl
      go false e = e

  pub through-put : (lt : K → K → Bool) (k : K) (v : U) (l : List (K × U)) → through (put lt k v l) ≡ put lt k (f v) (through l)
  through-put lt k v [] = refl
  through-put lt k v (p ∷ l) = go (lt k p.0) (lt p.0 k) (through-put lt k v l)
    where
      go : (b c : Bool) → through (put lt k v l) ≡ put lt k (f v) (through l)
          → through (cond b ((k, v) ∷ p ∷ l) (cond c (p ∷ put lt k v l) ((k, v) ∷ l)))
          ≡ cond b ((k, f v) ∷ (p.0, f p.1) ∷ through l) (cond c ((p.0, f p.1) ∷ put lt k (f v) (through l)) ((k, f v) ∷ through l))
      go true c e = refl
      go false true e = ap (λ (m : List (K × W)). (p.0, f p.1) ∷ m) e
      go false false e = refl

  through-keys : (l : List (K × U)) → keys (through l) ≡ keys l
  through-keys [] = refl
  through-keys (p ∷ l) = ap (λ (m : List K). p.0 ∷ m) (through-keys l)

-- A put adds at most one row.
pub put-shorter : {K W : Type 0} {eq lt : K → K → Bool} (laws : Ordered eq lt) (t : List (K × W)) (k : K) (v : W) → length (put lt k v t) ≤ suc (length t)
put-shorter {lt} laws t k v =
    let a = keys_length (put lt k v t) in
    let b = keys_length t in
    let c = ap length (keys-put laws t k v) in
    omega (arith, add-length laws k (keys t))

module _ {K A : Type 0} (kind : Kind K) (w : ℕ) (row : A → K × List ℕ) (wide : (a : A) → kind.size + length (row a).1 ≡ w) where
  pub rows-wide : (t : List A) → are_wide kind w (each row t) ≡ true
  rows-wide t = true_of (are_wide kind w (each row t)) (go t)
    where
      go : (t : List A) → T (are_wide kind w (each row t))
      go [] = tt
      go (a ∷ t) = and_both (eqb (kind.size + length (row a).1) w) (are_wide kind w (each row t)) (eqb_of (kind.size + length (row a).1) w (wide a)) (go t)

  module _ (laws : Lawful kind) (long : kind.size ≤ w) where
    -- Words that are the image of rows are their table.
    pub image-table : (s : List ℕ) (n : ℕ) (t : List A) → s ≡ image_of kind (length s) (each row t) → n ≡ length t → Asc kind.less (keys (each row t))
        → (is_table_of kind w n s ≡ true) × (table_of kind w n s ≡ each row t)
    image-table s n t e h a =
        stored_next kind w laws (length s) n s (each row t) long (rows-wide t) a (λ i. ((h ∙ sym (each-length row t)) i, e i))

    -- The words of a table that is stored have the length asked for.
    pub stored-length : (len : ℕ) (t : List A) → w * length t ≤ len → length (image_of kind len (each row t)) ≡ len
    stored-length len t h = image-length kind laws w len (each row t) (rows-wide t) (subst (λ m. w * m ≤ len) (sym (each-length row t)) h)

pub none-some : {A : Type 0} {a : A} → some a ≡ none → ⊥
none-some e = let z : ◌≡◌ {A = ℕ} 0 1 = ap (λ o. elim o [ none ↦ 1 | some b ↦ 0 ]) e in omega arith

pub some_inj : {A : Type 0} {a b : A} → some a ≡ some b → a ≡ b
some_inj {a} e = ap (λ o. elim o [ none ↦ a | some c ↦ c ]) e

-- Cells with ids.
abbrev pub one_id : ℕ → List ℕ
one_id g = g ∷ []

-- The rows of any words, one after the other.
module _ (words : List ℕ) (n : ℕ) where
  -- There are n rows.
  pub read_length : length (ids_in n words) ≡ n
  unfolding ids_in
  read_length = each-length id_of (table_of cell id_width n words) ∙ table-length cell id_width n words

  -- From row i on stand the cell and the id of row i, and the rows behind it.
  pub read_at : (i : ℕ) → i < n → drop i (ids_in n words) ≡ row_in words i ∷ drop (suc i) (ids_in n words)
  unfolding ids_in
  read_at i h =
      let r : List ℕ = get_or (rows_of id_width n words) i [] in
      let at : (j : ℕ) → j < id_width → get_or r j 0 ≡ get_or words (id_width * i + j) 0 = λ j l. word_at id_width n words i j h l in
      let z : get_or words (id_width * i + 0) 0 ≡ get_or words (id_width * i) 0 = ap (λ (m : ℕ). get_or words m 0) (omega arith) in
      let e : ◌≡◌ {A = Cell × ℕ} (id_of (entry_of cell r)) (row_in words i) =
      (λ k. (
        record { grid = (at 0 (omega arith) ∙ z) k; z = at 1 (omega arith) k; y = at 2 (omega arith) k; x = at 3 (omega arith) k },
        rest_at id_width n words i cell_id 0 h (omega arith) k,
      )) in
      sym (each-drop id_of i (table_of cell id_width n words))
      ∙ ap (each id_of) (entry_at cell id_width n words i h)
      ∙ (λ k. e k ∷ each-drop id_of (suc i) (table_of cell id_width n words) k)

module _ (words : List ℕ) (n : ℕ) (t : Ids) (held : HeldTable words n t) where
  plain-both : (is_table_of cell id_width n words ≡ true) × (table_of cell id_width n words ≡ each id_row t)
  unfolding ids_image
  plain-both =
      image-table cell id_width id_row (λ a. refl) cell-lawful (omega arith) words n t held.image held.count
      (subst (λ (l : List Cell). Asc below l) (sym (through-keys one_id t)) held.asc)

  -- The words are a table.
  plain-table : is_table_of cell id_width n words ≡ true
  plain-table = plain-both.0

  -- Its rows are those of the cells with ids.
  plain_rows : table_of cell id_width n words ≡ each id_row t
  plain_rows = plain-both.1

  -- The rows that are read are those held.
  plain-read : ids_in n words ≡ t
  unfolding ids_in
  plain-read = ap (each id_of) plain_rows ∙ each-each id_of id_row t ∙ each_same (λ (p : Cell × ℕ). id_of (id_row p)) t (λ p m. refl)

  -- From row i on stand the cell and the id of row i, and the rows behind it.
  pub plain_at : (i : ℕ) → i < n → drop i t ≡ row_in words i ∷ drop (suc i) t
  plain_at i h =
      ap (drop i) (sym plain-read)
      ∙ read_at words n i h
      ∙ ap (λ (u : Ids). row_in words i ∷ drop (suc i) u) plain-read

-- Cells in range are cells.
pub plain : {words : List ℕ} {n : ℕ} {t : Ids} → HeldRows words n t → HeldTable words n t
plain held = record { image = held.image; count = held.count; asc = held.asc; fits = held.fits }

module _ (words : List ℕ) (n : ℕ) (t : Ids) (held : HeldRows words n t) where
  -- The words are a table.
  pub ids-table : is_table_of cell id_width n words ≡ true
  ids-table = plain-table words n t (plain held)

  -- Its rows are those of the cells with ids.
  pub ids-rows : table_of cell id_width n words ≡ each id_row t
  ids-rows = plain_rows words n t (plain held)

  -- The rows that are read are those held.
  pub ids-read : ids_in n words ≡ t
  ids-read = plain-read words n t (plain held)

  -- From row i on stand the cell and the id of row i, and the rows behind it.
  pub ids-at : (i : ℕ) → i < n → drop i t ≡ row_in words i ∷ drop (suc i) t
  ids-at = plain_at words n t (plain held)

-- Cells.
module _ (words : List ℕ) (m : ℕ) (l : List Cell) (held : HeldCells words m l) where
  net-keys : (k : List Cell) → keys (each net_row k) ≡ k
  net-keys k = each-each (λ (p : Cell × List ℕ). p.0) net_row k ∙ each_same (λ (c : Cell). c) k (λ c i. refl)

  cells-both : (is_table_of cell net_width m words ≡ true) × (table_of cell net_width m words ≡ each net_row l)
  unfolding net_image
  cells-both =
      image-table cell net_width net_row (λ a. refl) cell-lawful (omega arith) words m l held.image held.count
      (subst (λ (k : List Cell). Asc below k) (sym (net-keys l)) held.asc)

  -- The words are a table.
  pub cells-table : is_table_of cell net_width m words ≡ true
  cells-table = cells-both.0

  -- Its keys are the cells.
  pub cells-keys : keys (table_of cell net_width m words) ≡ l
  cells-keys = ap keys cells-both.1 ∙ net-keys l

  -- From row i on stand the cell of row i and the cells behind it.
  pub cells-at : (i : ℕ) → i < m → drop i l ≡ cell_at words (net_width * i) ∷ drop (suc i) l
  cells-at i h =
      let c : m ≡ length l = held.count in
      drop-cons l i (cell_at words (net_width * i)) (omega arith)
      ∙ ap (λ (k : List Cell). get_or k i (cell_at words (net_width * i)) ∷ drop (suc i) l) (sym cells-keys)
      ∙ ap (λ (d : Cell). d ∷ drop (suc i) l) (cell-at net_width m words (omega arith) i (cell_at words (net_width * i)) h)

  -- The cell of row i is in range.
  pub cells-ranged : (i : ℕ) → i < m → T (cell_in_range (cell_at words (net_width * i)))
  cells-ranged i h =
      held.ranged (cell_at words (net_width * i))
      (subst (λ (k : List Cell). Mem (cell_at words (net_width * i)) k) (take-append-drop i l)
      (append_right (take i l) (subst (λ (k : List Cell). Mem (cell_at words (net_width * i)) k) (sym (cells-at i h)) (head refl))))

-- Group records.
abbrev pub group_tail : Group → List ℕ
group_tail r = r.grid ∷ r.count ∷ r.entities ∷ r.low.x ∷ r.low.y ∷ r.low.z ∷ r.high.x ∷ r.high.y ∷ r.high.z ∷ []

module _ (words : List ℕ) (k : ℕ) (l : List (ℕ × Group)) (held : HeldGroups words k l) where
  groups-both : (is_table_of number group_width k words ≡ true) × (table_of number group_width k words ≡ each group_row l)
  unfolding groups_image
  groups-both =
      image-table number group_width group_row (λ a. refl) number-lawful (omega arith) words k l held.image held.count
      (subst (λ (m : List ℕ). Asc ltb m) (sym (through-keys group_tail l)) held.asc)

  -- The words are a table.
  pub groups-table : is_table_of number group_width k words ≡ true
  groups-table = groups-both.0

  -- Its rows are those of the records.
  groups-rows : table_of number group_width k words ≡ each group_row l
  groups-rows = groups-both.1

  -- What is held after a record is put.
  groups-put : (g : ℕ) (v : Group) (r : ℕ) (x : List ℕ) → group_width * suc k ≤ length words
      → ◌≡◌ {A = ℕ × List ℕ} (r, x) (stored_of number (length words) (put ltb g (group_tail v) (table_of number group_width k words)))
      → HeldGroups x r (put ltb g v l)
  unfolding groups_image
  groups-put g v r x h q =
      let m : List (ℕ × Group) = put ltb g v l in
      let e : put ltb g (group_tail v) (table_of number group_width k words) ≡ each group_row m = ap (put ltb g (group_tail v)) groups-rows ∙ sym (through-put group_tail ltb g v l) in
      let n : r ≡ length m = ap (λ (p : ℕ × List ℕ). p.0) q ∙ ap length e ∙ each-length group_row m in
      let y : x ≡ image_of number (length words) (each group_row m) = ap (λ (p : ℕ × List ℕ). p.1) q ∙ ap (image_of number (length words)) e in
      let c : length m ≤ suc k = omega (arith, put-shorter numbers l g v, held.count) in
      let f : group_width * length m ≤ length words = omega arith in
      let z : length x ≡ length words = ap length y ∙ stored-length number group_width group_row (λ a. refl) number-lawful (omega arith) (length words) m f in
      record {
        image = y ∙ ap (λ (len : ℕ). image_of number len (each group_row m)) (sym z);
        count = n;
        asc = put-asc numbers l g v held.asc;
        fits = omega arith;
      }

-- Words that are all zero hold no record.
pub groups_none : (words : List ℕ) → words ≡ replicate (length words) 0 → HeldGroups words 0 []
unfolding groups_image image_of
groups_none words e = let z : length words ≡ length words - 0 = omega arith in record { image = e ∙ ap (λ (m : ℕ). replicate m 0) z; count = refl; asc = Asc.nil; fits = omega arith }

module _ (words : List ℕ) (k : ℕ) (l : List (ℕ × Group)) (held : HeldGroups words k l) (g : ℕ) where
  groups-get : get eqb (table_of number group_width k words) g ≡ on_some group_tail (get eqb l g)
  groups-get = ap (λ (u : List (ℕ × List ℕ)). get eqb u g) (groups-rows words k l held) ∙ through-get group_tail eqb l g

  -- A group that is not found has no record.
  pub group-missing : (i : ℕ) → Err i ≡ place_of ltb (keys (table_of number group_width k words)) g → get eqb l g ≡ none
  group-missing i e = go (get eqb l g) (sym groups-get ∙ missing-none number number-lawful group_width k words g i (groups-table words k l held) e)
    where
      go : (o : Option Group) → on_some group_tail o ≡ none → o ≡ none
      go none f = refl
      go (some r) f = absurd (none-some f)

  module _ (i : ℕ) (e : Ok i ≡ place_of ltb (keys (table_of number group_width k words)) g) where
    -- The row that is found is within the words.
    pub group-row : (i < k) × (group_width * i + group_width ≤ length words)
    group-row = let h : i < k = found_below number number-lawful group_width k words g i e in let f : group_width * k ≤ length words = held.fits in (h, omega arith)

    -- The row that is found is that of a record.
    pub group-found : (r : Group) × (get eqb l g ≡ some r) × (drop 1 (get_or (rows_of group_width k words) i []) ≡ group_tail r)
    group-found = go (get eqb l g) refl (sym (found-rest number number-lawful group_width k words g i (groups-table words k l held) e) ∙ groups-get)
      where
        go : (o : Option Group) → get eqb l g ≡ o → some (drop 1 (get_or (rows_of group_width k words) i [])) ≡ on_some group_tail o
            → (r : Group) × (get eqb l g ≡ some r) × (drop 1 (get_or (rows_of group_width k words) i []) ≡ group_tail r)
        go none f h = absurd (none-some h)
        go (some r) f h = (r, f, some_inj h)

    -- Word j + 1 of the row is word j behind the id of the record.
    group-word : (j : ℕ) → 1 + j < group_width → get_or words (group_width * i + (1 + j)) 0 ≡ get_or (group_tail group-found.0) j 0
    group-word j h = sym (rest_at group_width k words i 1 j group-row.0 h) ∙ ap (λ (u : List ℕ). get_or u j 0) group-found.2

    -- Its counts are below 2^63 where all are.
    pub group-few : few l → (get_or words (group_width * i + group_cells) 0 < 9223372036854775808) × (get_or words (group_width * i + group_entities) 0 < 9223372036854775808)
    group-few f =
        let d : get_or words (group_width * i + group_cells) 0 ≡ group-found.0.count = group-word 1 (omega arith) in
        let e : get_or words (group_width * i + group_entities) 0 ≡ group-found.0.entities = group-word 2 (omega arith) in
        let m = f (g, group-found.0) (at_mem numbers l (record { is = group-found.1 })) in
        (omega (arith, d, m.0), omega (arith, e, m.1))

    -- The words of the row with one cell more are those of the grown record.
    pub group-grown : (c : Cell) (m : ℕ) → grown_words words (group_width * i) c m ≡ g ∷ group_tail (grown (get eqb l g) c m)
    group-grown c m =
        let r : Group = group-found.0 in
        let key : get_or words (group_width * i) 0 ≡ g =
        sym (number_at group_width k words (omega arith) i 0 group-row.0) ∙ found-is number number-lawful group_width k words g i 0 e in
        let more : get_or words (group_width * i + group_cells) 0 + 1 ≡ suc r.count = omega (arith, group-word 1 (omega arith)) in
        let w : (j : ℕ) → 1 + j < group_width → get_or words (group_width * i + (1 + j)) 0 ≡ get_or (group_tail r) j 0 = group-word in
        let one : grown_words words (group_width * i) c m ≡ g ∷ group_tail (grown (some r) c m) =
        (λ t. key t ∷ w 0 (omega arith) t ∷ more t ∷ (w 2 (omega arith) t + m)
        ∷ min (w 3 (omega arith) t) c.x ∷ min (w 4 (omega arith) t) c.y ∷ min (w 5 (omega arith) t) c.z
        ∷ max (w 6 (omega arith) t) c.x ∷ max (w 7 (omega arith) t) c.y ∷ max (w 8 (omega arith) t) c.z ∷ []) in
        one ∙ ap (λ (o : Option Group). g ∷ group_tail (grown o c m)) (sym group-found.1)

  -- The record of a first cell.
  pub group-first : (i : ℕ) (c : Cell) (m : ℕ) → Err i ≡ place_of ltb (keys (table_of number group_width k words)) g
      → g ∷ c.grid ∷ 1 ∷ m ∷ c.x ∷ c.y ∷ c.z ∷ c.x ∷ c.y ∷ c.z ∷ [] ≡ g ∷ group_tail (grown (get eqb l g) c m)
  group-first i c m e = ap (λ (o : Option Group). g ∷ group_tail (grown o c m)) (sym (group-missing i e))

  module _ (c : Cell) (m : ℕ) (row : List ℕ) (is : row ≡ g ∷ group_tail (grown (get eqb l g) c m)) (room : group_width * k + group_width ≤ length words) where
    -- A record's row can be put.
    pub count-asks : (is_table_of number (length row) k words ≡ true) × (has_room_of number (length row) k words (key1 row) ≡ true)
    count-asks =
        subst (λ (u : List ℕ). (is_table_of number (length u) k words ≡ true) × (has_room_of number (length u) k words (key1 u) ≡ true)) (sym is)
        (groups-table words k l held, room-space number group_width k words g (omega arith))

    -- What is held after the row of a grown record is put.
    pub count-done : (r : ℕ) (x : List ℕ) → ◌≡◌ {A = ℕ × List ℕ} (r, x) (stored_of number (length words) (put ltb (key1 row) (rest1 row) (table_of number (length row) k words)))
        → HeldGroups x r (put ltb g (grown (get eqb l g) c m) l)
    count-done r x q =
        groups-put words k l held g (grown (get eqb l g) c m) r x (omega arith)
        (subst (λ (u : List ℕ). ◌≡◌ {A = ℕ × List ℕ} (r, x) (stored_of number (length words) (put ltb (key1 u) (rest1 u) (table_of number (length u) k words)))) is q)
