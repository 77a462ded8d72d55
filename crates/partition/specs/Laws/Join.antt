-- Sizes, the largest group and merging, row by row.
use Rattle.std.specs.Prelude.{ℕ, zero, suc, ◌+◌, ◌*◌, ◌≤◌, ◌<◌, ◌≡◌, refl, Bool, true, false, cond, ◌||◌, eqb, ltb, length, take, drop, get_or, set}
use Rattle.std.proofs.Common.{arith, add-one, sym, ap, ◌∙◌, ⊎_elim, eqb→eq, length-append, take-append-drop, drop_of_length-le, drop-drop, take_all, length-take-le, drop_at, take_at, lt-ltb, le-ltb, eq-eqb, ne_eqb}
use Rattle.std.proofs.Math.Path.{subst}
use Rattle.std.proofs.lemmas.List.{at_drop_more, at_drop_all}
use Rattle.std.proofs.lemmas.Bool.Decides.{nat_tests}
use Rattle.std.specs.List.{list_any}
use mathlib.Core.List.Memᴰ.{append_right}
use mathlib.Core.List.Memᴰ.{head}
use mathlib.Core.List.Memᴰ.{tail}
use mathlib.Core.List.{List, [], ◌∷◌, ◌++◌, append_assoc, append-nil, Memᴰ as Mem}
use Rattle.model.specs.Lists.{keep, all, has, keys, change, put, run}
use Rattle.model.specs.Cells.{Cell, below, touch_at}
use Rattle.model.specs.Groups.{Ids, Groups, members, size, largest_group, merge, found_at, join_found, rule1}
use Rattle.model.proofs.Laws.Members.{keep_append, each_append, each-length, run-append, all-out, of-has}
use Rattle.model.proofs.Laws.Orders.{numbers}
use Rattle.model.proofs.Laws.Tests.{T_true, decided, cond_yes, cond_no}
use Rattle.model.proofs.Laws.Tables.{change-same}
use Rattle.table.specs.Rows.{cell_at}
use Rattle.layout.specs.Widths.{id_width, cell_id, net_width}
use Rattle.partition.specs.Held.{HeldRows, HeldIds, HeldCells, joined, row_in}
use Rattle.layout.specs.Rows.{ids_in}
use Rattle.partition.specs.Laws.Held.{read_length, read_at, ids-at, ids-read, cells-at}
use Rattle.partition.specs.Laws.Ids.{ids_set}

drop-suc : {A : Type 0} (l : List A) (i : ℕ) → drop (suc i) l ≡ drop 1 (drop i l)
drop-suc l i = ap (λ (m : ℕ). drop m l) (sym (add-one i)) ∙ sym (drop-drop 1 i l)

module _ {A : Type 0} where
  -- One more is taken where the rest begins with it.
  pub take_more : (l : List A) (i : ℕ) (a : A) → drop i l ≡ a ∷ drop (suc i) l → take (suc i) l ≡ take i l ++ a ∷ []
  take_more [] zero a e = absurd (nil-cons e)
    where
      nil-cons : {b : A} {m : List A} → [] ≡ b ∷ m → ⊥
      nil-cons f = let z : ◌≡◌ {A = ℕ} 0 1 = ap (λ x. elim x [ [] ↦ 0 | y ∷ ys ↦ 1 ]) f in omega arith
  take_more [] (suc i) a e = absurd (nil-cons e)
    where
      nil-cons : {b : A} {m : List A} → [] ≡ b ∷ m → ⊥
      nil-cons f = let z : ◌≡◌ {A = ℕ} 0 1 = ap (λ x. elim x [ [] ↦ 0 | y ∷ ys ↦ 1 ]) f in omega arith
  take_more (x ∷ l) zero a e = ap (λ (y : A). y ∷ []) (ap (λ (m : List A). get_or m 0 x) e)
  take_more (x ∷ l) (suc i) a e = ap (λ (m : List A). x ∷ m) (take_more l i a e)

-- How many rows have the id g.
sized : (t u : Ids) (g : ℕ) → size (t ++ u) g ≡ size t g + size u g
sized t u g =
    ap (λ (l : Ids). length (keys l)) (keep_append (λ (p : Cell × ℕ). eqb g p.1) t u)
    ∙ ap length (each_append (λ (p : Cell × ℕ). p.0) (keep (λ (p : Cell × ℕ). eqb g p.1) t) (keep (λ (p : Cell × ℕ). eqb g p.1) u))
    ∙ length-append (members t g) (members u g)

module _ (words : List ℕ) (n g i : ℕ) (h : i < n) where
  abbrev rows : Ids
  rows = ids_in n words

  size_step : size (take (i + 1) rows) g ≡ size (take i rows) g + size (row_in words i ∷ []) g
  size_step =
      ap (λ (m : ℕ). size (take m rows) g) (add-one i)
      ∙ ap (λ (u : Ids). size u g) (take_more rows i (row_in words i) (read_at words n i h))
      ∙ sized (take i rows) (row_in words i ∷ []) g

  -- A row of the group is counted.
  pub size-more : (m : ℕ) → m ≡ size (take i (ids_in n words)) g → get_or words (id_width * i + cell_id) 0 ≡ g → m + 1 ≡ size (take (i + 1) (ids_in n words)) g
  size-more m e f =
      ap (λ (x : ℕ). x + 1) e
      ∙ ap (λ (b : Bool). size (take i rows) g + length (keys (cond b (row_in words i ∷ []) []))) (sym (eq-eqb g (get_or words (id_width * i + cell_id) 0) (sym f)))
      ∙ sym size_step

  -- A row of another group is passed over.
  pub size_same : (m : ℕ) → m ≡ size (take i (ids_in n words)) g → (get_or words (id_width * i + cell_id) 0 ≡ g → ⊥) → m ≡ size (take (i + 1) (ids_in n words)) g
  size_same m e f =
      let z : size (take i rows) g ≡ size (take i rows) g + 0 = omega arith in
      e ∙ z
      ∙ ap (λ (b : Bool). size (take i rows) g + length (keys (cond b (row_in words i ∷ []) []))) (sym (ne_eqb g (get_or words (id_width * i + cell_id) 0) (λ q. f (sym q))))
      ∙ sym size_step

-- All rows are passed.
pub size-all : (words : List ℕ) (n g i m : ℕ) → n ≤ i → m ≡ size (take i (ids_in n words)) g → m ≡ size (ids_in n words) g
size-all words n g i m h e = let c = read_length words n in e ∙ ap (λ (u : Ids). size u g) (take_all i (ids_in n words) (omega arith))

-- The largest of the groups from j on, with the best so far.
module _ (t : Ids) (found : List ℕ) (j best : ℕ) (h : j < length found) where
  largest_step : largest_group t best (drop j found) ≡ largest_group t (cond (ltb (size t best) (size t (get_or found j 0))) (get_or found j 0) best) (drop (j + 1) found)
  largest_step = at_drop_more (largest_group t best) found j 0 h

  pub largest-new : (w : ℕ) → largest_group t best (drop j found) ≡ w → size t best < size t (get_or found j 0)
      → largest_group t (get_or found j 0) (drop (j + 1) found) ≡ w
  largest-new w e b = ap (λ (c : Bool). largest_group t (cond c (get_or found j 0) best) (drop (j + 1) found)) (sym (lt-ltb (size t best) (size t (get_or found j 0)) b)) ∙ sym largest_step ∙ e

  pub largest-old : (w : ℕ) → largest_group t best (drop j found) ≡ w → size t (get_or found j 0) ≤ size t best
      → largest_group t best (drop (j + 1) found) ≡ w
  largest-old w e b = ap (λ (c : Bool). largest_group t (cond c (get_or found j 0) best) (drop (j + 1) found)) (sym (le-ltb (size t best) (size t (get_or found j 0)) b)) ∙ sym largest_step ∙ e

pub largest-end : (t : Ids) (found : List ℕ) (j best w : ℕ) → length found ≤ j → largest_group t best (drop j found) ≡ w → best ≡ w
largest-end t found j best w h e = sym (at_drop_all (largest_group t best) found j h) ∙ e

-- Whether g is one of the numbers.
pub has-found : (l : List ℕ) (g : ℕ) → list_any (λ y. eqb y g) l ≡ has eqb l g
has-found [] g = refl
has-found (y ∷ l) g = ap (λ (b : Bool). b || list_any (λ x. eqb x g) l) (turned y g) ∙ ap (λ (b : Bool). eqb g y || b) (has-found l g)
  where
    turned : (a b : ℕ) → eqb a b ≡ eqb b a
    turned a b = grind (arith, nat_tests)

-- Rows changed one after the other: the first i are changed, the others as they were.
module _ (f : Cell → ℕ → ℕ) where
  abbrev pub partly : Ids → ℕ → Ids
  partly t i = change f (take i t) ++ drop i t

  module _ (words₀ words : List ℕ) (n : ℕ) (t : Ids) (held₀ : HeldRows words₀ n t) (i : ℕ) (h : i < n) (held : HeldRows words n (partly t i)) where
    partly-length : length (change f (take i t)) ≡ i
    partly-length = let c : n ≡ length t = held₀.count in each-length (λ (p : Cell × ℕ). (p.0, f p.0 p.1)) (take i t) ∙ length-take-le i t (omega arith)

    abbrev old : Cell × ℕ
    old = (row_in words₀ i)

    -- Row i of the words is row i of the table as it was.
    pub partly-row : ◌≡◌ {A = Cell × ℕ} (row_in words i) (row_in words₀ i)
    partly-row =
        let a : drop i (partly t i) ≡ old ∷ drop (suc i) t = drop_at (change f (take i t)) (drop i t) i partly-length ∙ ids-at words₀ n t held₀ i h in
        ap (λ (u : Ids). get_or u 0 old) (sym (ids-at words n (partly t i) held i h) ∙ a)

    partly-next : partly t (i + 1) ≡ change f (take i t) ++ (old.0, f old.0 old.1) ∷ drop (suc i) t
    partly-next =
        ap (partly t) (add-one i)
        ∙ ap (λ (u : Ids). change f u ++ drop (suc i) t) (take_more t i old (ids-at words₀ n t held₀ i h))
        ∙ ap (λ (u : Ids). u ++ drop (suc i) t) (each_append (λ (p : Cell × ℕ). (p.0, f p.0 p.1)) (take i t) (old ∷ []))
        ∙ append_assoc (change f (take i t)) ((old.0, f old.0 old.1) ∷ []) (drop (suc i) t)

    -- Row i is changed.
    pub partly-set : (v : ℕ) → v ≡ f (cell_at words (id_width * i)) (get_or words (id_width * i + cell_id) 0) → HeldRows (set words (id_width * i + cell_id) v) n (partly t (i + 1))
    partly-set v e =
        let c = cell_at words (id_width * i) in
        let a : take i (partly t i) ≡ change f (take i t) = take_at (change f (take i t)) (drop i t) i partly-length in
        let b : drop (suc i) (partly t i) ≡ drop (suc i) t = drop-suc (partly t i) i ∙ ap (drop 1) (drop_at (change f (take i t)) (drop i t) i partly-length) ∙ sym (drop-suc t i) in
        let d : v ≡ f old.0 old.1 = e ∙ (λ k. f (partly-row k).0 (partly-row k).1) in
        subst (λ (u : Ids). HeldRows (set words (id_width * i + cell_id) v) n u)
        ((λ k. a k ++ ((partly-row k).0, d k) ∷ b k) ∙ sym partly-next) (ids_set words n (partly t i) held i v h)

    -- Row i stays as it is.
    pub partly-same : get_or words (id_width * i + cell_id) 0 ≡ f (cell_at words (id_width * i)) (get_or words (id_width * i + cell_id) 0) → HeldRows words n (partly t (i + 1))
    partly-same e =
        let d : old.1 ≡ f old.0 old.1 = sym (ap (λ (p : Cell × ℕ). p.1) partly-row) ∙ e ∙ (λ k. f (partly-row k).0 (partly-row k).1) in
        subst (λ (u : Ids). HeldRows words n u)
        (ap (λ (u : Ids). change f (take i t) ++ u) (ids-at words₀ n t held₀ i h) ∙ (λ k. change f (take i t) ++ (old.0, d k) ∷ drop (suc i) t) ∙ sym partly-next) held

  pub partly-all : (words₀ words : List ℕ) (n : ℕ) (t : Ids) → HeldRows words₀ n t → (i : ℕ) → n ≤ i → HeldRows words n (partly t i) → HeldRows words n (change f t)
  partly-all words₀ words n t held₀ i h held =
      let c : n ≡ length t = held₀.count in
      subst (λ (u : Ids). HeldRows words n u)
      ((λ k. change f (take_all i t (omega arith) k) ++ drop_of_length-le t {i = i} (omega arith) k) ∙ append-nil (change f t)) held

-- Merging, row by row.
module _ (into : ℕ) (l : List ℕ) where
  abbrev pub merged : Cell → ℕ → ℕ
  merged c h = cond (has eqb l h) into h

  module _ (words₀ words : List ℕ) (n : ℕ) (t : Ids) (held₀ : HeldRows words₀ n t) (i : ℕ) (h : i < n) (held : HeldRows words n (partly merged t i))
      (r : Bool) (e : r ≡ has eqb l (get_or words (id_width * i + cell_id) 0)) where
    -- The group of row i is found.
    pub merge-set : r ≡ true → HeldRows (set words (id_width * i + cell_id) into) n (partly merged t (i + 1))
    merge-set y = partly-set merged words₀ words n t held₀ i h held into (ap (λ (b : Bool). cond b into (get_or words (id_width * i + cell_id) 0)) (sym y ∙ e))

    -- The group of row i is not found.
    pub merge-same : r ≡ false → HeldRows words n (partly merged t (i + 1))
    merge-same y = partly-same merged words₀ words n t held₀ i h held (ap (λ (b : Bool). cond b into (get_or words (id_width * i + cell_id) 0)) (sym y ∙ e))

-- A cell joins the groups found.
pub join-done : (t : Ids) (c : Cell) (found : List ℕ) (words₁ words₂ : List ℕ) (r into : ℕ) → HeldRows words₁ r (put below c (get_or found 0 0) t)
    → into ≡ largest_group (ids_in r words₁) (get_or found 0 0) (drop 1 found)
    → ((u : Ids) → HeldRows words₁ r u → HeldRows words₂ r (merge into found u))
    → HeldRows words₂ r (joined t c found)
unfolding joined
join-done t c found words₁ words₂ r into h e f =
    let g : ℕ = get_or found 0 0 in
    subst (λ (u : Ids). HeldRows words₂ r u)
    ((λ i. merge (e i) found (put below c g t))
    ∙ (λ i. merge (largest_group (ids-read words₁ r (put below c g t) h i) g (drop 1 found)) found (put below c g t)))
    (f (put below c g t) h)

-- Where all groups found are the same, that one is the largest, and merging changes nothing.
largest-same : (t : Ids) (g : ℕ) (l : List ℕ) → ((h : ℕ) → Mem h l → h ≡ g) → largest_group t g l ≡ g
largest-same t g [] f = refl
largest-same t g (h ∷ l) f =
    ap (λ (x : ℕ). largest_group t x l) (either (ltb (size t g) (size t h)) (f h (head refl))) ∙ largest-same t g l (λ x m. f x (tail m))
  where
    either : (b : Bool) → h ≡ g → cond b h g ≡ g
    either true e = e
    either false e = refl

merge-nothing : (t : Ids) (g : ℕ) (l : List ℕ) → ((h : ℕ) → Mem h l → h ≡ g) → merge g l t ≡ t
merge-nothing t g l f =
    change-same (λ c h. cond (has eqb l h) g h) t
    (λ q m. ⊎_elim (λ u. cond_yes (has eqb l q.1) g q.1 u ∙ sym (f q.1 (of-has numbers l u))) (λ u. cond_no (has eqb l q.1) g q.1 u) (decided (has eqb l q.1)))

-- A cell joins the one group found.
pub join-same : (t : Ids) (c : Cell) (found : List ℕ) → all (eqb (get_or found 0 0)) found ≡ true
    → (words : List ℕ) (r : ℕ) → HeldRows words r (put below c (get_or found 0 0) t) → HeldRows words r (joined t c found)
unfolding joined
join-same t c found a words r h =
    let g : ℕ = get_or found 0 0 in
    let f : (x : ℕ) → Mem x found → x ≡ g = λ x m. sym (eqb→eq g x (all-out (eqb g) found (T_true a) m)) in
    let d : (x : ℕ) → Mem x (drop 1 found) → x ≡ g = λ x m. f x (subst (λ (y : List ℕ). Mem x y) (take-append-drop 1 found) (append_right (take 1 found) m)) in
    subst (λ (u : Ids). HeldRows words r u)
    (sym (ap (λ (x : ℕ). merge x found (put below c g t)) (largest-same (put below c g t) g (drop 1 found) d)
    ∙ merge-nothing (put below c g t) g found f))
    h

joined-some : (kind : ℕ) (s : Groups) (c : Cell) (l : List ℕ) → 1 ≤ length l → join_found (touch_at kind) s c l ≡ record { ids = joined s.ids c l; next = s.next }
unfolding joined
joined-some kind s c [] h = absurd (omega arith)
joined-some kind s c (g ∷ l) h = refl

-- Rule 1 where no group is found.
pub rule1-none : (kind : ℕ) (words words₁ : List ℕ) (n next r : ℕ) (s : Groups) (c : Cell) (found : List ℕ) → HeldIds words n next s
    → found ≡ found_at (touch_at kind) s.ids c → length found ≡ 0 → ((t : Ids) → HeldRows words n t → HeldRows words₁ r (put below c next t))
    → HeldIds words₁ r (next + 1) (rule1 (touch_at kind) s c)
rule1-none kind words words₁ n next r s c found held e z f =
    let a : found_at (touch_at kind) s.ids c ≡ [] = sym e ∙ drop_of_length-le found {i = 0} (omega arith) in
    let b : next ≡ s.next = held.is-next in
    subst (λ (u : Groups). HeldIds words₁ r (next + 1) u) (ap (join_found (touch_at kind) s c) (sym a))
    (record { rows = subst (λ (m : ℕ). HeldRows words₁ r (put below c m s.ids)) b (f s.ids held.rows); is-next = omega arith })

-- Rule 1 where a group is found.
pub rule1-some : (kind : ℕ) (words words₁ : List ℕ) (n next r : ℕ) (s : Groups) (c : Cell) (found : List ℕ) → HeldIds words n next s
    → found ≡ found_at (touch_at kind) s.ids c → 1 ≤ length found → ((t : Ids) → HeldRows words n t → HeldRows words₁ r (joined t c found))
    → HeldIds words₁ r next (rule1 (touch_at kind) s c)
rule1-some kind words words₁ n next r s c found held e z f =
    subst (λ (u : Groups). HeldIds words₁ r next u) (sym (joined-some kind s c found z) ∙ ap (join_found (touch_at kind) s c) e)
    (record { rows = f s.ids held.rows; is-next = held.is-next })

-- One newly occupied cell after the other.
module _ (kind : ℕ) (occupied : List ℕ) (m : ℕ) (l : List Cell) (cells : HeldCells occupied m l) (s : Groups) (i : ℕ) (words : List ℕ) (n next : ℕ)
    (held : HeldIds words n next (run (rule1 (touch_at kind)) s (take i l))) where
  pub rules1-more : i < m → (words₁ : List ℕ) (r next₁ : ℕ) (c : Cell) → c ≡ cell_at occupied (net_width * i)
      → ((u : Groups) → HeldIds words n next u → HeldIds words₁ r next₁ (rule1 (touch_at kind) u c)) → HeldIds words₁ r next₁ (run (rule1 (touch_at kind)) s (take (i + 1) l))
  rules1-more h words₁ r next₁ c e f =
      let a : take (i + 1) l ≡ take i l ++ cell_at occupied (net_width * i) ∷ [] = ap (λ (j : ℕ). take j l) (add-one i) ∙ take_more l i (cell_at occupied (net_width * i)) (cells-at occupied m l cells i h) in
      subst (λ (u : Groups). HeldIds words₁ r next₁ u)
      (ap (rule1 (touch_at kind) (run (rule1 (touch_at kind)) s (take i l))) e
      ∙ sym (ap (run (rule1 (touch_at kind)) s) a ∙ run-append (rule1 (touch_at kind)) s (take i l) (cell_at occupied (net_width * i) ∷ [])))
      (f (run (rule1 (touch_at kind)) s (take i l)) held)

  pub rules1-all : m ≤ i → HeldIds words n next (run (rule1 (touch_at kind)) s l)
  rules1-all h = let c : m ≡ length l = cells.count in subst (λ (u : List Cell). HeldIds words n next (run (rule1 (touch_at kind)) s u)) (take_all i l (omega arith)) held
