-- The ids at a cell's neighbours of a kind, tried in order.
use Rattle.std.specs.Prelude.{ℕ, zero, suc, ◌+◌, ◌-◌, ◌<◌, ◌≡◌, Bool, cond, not}
use native.Mathlib.Omega.{arith}
use Rattle.std.proofs.Common.{add-one, sym, ◌∙◌, subst}
use Rattle.std.proofs.Math.Path.{refl, ap}
use Rattle.std.proofs.Math.Bool.{true, false}
use mathlib.Core.List.Memᴰ.{head}
use mathlib.Core.List.Memᴰ.{tail}
use mathlib.Core.List.{List, [], ◌∷◌, ◌++◌, append-nil, Memᴰ as Mem}
use Rattle.std.proofs.Math.Option.{Option, none, some}
use Rattle.std.proofs.Math.Dec.{T, ltb→lt}
use Rattle.component.specs.Adjacent.{has_room}
use Rattle.component.specs.Laws.Adjacent.{range-room, room-above}
use Rattle.component.specs.Laws.Neighbours.{neighbours-ordered}
use Rattle.component.specs.Touch.{touches}
use Rattle.model.specs.Facts.{Asc}
use Rattle.model.specs.Lists.{each, keep, has, count, keys, values, get, only}
use Rattle.model.specs.Cells.{Cell, same, below, cell_in_range, offsets_of, touch_at}
use Rattle.model.specs.Places.{offset_at}
use Rattle.model.specs.Groups.{Ids, found_at}
use Rattle.model.proofs.Laws.Tests.{T_true, true_of}
use Rattle.model.proofs.Laws.Orders.{cells}
use Rattle.model.proofs.Laws.Members.{each_append, each_in, gather_append, keep_append, keep-in, keep_out, has_of, of-has, of-hasnt, count-in, count-out}
use Rattle.model.proofs.Laws.Sorted.{each-asc, count-asc, keep-asc, asc-equal}
use Rattle.model.proofs.Laws.Tables.{keys-only, asc-mem-at, of-free, free-key}
use Rattle.layout.specs.Rows.{neighbour_of, number_of}
use Rattle.layout.proofs.Laws.Numbers.{neighbour-at, number-range, neighbour-of-number}
use Rattle.layout.proofs.Laws.Kinds.{kind-touches, touch-near}
use Rattle.partition.specs.Held.{tried, list_of, ids_at}

count-more : (k n : ℕ) → count k (suc n) ≡ count k n ++ (k + n) ∷ []
count-more k zero = ap (λ (m : ℕ). m ∷ []) (omega arith)
count-more k (suc n) =
    let e : suc k + n ≡ k + suc n = omega arith in
    ap (λ (l : List ℕ). k ∷ l) (count-more (suc k) n ∙ ap (λ (m : ℕ). count (suc k) n ++ m ∷ []) e)

-- One neighbour more is tried where it touches at the kind.
module _ (kind : ℕ) (c : Cell) (k : ℕ) where
  tried-next : tried kind c (k + 1) ≡ tried kind c k ++ cond (touch_at kind c (neighbour_of c (k + 1))) (neighbour_of c (k + 1) ∷ []) []
  unfolding tried ids_at
  tried-next =
      let e : 1 + k ≡ k + 1 = omega arith in
      ap (tried kind c) (add-one k)
      ∙ ap (λ (l : List ℕ). keep (touch_at kind c) (each (neighbour_of c) l)) (count-more 1 k)
      ∙ ap (keep (touch_at kind c)) (each_append (neighbour_of c) (count 1 k) ((1 + k) ∷ []))
      ∙ keep_append (touch_at kind c) (each (neighbour_of c) (count 1 k)) (neighbour_of c (1 + k) ∷ [])
      ∙ ap (λ (m : ℕ). tried kind c k ++ keep (touch_at kind c) (neighbour_of c m ∷ [])) e

  tried-more : touch_at kind c (neighbour_of c (k + 1)) ≡ true → tried kind c (k + 1) ≡ tried kind c k ++ neighbour_of c (k + 1) ∷ []
  tried-more t = tried-next ∙ ap (λ (b : Bool). tried kind c k ++ cond b (neighbour_of c (k + 1) ∷ []) []) t

  tried_same : touch_at kind c (neighbour_of c (k + 1)) ≡ false → tried kind c (k + 1) ≡ tried kind c k
  tried_same t = tried-next ∙ ap (λ (b : Bool). tried kind c k ++ cond b (neighbour_of c (k + 1) ∷ []) []) t ∙ append-nil (tried kind c k)

module _ (t : Ids) where
  -- The ids of cells with one more.
  ids-at-more : (l : List Cell) (d : Cell) → ids_at t (l ++ d ∷ []) ≡ ids_at t l ++ list_of (get same t d)
  unfolding tried ids_at
  ids-at-more l d = gather_append (λ e. list_of (get same t e)) l (d ∷ []) ∙ ap (λ (x : List ℕ). ids_at t l ++ x) (append-none (list_of (get same t d)))
    where
      append-none : (x : List ℕ) → x ++ [] ≡ x
      append-none [] = refl
      append-none (y ∷ x) = ap (λ (z : List ℕ). y ∷ z) (append-none x)

  -- Cells without an id add none.
  ids-at-keep : (l : List Cell) → ids_at t l ≡ ids_at t (keep (has same (keys t)) l)
  unfolding tried ids_at
  ids-at-keep [] = refl
  ids-at-keep (d ∷ l) = go (has same (keys t) d) refl (ids-at-keep l)
    where
      go : (b : Bool) → has same (keys t) d ≡ b → ids_at t l ≡ ids_at t (keep (has same (keys t)) l)
          → list_of (get same t d) ++ ids_at t l ≡ ids_at t (cond b (d ∷ keep (has same (keys t)) l) (keep (has same (keys t)) l))
      go true e h = ap (λ (x : List ℕ). list_of (get same t d) ++ x) h
      go false e h =
          ap (λ (o : Option ℕ). list_of o ++ ids_at t l) (of-free t d (free-key cells t (of-hasnt cells (keys t) (subst (λ b. T (not b)) (sym e) tt)))) ∙ h

  -- The ids of rows of the table.
  ids-at-rows : (u : Ids) → ((q : Cell × ℕ) → Mem q u → get same t q.0 ≡ some q.1) → ids_at t (keys u) ≡ values u
  unfolding tried ids_at
  ids-at-rows [] f = refl
  ids-at-rows (q ∷ u) f = λ i. list_of (f q (head refl) i) ++ ids-at-rows u (λ p m. f p (tail m)) i

module _ (kind : ℕ) (c : Cell) (ranged : T (cell_in_range c)) where
  room : has_room 1 c ≡ true
  room = range-room 1 c (omega arith) (true_of (cell_in_range c) ranged)

  -- A neighbour touches at the kind exactly if its offset is of the kind.
  pub near-touches : (k : ℕ) → k < 26 → touch_at kind c (neighbour_of c (k + 1)) ≡ offsets_of kind (offset_at k)
  near-touches k h = ap (λ (m : ℕ). touch_at kind c (neighbour_of c m)) (add-one k) ∙ touch-near c room kind k h

  tried-asc : Asc below (tried kind c 26)
  unfolding tried ids_at
  tried-asc =
      keep-asc (touch_at kind c) (each (neighbour_of c) (count 1 26))
      (each-asc (neighbour_of c) (count 1 26)
      (λ a b m k l.
      let p = count-out 1 26 m in
      let q = count-out 1 26 k in
      let h = ltb→lt a b l in
      T_true ((λ i. below (neighbour-at c room a (omega arith) (omega arith) i) (neighbour-at c room b (omega arith) (omega arith) i))
      ∙ neighbours-ordered 1 c (room-above 1 c room) (a - 1) (b - 1) (omega arith)))
      (count-asc 1 26))

  tried-touch : {d : Cell} → Mem d (tried kind c 26) → T (touch_at kind c d)
  unfolding tried ids_at
  tried-touch {d} m = (keep_out (touch_at kind c) (each (neighbour_of c) (count 1 26)) m).1

  touch-tried : {d : Cell} → T (touch_at kind c d) → Mem d (tried kind c 26)
  unfolding tried ids_at
  touch-tried {d} t =
      let e : touches c d ≡ true = kind-touches kind c d (true_of (touch_at kind c d) t) in
      let p = number-range c d e in
      let k : Mem (number_of c d) (count 1 26) = count-in 1 26 (omega arith) (omega arith) in
      keep-in (touch_at kind c) (subst (λ x. Mem x (each (neighbour_of c) (count 1 26))) (neighbour-of-number c d e room) (each_in (neighbour_of c) k)) t

  -- The ids at the neighbours tried are those of the touching cells, in order.
  pub tried-all : (t : Ids) → Asc below (keys t) → ids_at t (tried kind c 26) ≡ found_at (touch_at kind) t c
  tried-all t asc =
      ids-at-keep t (tried kind c 26)
      ∙ ap (ids_at t)
      (asc-equal cells (keep (has same (keys t)) (tried kind c 26)) (keep (touch_at kind c) (keys t))
      (keep-asc (has same (keys t)) (tried kind c 26) tried-asc) (keep-asc (touch_at kind c) (keys t) asc)
      (λ a m. let r = keep_out (has same (keys t)) (tried kind c 26) m in keep-in (touch_at kind c) (of-has cells (keys t) r.1) (tried-touch r.0))
      (λ a m. let r = keep_out (touch_at kind c) (keys t) m in keep-in (has same (keys t)) (touch-tried r.1) (has_of cells r.0))
      ∙ sym (keys-only (touch_at kind c) t))
      ∙ ids-at-rows t (only (touch_at kind c) t) (λ q m. (asc-mem-at cells t asc (keep_out (λ (p : Cell × ℕ). touch_at kind c p.0) t m).0).is)

module _ (kind : ℕ) (t : Ids) (c : Cell) (k : ℕ) (found : List ℕ) (so : found ≡ ids_at t (tried kind c k)) where
  -- The next neighbour is not of the kind.
  pub found_left : touch_at kind c (neighbour_of c (k + 1)) ≡ false → found ≡ ids_at t (tried kind c (k + 1))
  found_left f = so ∙ ap (ids_at t) (sym (tried_same kind c k f))

  module _ (touching : touch_at kind c (neighbour_of c (k + 1)) ≡ true) where
    ids_more : ids_at t (tried kind c (k + 1)) ≡ ids_at t (tried kind c k) ++ list_of (get same t (neighbour_of c (k + 1)))
    ids_more = ap (ids_at t) (tried-more kind c k touching) ∙ ids-at-more t (tried kind c k) (neighbour_of c (k + 1))

    -- The next neighbour has the id g, which is found.
    pub found-more : (g : ℕ) (d : Cell) → d ≡ neighbour_of c (k + 1) → get same t d ≡ some g → found ++ g ∷ [] ≡ ids_at t (tried kind c (k + 1))
    found-more g d e f =
        (λ i. so i ++ list_of (sym f i))
        ∙ ap (λ (x : Cell). ids_at t (tried kind c k) ++ list_of (get same t x)) e
        ∙ sym ids_more

    -- The next neighbour has no id.
    pub found-same : (d : Cell) → d ≡ neighbour_of c (k + 1) → get same t d ≡ none → found ≡ ids_at t (tried kind c (k + 1))
    found-same d e f =
        so
        ∙ sym (append-nil (ids_at t (tried kind c k)))
        ∙ ap (λ (o : Option ℕ). ids_at t (tried kind c k) ++ list_of o) (sym f)
        ∙ ap (λ (x : Cell). ids_at t (tried kind c k) ++ list_of (get same t x)) e
        ∙ sym ids_more

-- No neighbour is tried yet.
pub found_none : (kind : ℕ) (t : Ids) (c : Cell) → [] ≡ ids_at t (tried kind c 0)
unfolding tried ids_at
found_none kind t c = refl
