-- How many entities stand in each cell, before and after one enters or leaves.
use Prim.Native.Nat.{ℕ, suc, ◌≤◌, ◌<◌}
use Rattle.std.proofs.Common.{arith, ◌∙◌, subst, ⊎_elim, T_not, lt→ltb, nltb→le}
use Rattle.std.specs.Prelude.{◌≡◌, refl, Bool, false, cond, ◌||◌, not, eqb}
use Rattle.std.proofs.Math.Path.{sym, ap}
use Rattle.std.proofs.Math.Bool.{true}
use mathlib.Core.List.Memᴰ.{cast as mem-cast}
use mathlib.Core.List.Memᴰ.{head}
use mathlib.Core.List.Memᴰ.{tail}
use mathlib.Core.List.{List, [], ◌∷◌, Memᴰ as Mem}
use Rattle.std.proofs.Math.Option.{Option, none, some}
use Rattle.std.proofs.Math.Dec.{ltb}
use Rattle.std.proofs.Math.ListN.{length}
use Rattle.model.specs.Facts.{Asc, At, Free, Sound}
use Rattle.model.specs.Lists.{keep, any, has, add, without, each, keys, get, put, drop_key}
use Rattle.model.specs.Cells.{Cell, same, below}
use Rattle.model.specs.Occupancy.{Occupancy, occupied, stands_in, enter, leave}
use Rattle.model.specs.Crowd.{how_many, tallied}
use Rattle.model.proofs.Laws.Tests.{cond_yes, cond_no, T_true, T_false, true_of, false_of, nltb-of}
use Rattle.model.proofs.Laws.Orders.{Ordered, numbers, cells, same_of, differ, is-or}
use Rattle.model.proofs.Laws.Members.{keep-each, keep-shorter, each_in, each-out, each-ext, each-each, each_same, keep_out, has_of, of-has}
use Rattle.model.proofs.Laws.Sorted.{add-out, add-in, add-self, add-asc, add-old}
use Rattle.model.proofs.Laws.Tables.{asc-mem-at, key-at, key-free, free-key, of-free, get-put-self, get-put-other, get-drop-other, get-drop-self, free_of, put-asc, drop-asc, put-old, mem-put-out, put_self, put_in, table-equal, table_same}
use Rattle.model.proofs.Laws.Occupied.{occupied-asc, occupied-enter, occupied-leave, occupied-stands, at-occupied}
use Rattle.layout.specs.Rows.{id_row}
use Rattle.map.specs.Held.{tally, crowd_of, counted}
use Rattle.map.specs.Laws.Each.{under, get-each}

-- Some member passes exactly if those that pass are not none.
any-counted : {A : Type 0} (p : A → Bool) (l : List A) → any p l ≡ ltb 0 (length (keep p l))
any-counted p [] = refl
any-counted p (x ∷ l) = go (p x) (any-counted p l)
  where
    go : (b : Bool) → any p l ≡ ltb 0 (length (keep p l)) → (b || any p l) ≡ ltb 0 (length (cond b (x ∷ keep p l) (keep p l)))
    go true e = sym (true_of (ltb 0 (suc (length (keep p l)))) (lt→ltb 0 (suc (length (keep p l))) (omega arith)))
    go false e = e

module _ {K W : Type 0} {eq lt : K → K → Bool} (laws : Ordered eq lt) (p : K × W → Bool) (k : K) (v : W) where
  -- Of the rows after one is put in under a free key, as many pass as of that row and the others.
  passing-put : (t : List (K × W)) → (Mem k (keys t) → ⊥) → length (keep p (put lt k v t)) ≡ length (keep p ((k, v) ∷ t))
  passing-put [] n = refl
  passing-put (q ∷ t) n = go (lt k q.0) (lt q.0 k) refl refl (passing-put t (λ m. n (tail m)))
    where
      swap : (a b : Bool) → length (keep p (put lt k v t)) ≡ length (cond a ((k, v) ∷ keep p t) (keep p t))
          → length (cond b (q ∷ keep p (put lt k v t)) (keep p (put lt k v t))) ≡ length (cond a ((k, v) ∷ cond b (q ∷ keep p t) (keep p t)) (cond b (q ∷ keep p t) (keep p t)))
      swap true true h = ap suc h
      swap true false h = h
      swap false true h = ap suc h
      swap false false h = h

      go : (a b : Bool) → lt k q.0 ≡ a → lt q.0 k ≡ b → length (keep p (put lt k v t)) ≡ length (keep p ((k, v) ∷ t))
          → length (keep p (cond a ((k, v) ∷ q ∷ t) (cond b (q ∷ put lt k v t) ((k, v) ∷ t)))) ≡ length (keep p ((k, v) ∷ q ∷ t))
      go true b d e h = refl
      go false true d e h = swap (p (k, v)) (p q) h
      go false false d e h = absurd (n (head (laws.tri k q.0 (T_false d) (T_false e))))

module _ (t : List (ℕ × Cell)) (e : ℕ) (c : Cell) (free : Mem e (keys t) → ⊥) where
  -- One more stands in the cell that is entered.
  pub standing_here : how_many (put ltb e c t) c ≡ suc (how_many t c)
  unfolding how_many
  standing_here =
      passing-put numbers (λ (p : ℕ × Cell). same c p.1) e c t free
      ∙ ap length (cond_yes (same c c) ((e, c) ∷ keep (λ (p : ℕ × Cell). same c p.1) t) (keep (λ (p : ℕ × Cell). same c p.1) t) (cells.same_self c))

  -- As many stand in every other.
  pub standing-there : (a : Cell) → (a ≡ c → ⊥) → how_many (put ltb e c t) a ≡ how_many t a
  unfolding how_many
  standing-there a n =
      passing-put numbers (λ (p : ℕ × Cell). same a p.1) e c t free
      ∙ ap length (cond_no (same a c) ((e, c) ∷ keep (λ (p : ℕ × Cell). same a p.1) t) (keep (λ (p : ℕ × Cell). same a p.1) t) (differ cells n))

-- Some entity stands in the cell exactly if the number is not 0.
pub stands-counted : (t : List (ℕ × Cell)) (c : Cell) → stands_in t c ≡ ltb 0 (how_many t c)
unfolding how_many
stands-counted t c = any-counted (λ (p : ℕ × Cell). same c p.1) t

-- No more stand in a cell than there are.
pub standing-few : (t : List (ℕ × Cell)) (c : Cell) → how_many t c ≤ length t
unfolding how_many
standing-few t c = keep-shorter (λ (p : ℕ × Cell). same c p.1) t

module _ {K W : Type 0} {eq lt : K → K → Bool} (laws : Ordered eq lt) (t : List (K × W)) (k : K) (v : W) (s : Asc lt (keys t)) where
  -- To leave out a row and put in another under its key is to put that one in its place.
  pub put-over : put lt k v (drop_key eq k t) ≡ put lt k v t
  put-over =
      table_same laws (put lt k v (drop_key eq k t)) (put lt k v t) (put-asc laws (drop_key eq k t) k v (drop-asc laws k t s)) (put-asc laws t k v s)
      (λ a. ⊎_elim (λ f. ap (get eq (put lt k v (drop_key eq k t))) f ∙ get-put-self laws (drop_key eq k t) k v ∙ sym (get-put-self laws t k v) ∙ ap (get eq (put lt k v t)) (sym f))
      (λ n. get-put-other laws (drop_key eq k t) k v a n ∙ get-drop-other laws t k a n ∙ sym (get-put-other laws t k v a n)) (is-or laws a k))

  -- A row that is left out and put in again.
  put-dropped : At eq t k v → put lt k v (drop_key eq k t) ≡ t
  put-dropped p = put-over ∙ put-old laws t k v s p

module _ (t : List (ℕ × Cell)) (e : ℕ) (c : Cell) (s : Asc ltb (keys t)) (p : At eqb t e c) where
  gone : Mem e (keys (drop_key eqb e t)) → ⊥
  gone m = let r = key-at numbers (drop_key eqb e t) m in free_of (drop_key eqb e t) e (get-drop-self numbers t e) r.0 r.1

  -- One fewer stands in the cell that is left.
  pub left_here : how_many t c ≡ suc (how_many (drop_key eqb e t) c)
  left_here = ap (λ (u : List (ℕ × Cell)). how_many u c) (sym (put-dropped numbers t e c s p)) ∙ standing_here (drop_key eqb e t) e c gone

  -- As many stand in every other.
  pub left_there : (a : Cell) → (a ≡ c → ⊥) → how_many (drop_key eqb e t) a ≡ how_many t a
  left_there a n = sym (standing-there (drop_key eqb e t) e c gone a n) ∙ ap (λ (u : List (ℕ × Cell)). how_many u a) (put-dropped numbers t e c s p)

-- The keys of a tally are its cells.
pub tallied-keys : (f : Cell → ℕ) (l : List Cell) → keys (tallied f l) ≡ l
tallied-keys f l = each-each (λ (p : Cell × ℕ). p.0) (λ c. (c, f c)) l ∙ each_same (λ c. c) l (λ a m. refl)

module _ (f g : Cell → ℕ) (c : Cell) (l : List Cell) where
  -- A tally after the number of one cell changes.
  pub tallied-put : Asc below l → (v : ℕ) → f c ≡ v → ((a : Cell) → (a ≡ c → ⊥) → f a ≡ g a) → tallied f (add below c l) ≡ put below c v (tallied g l)
  tallied-put s v e h =
      table-equal cells (tallied f (add below c l)) (put below c v (tallied g l))
      (subst (Asc below) (sym (tallied-keys f (add below c l))) (add-asc cells c l s)) (put-asc cells (tallied g l) c v asc-g) to from
    where
      asc-g : Asc below (keys (tallied g l))
      asc-g = subst (Asc below) (sym (tallied-keys g l)) s

      to : (q : Cell × ℕ) → Mem q (tallied f (add below c l)) → Mem q (put below c v (tallied g l))
      to q m =
          let r : (a : Cell) × Mem a (add below c l) × (q ≡ (a, f a)) = each-out (λ a. (a, f a)) (add below c l) m in
          mem-cast r.2
          (⊎_elim
          (λ y. mem-cast (λ i. (y i, (ap f y ∙ e) i)) (put_self cells (tallied g l) c v))
          (λ n. mem-cast (λ i. (r.0, h r.0 n i))
          (put_in cells (tallied g l) c v n (each_in (λ a. (a, g a)) (⊎_elim (λ y. absurd (n y)) (λ k. k) (add-out cells c l r.1)))))
          (is-or cells r.0 c))

      from : (q : Cell × ℕ) → Mem q (put below c v (tallied g l)) → Mem q (tallied f (add below c l))
      from q m =
          ⊎_elim
          (λ y. mem-cast (y ∙ (λ i. (c, sym e i))) (each_in (λ a. (a, f a)) (add-self cells c l refl)))
          (λ y. let r : (a : Cell) × Mem a l × (q ≡ (a, g a)) = each-out (λ a. (a, g a)) l y.0 in
          mem-cast (r.2 ∙ (λ i. (r.0, sym (h r.0 (λ z. y.1 (ap (λ (p : Cell × ℕ). p.0) r.2 ∙ z))) i))) (each_in (λ a. (a, f a)) (add-in cells c l r.1)))
          (mem-put-out cells (tallied g l) c v asc-g m)

  -- A tally after a cell goes out.
  pub tallied-drop : ((a : Cell) → (a ≡ c → ⊥) → f a ≡ g a) → tallied f (without same c l) ≡ drop_key same c (tallied g l)
  tallied-drop h =
      each-ext (λ a. (a, f a)) (λ a. (a, g a)) (without same c l)
      (λ a m. ap (λ (v : ℕ). (a, v)) (h a (λ y. T_not (same c a) (keep_out (λ b. not (same c b)) l m).1 (same_of cells (sym y)))))
      ∙ sym (keep-each (λ a. (a, g a)) (λ (q : Cell × ℕ). not (same c q.0)) l)

-- The rows of a tally of the cells where entities stand.
module _ (t : List (ℕ × Cell)) (l : List Cell) (asc : Asc below l) (agree : (c : Cell) → stands_in t c ≡ has same l c) where
  abbrev rows : List (Cell × ℕ)
  rows = tallied (how_many t) l

  look : (c : Cell) (b : Bool) → has same l c ≡ b → get same rows c ≡ cond b (some (how_many t c)) none
  look c true h = (asc-mem-at cells rows (subst (Asc below) (sym (tallied-keys (how_many t) l)) asc) (each_in (λ a. (a, how_many t a)) (of-has cells l (T_true h)))).is
  look c false h =
      of-free rows c (free-key cells rows (λ m. T_not (has same l c) (T_false h) (has_of cells (subst (λ k. Mem c k) (tallied-keys (how_many t) l) m))))

  none-stand : (c : Cell) → has same l c ≡ false → how_many t c ≡ 0
  none-stand c h =
      let z : ltb 0 (how_many t c) ≡ false = sym (stands-counted t c) ∙ agree c ∙ h in
      omega (arith, nltb→le 0 (how_many t c) (T_false z))

  -- What a lookup in the rows finds is the number that stand there.
  pub tallied-counted : (u : List (Cell × List ℕ)) (c : Cell) → u ≡ each id_row (tallied (how_many t) l) → counted (get same u c) ≡ how_many t c
  tallied-counted u c e =
      ap (λ (v : List (Cell × List ℕ)). counted (get same v c)) e
      ∙ ap counted (get-each (λ (a : Cell) (k : ℕ). k ∷ []) same (λ a b q. cells.same-eq a b (T_true q)) rows c)
      ∙ found (has same l c) refl
    where
      found : (b : Bool) → has same l c ≡ b → counted (under (λ (a : Cell) (k : ℕ). k ∷ []) c (get same rows c)) ≡ how_many t c
      found true h = ap (λ (m : Option ℕ). counted (under (λ (a : Cell) (k : ℕ). k ∷ []) c m)) (look c true h)
      found false h = ap (λ (m : Option ℕ). counted (under (λ (a : Cell) (k : ℕ). k ∷ []) c m)) (look c false h) ∙ sym (none-stand c h)

module _ (touch : Cell → Cell → Bool) (o : Occupancy) (ok : Sound touch o) where
  -- The crowd is the tally of the entities.
  pub crowd-tally : crowd_of o ≡ tally o.entities
  unfolding crowd_of tally
  crowd-tally = ap (tallied (how_many o.entities)) ok.cells

  -- The keys of the crowd are the occupied cells.
  pub crowd-keys : keys (crowd_of o) ≡ occupied o
  unfolding crowd_of
  crowd-keys = tallied-keys (how_many o.entities) (occupied o)

  -- What a lookup in the crowd's rows finds is the number that stand there.
  pub crowd-counted : (u : List (Cell × List ℕ)) (c : Cell) → u ≡ each id_row (crowd_of o) → counted (get same u c) ≡ how_many o.entities c
  unfolding crowd_of
  crowd-counted u c e = tallied-counted o.entities (occupied o) (occupied-asc touch o ok) (occupied-stands touch o ok) u c e

module _ (touch : Cell → Cell → Bool) (o : Occupancy) (ok : Sound touch o) (e : ℕ) (c : Cell) where
  abbrev t : List (ℕ × Cell)
  t = o.entities

  -- The crowd after e, which stands nowhere, enters c.
  pub crowd-enter : Free eqb o.entities e → crowd_of (enter touch e c o) ≡ put below c (suc (how_many o.entities c)) (crowd_of o)
  unfolding crowd_of
  crowd-enter n =
      ap (tallied (how_many (put ltb e c t))) (occupied-enter touch o ok e c)
      ∙ tallied-put (how_many (put ltb e c t)) (how_many t) c (occupied o) (occupied-asc touch o ok) (suc (how_many t c))
      (standing_here t e c (key-free numbers t n)) (standing-there t e c (key-free numbers t n))

  module _ (p : At eqb o.entities e c) where
    abbrev u : List (ℕ × Cell)
    u = drop_key eqb e t

    -- The crowd after e leaves c, where others stand.
    pub crowd-leave : (k : ℕ) → how_many o.entities c ≡ suc (suc k) → crowd_of (leave touch e c o) ≡ put below c (suc k) (crowd_of o)
    unfolding crowd_of
    crowd-leave k h =
        let l : how_many u c ≡ suc k = omega (arith, left_here t e c ok.asc p) in
        let b : stands_in u c ≡ true = stands-counted u c ∙ true_of (ltb 0 (how_many u c)) (lt→ltb 0 (how_many u c) (omega arith)) in
        ap (tallied (how_many u)) (occupied-leave touch e c o ∙ cond_yes (stands_in u c) (occupied o) (without same c (occupied o)) (T_true b)
        ∙ sym (add-old cells (occupied-asc touch o ok) (at-occupied touch o ok p)))
        ∙ tallied-put (how_many u) (how_many t) c (occupied o) (occupied-asc touch o ok) (suc k) l (left_there t e c ok.asc p)

    -- The last leaves: nobody stands there.
    pub last-leaves : how_many o.entities c ≤ 1 → stands_in (drop_key eqb e o.entities) c ≡ false
    last-leaves h =
        let l : how_many u c ≡ 0 = omega (arith, left_here t e c ok.asc p) in
        stands-counted u c ∙ false_of (ltb 0 (how_many u c)) (nltb-of 0 (how_many u c) (omega arith))

    -- Another stays: somebody stands there.
    pub other-stays : 1 < how_many o.entities c → stands_in (drop_key eqb e o.entities) c ≡ true
    other-stays h =
        let l : 0 < how_many u c = omega (arith, left_here t e c ok.asc p) in
        stands-counted u c ∙ true_of (ltb 0 (how_many u c)) (lt→ltb 0 (how_many u c) l)

    -- The crowd after e leaves c, where no other stands.
    pub crowd-close : how_many o.entities c ≤ 1 → crowd_of (leave touch e c o) ≡ drop_key same c (crowd_of o)
    unfolding crowd_of
    crowd-close h =
        ap (tallied (how_many u)) (occupied-leave touch e c o ∙ cond_no (stands_in u c) (occupied o) (without same c (occupied o)) (T_false (last-leaves h)))
        ∙ tallied-drop (how_many u) (how_many t) c (occupied o) (left_there t e c ok.asc p)
