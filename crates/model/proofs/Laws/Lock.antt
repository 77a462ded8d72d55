-- Rules 2 and 3 seen on a set of cells that touching does not leave are, up to a renaming in order, those rules on the set by itself.
use Rattle.std.specs.Prelude.{ℕ, suc, ◌≤◌, ◌<◌, ◌≡◌, refl, Bool, true, false, cond, not, eqb, ltb, length}
use Rattle.std.proofs.Common.{arith, ◌∙◌, ap}
use Rattle.std.proofs.Math.Path.{sym, subst}
use mathlib.Core.List.Memᴰ.{head}
use mathlib.Core.List.Memᴰ.{tail}
use mathlib.Core.List.{List, [], ◌∷◌, Memᴰ as Mem}
use Rattle.std.proofs.Math.Dec.{T, T_not, not_T, eqb→eq}
use Rattle.model.specs.Facts.{Asc}
use Rattle.model.specs.Lists.{keep, any, has, values, only, each, run}
use Rattle.model.specs.Cells.{Cell, same}
use Rattle.model.specs.Groups.{Ids, Groups, members, rule2, rule3, take_next, split, split_into, parts, affected}
use Rattle.model.proofs.Laws.Tests.{false_of, T_true, T_false, same_test}
use Rattle.model.proofs.Laws.Orders.{cells, numbers}
use Rattle.model.proofs.Laws.Members.{keep-in, keep_out, keep-swap, keep-ext, any-in, any_out, each_in, each-out, each-ext, key-out, has_of, of-has}
use Rattle.model.proofs.Laws.Sorted.{asc-equal, keep-asc, ascending-asc, ascending-in, ascending-out}
use Rattle.model.proofs.Laws.Tables.{only-change, change-same}
use Rattle.model.proofs.Laws.Pieces.{takers, takers-out}
use Rattle.model.proofs.Laws.PieceOrder.{pieces-sub}
use Rattle.model.proofs.Laws.Onward.{split-onward}
use Rattle.model.proofs.Laws.Rename.{affected-ren, Sim, Step, ren, split-sim}
use Rattle.model.proofs.Laws.View.{members-on, view}

-- For a cell of the set, membership in a list and in what the set leaves of it are the same.
pub has_on : (on : Cell → Bool) (l : List Cell) (a : Cell) → T (on a) → has same l a ≡ has same (keep on l) a
has_on on l a o = same_test (has same l a) (has same (keep on l) a) (λ t. has_of cells (keep-in on (of-has cells l t) o)) (λ t. has_of cells (keep_out on l (of-has cells (keep on l) t)).0)

-- The next id may be larger.
abbrev pub bump : (s t : Groups) (ids : Ids) (n : ℕ) → Sim s t → ids ≡ s.ids → s.next ≤ n → Sim (record { ids = ids; next = n }) t
bump s t ids n sim e h =
    record {
      f = sim.f;
      L = sim.L;
      same = sim.same ∙ ap (λ i. ren sim.f i) (sym e);
      uses = λ q m. sim.uses q (subst (λ i. Mem q i) e m);
      low = λ g l. let u = sim.low g l in omega arith;
      low' = sim.low';
      mono = sim.mono;
    }

module _ (touch : Cell → Cell → Bool) where
  -- An affected group has a cell that an emptied cell touches.
  aff-out : (gs : List Cell) (ids : Ids) (g : ℕ) → Mem g (affected touch gs ids) → (q : Cell × ℕ) × Mem q ids × (g ≡ q.1) × T (any (λ d. touch d q.0) gs)
  aff-out gs ids g m =
      let l : Ids = only (λ c. any (λ d. touch d c) gs) ids in
      let r : (q : Cell × ℕ) × Mem q l × (g ≡ q.1) = each-out (λ (p : Cell × ℕ). p.1) l (ascending-out numbers (values l) m) in
      let k : Mem r.0 ids × T (any (λ d. touch d r.0.0) gs) = keep_out (λ (p : Cell × ℕ). any (λ d. touch d p.0) gs) ids r.1 in
      (r.0, k.0, r.2, k.1)

  -- The group of a cell that an emptied cell touches is affected.
  aff-in : (gs : List Cell) (ids : Ids) (q : Cell × ℕ) → Mem q ids → T (any (λ d. touch d q.0) gs) → Mem q.1 (affected touch gs ids)
  aff-in gs ids q m t = ascending-in numbers (values (only (λ c. any (λ d. touch d c) gs) ids)) (each_in (λ (p : Cell × ℕ). p.1) (keep-in (λ (p : Cell × ℕ). any (λ d. touch d p.0) gs) m t))

  -- The affected groups are ascending.
  aff-asc : (gs : List Cell) (ids : Ids) → Asc ltb (affected touch gs ids)
  aff-asc gs ids = ascending-asc numbers (values (only (λ c. any (λ d. touch d c) gs) ids))

module _ (touch : Cell → Cell → Bool) (on : Cell → Bool) where
  -- Rule 2 on the set.
  pub rule2-view : (gone : List Cell) (s : Groups) → view on (rule2 touch gone s) ≡ rule2 touch (keep on gone) (view on s)
  rule2-view gone s = λ i. record { ids = ids' i; next = s.next }
    where
      ids' : only on (only (λ c. not (has same gone c)) s.ids) ≡ only (λ c. not (has same (keep on gone) c)) (only on s.ids)
      ids' =
          keep-swap (λ (q : Cell × ℕ). on q.0) (λ (q : Cell × ℕ). not (has same gone q.0)) s.ids
          ∙ keep-ext (λ (q : Cell × ℕ). not (has same gone q.0)) (λ (q : Cell × ℕ). not (has same (keep on gone) q.0)) (only on s.ids)
          (λ q m. ap not (has_on on gone q.0 (keep_out (λ (x : Cell × ℕ). on x.0) s.ids m).1))

  -- A piece takes the next id on the set.
  take-view : (s : Groups) (p : List Cell) → view on (take_next touch s p) ≡ take_next touch (view on s) p
  take-view s p = λ i. record { ids = only-change on (λ c h. cond (has same p c) s.next h) s.ids i; next = suc s.next }

  -- Pieces take the next ids on the set.
  takes-view : (ps : List (List Cell)) (s : Groups) → view on (run (take_next touch) s ps) ≡ run (take_next touch) (view on s) ps
  takes-view [] s = refl
  takes-view (p ∷ ps) s = takes-view ps (take_next touch s p) ∙ ap (λ v. run (take_next touch) v ps) (take-view s p)

  -- A split into pieces on the set.
  into-view : (l : List (List Cell)) (s : Groups) → view on (split_into touch s l) ≡ split_into touch (view on s) l
  into-view [] s = refl
  into-view (p ∷ ps) s = takes-view (takers touch p ps) s

  -- A group of the set.
  split-on : (s : Groups) (g : ℕ) → ((q : Cell × ℕ) → Mem q s.ids → T (eqb g q.1) → T (on q.0)) → view on (split touch s g) ≡ split touch (view on s) g
  split-on s g h = into-view (parts touch (members s.ids g)) s ∙ ap (λ l. split_into touch (view on s) (parts touch l)) (sym (members-on on s.ids g h))

  -- A piece outside the set.
  take-off : (s : Groups) (p : List Cell) → ((a : Cell) → Mem a p → T (not (on a))) → only on (take_next touch s p).ids ≡ only on s.ids
  take-off s p n =
      only-change on (λ c h. cond (has same p c) s.next h) s.ids
      ∙ change-same (λ c h. cond (has same p c) s.next h) (only on s.ids) (λ q m. ap (λ b. cond b s.next q.1) (false_of (has same p q.0) (not_T (has same p q.0) (λ t. T_not (on q.0) (n q.0 (of-has cells p t)) (keep_out (λ (x : Cell × ℕ). on x.0) s.ids m).1))))

  -- Pieces outside the set.
  takes-off : (ps : List (List Cell)) (s : Groups) → ((p : List Cell) → Mem p ps → (a : Cell) → Mem a p → T (not (on a))) → only on (run (take_next touch) s ps).ids ≡ only on s.ids
  takes-off [] s n = refl
  takes-off (p ∷ ps) s n = takes-off ps (take_next touch s p) (λ q m. n q (tail m)) ∙ take-off s p (n p (head refl))

  -- A group outside the set.
  split_off : (s : Groups) (g : ℕ) → ((q : Cell × ℕ) → Mem q s.ids → T (eqb g q.1) → T (not (on q.0))) → only on (split touch s g).ids ≡ only on s.ids
  split_off s g n = go (parts touch group) refl
    where
      group : List Cell
      group = members s.ids g

      off : {a : Cell} → Mem a group → T (not (on a))
      off {a} m =
          let r : (q : Cell × ℕ) × Mem q (keep (λ (q : Cell × ℕ). eqb g q.1) s.ids) × (a ≡ q.0) = key-out (keep (λ (q : Cell × ℕ). eqb g q.1) s.ids) m in
          let k : Mem r.0 s.ids × T (eqb g r.0.1) = keep_out (λ (q : Cell × ℕ). eqb g q.1) s.ids r.1 in
          subst (λ x. T (not (on x))) (sym r.2) (n r.0 k.0 k.1)

      go : (l : List (List Cell)) → parts touch group ≡ l → only on (split_into touch s l).ids ≡ only on s.ids
      go [] e = refl
      go (p ∷ ps) e =
          takes-off (takers touch p ps) s
          (λ q m a k. off (pieces-sub touch (length group) group (subst (λ l. Mem q l) (sym e) (takers-out touch p ps m)) k))

  -- Rows with an old id are old.
  take-old : (s : Groups) (p : List Cell) (q : Cell × ℕ) → Mem q (take_next touch s p).ids → q.1 < s.next → Mem q s.ids
  take-old s p q m h =
      let r : (x : Cell × ℕ) × Mem x s.ids × (q ≡ (x.0, cond (has same p x.0) s.next x.1)) = each-out (λ (x : Cell × ℕ). (x.0, cond (has same p x.0) s.next x.1)) s.ids m in
      go (has same p r.0.0) r.0 r.1 r.2
    where
      go : (b : Bool) (x : Cell × ℕ) → Mem x s.ids → q ≡ (x.0, cond b s.next x.1) → Mem q s.ids
      go true x k e = let f : q.1 ≡ s.next = ap (λ (y : Cell × ℕ). y.1) e in absurd (omega arith)
      go false x k e = subst (λ y. Mem y s.ids) (sym e) k

  -- Rows with an old id are old after several pieces.
  takes-old : (ps : List (List Cell)) (s : Groups) (q : Cell × ℕ) → Mem q (run (take_next touch) s ps).ids → q.1 < s.next → Mem q s.ids
  takes-old [] s q m h = m
  takes-old (p ∷ ps) s q m h = take-old s p q (takes-old ps (take_next touch s p) q m (omega arith)) h

  -- Rows with an old id are old after a split.
  split-old : (s : Groups) (g : ℕ) (q : Cell × ℕ) → Mem q (split touch s g).ids → q.1 < s.next → Mem q s.ids
  split-old s g q = go (parts touch (members s.ids g))
    where
      go : (l : List (List Cell)) → Mem q (split_into touch s l).ids → q.1 < s.next → Mem q s.ids
      go [] m h = m
      go (p ∷ ps) m h = takes-old (takers touch p ps) s q m h

  module _ (lab : ℕ → Bool) where
    -- Each group that is listed has all its cells in the set or all outside it, as its label says, and is older than the next id.
    abbrev Sides : Groups → List ℕ → Type 0
    Sides s l =
        ((g : ℕ) → Mem g l → (q : Cell × ℕ) → Mem q s.ids → T (eqb g q.1) → T (lab g) → T (on q.0))
        × ((g : ℕ) → Mem g l → (q : Cell × ℕ) → Mem q s.ids → T (eqb g q.1) → T (not (lab g)) → T (not (on q.0)))
        × ((g : ℕ) → Mem g l → g < s.next)

    -- The groups still listed have their cells on one side after a split of another.
    sides-next : (s : Groups) (g : ℕ) (l : List ℕ) → Sides s (g ∷ l) → Sides (split touch s g) l
    sides-next s g l h = (
      (λ k m q j t. h.0 k (tail m) q (old k m q j t) t),
      (λ k m q j t. h.1 k (tail m) q (old k m q j t) t),
      (λ k m. let u = h.2 k (tail m) in omega (arith, (split-onward touch s g).grows)),
    )
      where
        old : (k : ℕ) → Mem k l → (q : Cell × ℕ) → Mem q (split touch s g).ids → T (eqb k q.1) → Mem q s.ids
        old k m q j t = let e = eqb→eq k q.1 t in let u = h.2 k (tail m) in split-old s g q j (omega arith)

    -- The groups of the set are split on both sides, the others on one.
    splits-lock : (l : List ℕ) (s t : Groups) (sim : Sim (view on s) t) → Sides s l → ((g : ℕ) → Mem g l → T (lab g) → sim.L g) → Sim (view on (run (split touch) s l)) (run (split touch) t (each sim.f (keep lab l)))
    splits-lock [] s t sim h ls = sim
    splits-lock (g ∷ l) s t sim h ls = go (λ s' t' sim' h' ls'. splits-lock l s' t' sim' h' ls') (lab g) refl
      where
        go : ((s' t' : Groups) (sim' : Sim (view on s') t') → Sides s' l → ((k : ℕ) → Mem k l → T (lab k) → sim'.L k) → Sim (view on (run (split touch) s' l)) (run (split touch) t' (each sim'.f (keep lab l)))) → (b : Bool) → lab g ≡ b → Sim (view on (run (split touch) (split touch s g) l)) (run (split touch) t (each sim.f (cond b (g ∷ keep lab l) (keep lab l))))
        go rec true e =
            let st : Step (view on s) t (view on (split touch s g)) (split touch t (sim.f g)) sim =
            subst (λ v. Step (view on s) t v (split touch t (sim.f g)) sim) (sym (split-on s g (λ q m k. h.0 g (head refl) q m k (T_true e)))) (split-sim touch g (view on s) t sim (ls g (head refl) (T_true e))) in
            subst (λ k. Sim (view on (run (split touch) (split touch s g) l)) (run (split touch) (split touch t (sim.f g)) k))
            (each-ext st.then.f sim.f (keep lab l) (λ k m. let r = keep_out lab l m in st.agree k (ls k (tail r.0) r.1)))
            (rec (split touch s g) (split touch t (sim.f g)) st.then (sides-next s g l h) (λ k m u. st.kept k (ls k (tail m) u)))
        go rec false e =
            rec (split touch s g) t
            (bump (view on s) t (only on (split touch s g).ids) (split touch s g).next sim (split_off s g (λ q m k. h.1 g (head refl) q m k (T_false e))) (split-onward touch s g).grows)
            (sides-next s g l h) (λ k m u. ls k (tail m) u)

  -- Rule 3, where the cells of a group are all in the set or all outside it.
  module _ (flip : (a b : Cell) → T (touch a b) → T (touch b a)) (stays : (a b : Cell) → T (touch a b) → T (on a) → T (on b)) (gone : List Cell) (s : Groups) (one_side : (p q : Cell × ℕ) → Mem p s.ids → Mem q s.ids → p.1 ≡ q.1 → T (on p.0) → T (on q.0)) where
    -- Whether an id is that of a cell of the set.
    abbrev lab : ℕ → Bool
    lab g = has eqb (values (only on s.ids)) g

    -- Such an id has a cell of the set.
    lab-out : (g : ℕ) → T (lab g) → (q : Cell × ℕ) × Mem q s.ids × T (on q.0) × (g ≡ q.1)
    lab-out g t =
        let r : (q : Cell × ℕ) × Mem q (only on s.ids) × (g ≡ q.1) = each-out (λ (q : Cell × ℕ). q.1) (only on s.ids) (of-has numbers (values (only on s.ids)) t) in
        let k : Mem r.0 s.ids × T (on r.0.0) = keep_out (λ (q : Cell × ℕ). on q.0) s.ids r.1 in
        (r.0, k.0, k.1, r.2)

    -- The id of a cell of the set is such an id.
    lab-in : (q : Cell × ℕ) → Mem q s.ids → T (on q.0) → T (lab q.1)
    lab-in q m o = has_of numbers (each_in (λ (x : Cell × ℕ). x.1) (keep-in (λ (x : Cell × ℕ). on x.0) m o))

    -- The affected groups of the set are those of the set by itself.
    affected-view : keep lab (affected touch gone s.ids) ≡ affected touch (keep on gone) (only on s.ids)
    affected-view =
        asc-equal numbers _ _
        (keep-asc lab (affected touch gone s.ids) (aff-asc touch gone s.ids)) (aff-asc touch (keep on gone) (only on s.ids))
        (λ g m.
        let r : Mem g (affected touch gone s.ids) × T (lab g) = keep_out lab (affected touch gone s.ids) m in
        let a : (q : Cell × ℕ) × Mem q s.ids × (g ≡ q.1) × T (any (λ d. touch d q.0) gone) = aff-out touch gone s.ids g r.0 in
        let b : (q : Cell × ℕ) × Mem q s.ids × T (on q.0) × (g ≡ q.1) = lab-out g r.1 in
        let o : T (on a.0.0) = one_side b.0 a.0 b.1 a.1 (sym b.3 ∙ a.2) b.2 in
        let d : (x : Cell) × Mem x gone × T (touch x a.0.0) = any_out (λ x. touch x a.0.0) gone a.3 in
        subst (λ k. Mem k (affected touch (keep on gone) (only on s.ids))) (sym a.2)
        (aff-in touch (keep on gone) (only on s.ids) a.0 (keep-in (λ (x : Cell × ℕ). on x.0) a.1 o)
        (any-in (λ x. touch x a.0.0) (keep-in on d.1 (stays a.0.0 d.0 (flip d.0 a.0.0 d.2) o)) d.2)))
        (λ g m.
        let a : (q : Cell × ℕ) × Mem q (only on s.ids) × (g ≡ q.1) × T (any (λ d. touch d q.0) (keep on gone)) = aff-out touch (keep on gone) (only on s.ids) g m in
        let k : Mem a.0 s.ids × T (on a.0.0) = keep_out (λ (x : Cell × ℕ). on x.0) s.ids a.1 in
        let d : (x : Cell) × Mem x (keep on gone) × T (touch x a.0.0) = any_out (λ x. touch x a.0.0) (keep on gone) a.3 in
        subst (λ j. Mem j (keep lab (affected touch gone s.ids))) (sym a.2)
        (keep-in lab (aff-in touch gone s.ids a.0 k.0 (any-in (λ x. touch x a.0.0) (keep_out on gone d.1).0 d.2)) (lab-in a.0 k.0 k.1)))

    -- Rule 3 on the set, against the set by itself.
    pub rule3-lock : (t : Groups) (sim : Sim (view on s) t) → ((q : Cell × ℕ) → Mem q s.ids → q.1 < s.next) → Sim (view on (rule3 touch gone s)) (rule3 touch (keep on gone) t)
    unfolding rule3
    rule3-lock t sim under =
        subst (λ l. Sim (view on (rule3 touch gone s)) (run (split touch) t l)) (ap (λ l. each sim.f l) affected-view ∙ sym (affected-ren touch (keep on gone) (view on s) t sim))
        (splits-lock lab (affected touch gone s.ids) s t sim sides (λ g m u. let b = lab-out g u in subst sim.L (sym b.3) (sim.uses b.0 (keep-in (λ (x : Cell × ℕ). on x.0) b.1 b.2))))
      where
        sides : Sides lab s (affected touch gone s.ids)
        sides = (
          (λ g m q k e u. let b = lab-out g u in one_side b.0 q b.1 k (sym b.3 ∙ eqb→eq g q.1 e) b.2),
          (λ g m q k e u. not_T (on q.0) (λ o. T_not (lab g) u (subst (λ x. T (lab x)) (sym (eqb→eq g q.1 e)) (lab-in q k o)))),
          (λ g m. let a = aff-out touch gone s.ids g m in let u = under a.0 a.1 in let e = a.2 in omega arith),
        )
