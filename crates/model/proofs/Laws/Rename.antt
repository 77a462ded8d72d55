-- The rules look at ids by their order alone: they commute with a renaming that keeps the order of the ids in use, and with any next id.
use Rattle.std.specs.Prelude.{ℕ, suc, ◌≤◌, ◌<◌, ◌≡◌, refl, ◌⊎◌, Bool, true, false, cond, ◌||◌, not, T, eqb, ltb, length}
use Rattle.std.proofs.Common.{arith, sym, ◌∙◌, ap, ap₂, subst, inl, inr, ⊎_elim, eqb→eq, ltb→lt, lt→ltb}
use mathlib.Core.List.Memᴰ.{head}
use mathlib.Core.List.Memᴰ.{tail}
use mathlib.Core.List.{List, [], ◌∷◌, Memᴰ as Mem}
use Rattle.std.proofs.Math.Dec.{not_T, eqb_refl}
use Rattle.model.specs.Lists.{keep, any, has, keys, values, only, put, each, run, add, ascending, change}
use Rattle.model.specs.Cells.{Cell, same, below}
use Rattle.model.specs.Groups.{Ids, Groups, members, size, found_at, largest_group, merge, relabel, join_found, rule1, rule2, take_next, split, split_into, parts, affected}
use Rattle.model.proofs.Laws.Tests.{true_of, false_of, same_test}
use Rattle.model.proofs.Laws.Orders.{cells, numbers}
use Rattle.model.proofs.Laws.Members.{keep_out, each-out, each-each, keep-each, keep-ext}
use Rattle.model.proofs.Laws.Sorted.{ascending-out}
use Rattle.model.proofs.Laws.Tables.{put-out, only-change, change-change, change-ext}
use Rattle.model.proofs.Laws.Largest.{largest-in}
use Rattle.model.proofs.Laws.Pieces.{takers}

-- The ids by other names.
abbrev pub ren : (ℕ → ℕ) → Ids → Ids
ren f = change (λ c g. f g)

-- Every id in use is in L.
abbrev pub Uses : (ℕ → Type 0) → Ids → Type 0
Uses L ids = (q : Cell × ℕ) → Mem q ids → L q.1

-- The renaming keeps the order of the ids in L.
abbrev pub Mono : (ℕ → ℕ) → (ℕ → Type 0) → Type 0
Mono f L = (g h : ℕ) → L g → L h → ltb (f g) (f h) ≡ ltb g h

-- Order decides equality.
eqb_same : (m n m' n' : ℕ) → ltb m n ≡ ltb m' n' → ltb n m ≡ ltb n' m' → T (eqb m n) → T (eqb m' n')
eqb_same m n m' n' d e t = subst (λ k. T (eqb m' k)) (numbers.tri m' n' a b) (eqb_refl m')
  where
    is : m ≡ n
    is = eqb→eq m n t

    a : T (not (ltb m' n'))
    a = not_T (ltb m' n') (λ u. let w = ltb→lt m n (subst T (sym d) u) in omega (arith, is))

    b : T (not (ltb n' m'))
    b = not_T (ltb n' m') (λ u. let w = ltb→lt n m (subst T (sym e) u) in omega (arith, is))

-- The ids in a renamed table are the renamed ids.
pub values-ren : (f : ℕ → ℕ) (ids : Ids) → values (ren f ids) ≡ each f (values ids)
values-ren f ids = each-each (λ (p : Cell × ℕ). p.1) (λ (p : Cell × ℕ). (p.0, f p.1)) ids ∙ sym (each-each f (λ (p : Cell × ℕ). p.1) ids)

module _ (f : ℕ → ℕ) where
  -- A renamed id is put into the renamed table.
  put-ren : (c : Cell) (v : ℕ) (ids : Ids) → put below c (f v) (ren f ids) ≡ ren f (put below c v ids)
  put-ren c v [] = refl
  put-ren c v (p ∷ ids) = go (below c p.0) (below p.0 c) (put-ren c v ids)
    where
      go : (s t : Bool) → put below c (f v) (ren f ids) ≡ ren f (put below c v ids) → cond s ((c, f v) ∷ (p.0, f p.1) ∷ ren f ids) (cond t ((p.0, f p.1) ∷ put below c (f v) (ren f ids)) ((c, f v) ∷ ren f ids)) ≡ ren f (cond s ((c, v) ∷ p ∷ ids) (cond t (p ∷ put below c v ids) ((c, v) ∷ ids)))
      go true t r = refl
      go false true r = ap (λ k. (p.0, f p.1) ∷ k) r
      go false false r = refl

  -- A choice is renamed after it or before it.
  pick : (b : Bool) (g h : ℕ) → cond b (f h) (f g) ≡ f (cond b h g)
  pick true g h = refl
  pick false g h = refl

  -- The groups found are renamed.
  found-ren : (touch : Cell → Cell → Bool) (c : Cell) (ids : Ids) → found_at touch (ren f ids) c ≡ each f (found_at touch ids c)
  found-ren touch c ids = ap values (only-change (touch c) (λ c g. f g) ids) ∙ values-ren f (only (touch c) ids)

module _ (f : ℕ → ℕ) (L : ℕ → Type 0) (mono : Mono f L) where
  -- A renaming that keeps the order keeps ids apart.
  pub inj : (g h : ℕ) → L g → L h → eqb (f g) (f h) ≡ eqb g h
  inj g h a b =
      same_test (eqb (f g) (f h)) (eqb g h) (eqb_same (f g) (f h) g h (mono g h a b) (mono h g b a))
      (eqb_same g h (f g) (f h) (sym (mono g h a b)) (sym (mono h g b a)))

  -- A group has the same members under its new name.
  pub members-ren : (ids : Ids) → Uses L ids → (g : ℕ) → L g → members (ren f ids) (f g) ≡ members ids g
  members-ren ids u g l =
      ap keys (keep-each (λ (p : Cell × ℕ). (p.0, f p.1)) (λ (p : Cell × ℕ). eqb (f g) p.1) ids)
      ∙ each-each (λ (p : Cell × ℕ). p.0) (λ (p : Cell × ℕ). (p.0, f p.1)) (keep (λ (p : Cell × ℕ). eqb (f g) (f p.1)) ids)
      ∙ ap keys (keep-ext (λ (p : Cell × ℕ). eqb (f g) (f p.1)) (λ (p : Cell × ℕ). eqb g p.1) ids (λ q m. inj g q.1 l (u q m)))

  -- The largest group is renamed.
  largest-ren : (ids : Ids) → Uses L ids → (g : ℕ) (gs : List ℕ) → L g → ((h : ℕ) → Mem h gs → L h) → largest_group (ren f ids) (f g) (each f gs) ≡ f (largest_group ids g gs)
  largest-ren ids u g [] l ls = refl
  largest-ren ids u g (h ∷ hs) l ls = ap (λ k. largest_group (ren f ids) k (each f hs)) first ∙ largest-ren ids u (cond (ltb (size ids g) (size ids h)) h g) hs (chosen (ltb (size ids g) (size ids h))) (λ k m. ls k (tail m))
    where
      chosen : (b : Bool) → L (cond b h g)
      chosen true = ls h (head refl)
      chosen false = l

      first : cond (ltb (size (ren f ids) (f g)) (size (ren f ids) (f h))) (f h) (f g) ≡ f (cond (ltb (size ids g) (size ids h)) h g)
      first =
          ap₂ (λ a b. cond (ltb (length a) (length b)) (f h) (f g)) (members-ren ids u g l) (members-ren ids u h (ls h (head refl)))
          ∙ pick f (ltb (size ids g) (size ids h)) g h

  -- Whether an id is among some ids does not depend on the names.
  one-ren : (gs : List ℕ) (h : ℕ) → L h → ((k : ℕ) → Mem k gs → L k) → has eqb (each f gs) (f h) ≡ has eqb gs h
  one-ren [] h l ls = refl
  one-ren (g ∷ gs) h l ls = ap₂ (λ a b. a || b) (inj h g l (ls g (head refl))) (one-ren gs h l (λ k m. ls k (tail m)))

  -- Merging goes through a renaming.
  merge-ren : (w : ℕ) (gs : List ℕ) → ((k : ℕ) → Mem k gs → L k) → (ids : Ids) → Uses L ids → merge (f w) (each f gs) (ren f ids) ≡ ren f (merge w gs ids)
  merge-ren w gs ls ids u =
      change-change (λ c h. cond (has eqb (each f gs) h) (f w) h) (λ c h. f h) ids
      ∙ change-ext (λ c h. cond (has eqb (each f gs) (f h)) (f w) (f h)) (λ c h. f (cond (has eqb gs h) w h)) ids
      (λ q m. ap (λ b. cond b (f w) (f q.1)) (one-ren gs q.1 (u q m) ls) ∙ pick f (has eqb gs q.1) q.1 w)
      ∙ sym (change-change (λ c h. f h) (λ c h. cond (has eqb gs h) w h) ids)

-- The second's ids are the first's, renamed in order; L are the ids in use since the two were compared.
pub record Sim (s t : Groups) : Type 1 where
  pub f : ℕ → ℕ
  pub L : ℕ → Type 0
  pub same : t.ids ≡ ren f s.ids
  pub uses : (q : Cell × ℕ) → Mem q s.ids → L q.1
  pub low : (g : ℕ) → L g → g < s.next
  pub low' : (g : ℕ) → L g → f g < t.next
  pub mono : Mono f L

-- The renaming with one id more, the next of both.
abbrev upd : (ℕ → ℕ) → ℕ → ℕ → ℕ → ℕ
upd f n m g = cond (eqb g n) m (f g)

-- The new id has its new name.
upd-new : (f : ℕ → ℕ) (n m : ℕ) → upd f n m n ≡ m
upd-new f n m = ap (λ b. cond b m (f n)) (true_of (eqb n n) (eqb_refl n))

-- A smaller id has its old name.
upd-old : (f : ℕ → ℕ) (n m g : ℕ) → g < n → upd f n m g ≡ f g
upd-old f n m g h = ap (λ b. cond b m (f g)) (false_of (eqb g n) (not_T (eqb g n) (λ t. let e = eqb→eq g n t in omega arith)))

-- A smaller number passes the test.
ltb-true : (m n : ℕ) → m < n → ltb m n ≡ true
ltb-true m n h = true_of (ltb m n) (lt→ltb m n h)

-- A number that is not smaller fails the test.
ltb-false : (m n : ℕ) → n ≤ m → ltb m n ≡ false
ltb-false m n h = false_of (ltb m n) (not_T (ltb m n) (λ t. let u = ltb→lt m n t in omega arith))

-- A step of both: ids that were in use keep their names.
pub record Step (s t s' t' : Groups) (sim : Sim s t) : Type 1 where
  pub then : Sim s' t'
  pub kept : (g : ℕ) → sim.L g → then.L g
  pub agree : (g : ℕ) → sim.L g → then.f g ≡ sim.f g

module _ (s t : Groups) (sim : Sim s t) where
  -- The renaming with the next ids of both.
  abbrev f⁺ : ℕ → ℕ
  f⁺ = upd sim.f s.next t.next

  -- The ids in use with the next.
  abbrev L⁺ : ℕ → Type 0
  L⁺ g = sim.L g ⊎ (g ≡ s.next)

  -- An id in use keeps its name.
  f-old : (g : ℕ) → sim.L g → f⁺ g ≡ sim.f g
  f-old g l = upd-old sim.f s.next t.next g (sim.low g l)

  -- The next id of the first is the next id of the second.
  f-new : {g : ℕ} → g ≡ s.next → f⁺ g ≡ t.next
  f-new e = ap f⁺ e ∙ upd-new sim.f s.next t.next

  -- The larger renaming keeps the order.
  mono⁺ : (g h : ℕ) → L⁺ g → L⁺ h → ltb (f⁺ g) (f⁺ h) ≡ ltb g h
  mono⁺ g h (inl a) (inl b) = ap₂ (λ x y. ltb x y) (f-old g a) (f-old h b) ∙ sim.mono g h a b
  mono⁺ g h (inl a) (inr b) =
      let u = sim.low g a in let u' = sim.low' g a in
      ap₂ (λ x y. ltb x y) (f-old g a) (f-new b) ∙ ltb-true _ _ u' ∙ sym (ltb-true g h (omega arith))
  mono⁺ g h (inr a) (inl b) =
      let u = sim.low h b in let u' = sim.low' h b in
      ap₂ (λ x y. ltb x y) (f-new a) (f-old h b) ∙ ltb-false t.next (sim.f h) (omega arith) ∙ sym (ltb-false g h (omega arith))
  mono⁺ g h (inr a) (inr b) =
      ap₂ (λ x y. ltb x y) (f-new a) (f-new b) ∙ ltb-false t.next t.next (omega arith) ∙ sym (ltb-false g h (omega arith))

  -- Ids in use are renamed as before.
  ren⁺ : (ids : Ids) → Uses sim.L ids → ren sim.f ids ≡ ren f⁺ ids
  ren⁺ ids u = change-ext (λ c g. sim.f g) (λ c g. f⁺ g) ids (λ q m. sym (f-old q.1 (u q m)))

  -- A table whose ids are old, or the next.
  sim⁺ : (ids ids' : Ids) → ids' ≡ ren f⁺ ids → ((q : Cell × ℕ) → Mem q ids → L⁺ q.1) → Step s t (record { ids = ids; next = suc s.next }) (record { ids = ids'; next = suc t.next }) sim
  sim⁺ ids ids' e from =
      record {
        then = record {
          f = f⁺;
          L = L⁺;
          same = e;
          uses = from;
          low = λ g l. ⊎_elim (λ a. let u = sim.low g a in omega arith) (λ h. omega arith) l;
          low' = λ g l. ⊎_elim (λ a. let u = sim.low' g a in let w = f-old g a in omega arith) (λ h. let w = f-new h in omega arith) l;
          mono = mono⁺;
        };
        kept = λ g l. inl l;
        agree = λ g l. f-old g l;
      }

  -- A table whose ids are old.
  sim⁰ : (ids ids' : Ids) → ids' ≡ ren sim.f ids → ((q : Cell × ℕ) → Mem q ids → sim.L q.1) → Step s t (record { ids = ids; next = s.next }) (record { ids = ids'; next = t.next }) sim
  sim⁰ ids ids' e from =
      record {
        then = record { f = sim.f; L = sim.L; same = e; uses = from; low = sim.low; low' = sim.low'; mono = sim.mono };
        kept = λ g l. l;
        agree = λ g l. refl;
      }

  -- A piece takes the next id in the renamed table.
  relabel-ren : (p : List Cell) (ids : Ids) → Uses sim.L ids → relabel t.next p (ren sim.f ids) ≡ ren f⁺ (relabel s.next p ids)
  relabel-ren p ids u =
      change-change (λ c h. cond (has same p c) t.next h) (λ c h. sim.f h) ids
      ∙ change-ext (λ c h. cond (has same p c) t.next (sim.f h)) (λ c h. f⁺ (cond (has same p c) s.next h)) ids (λ q m. go (has same p q.0) q m)
      ∙ sym (change-change (λ c h. f⁺ h) (λ c h. cond (has same p c) s.next h) ids)
    where
      go : (b : Bool) (x : Cell × ℕ) → Mem x ids → cond b t.next (sim.f x.1) ≡ f⁺ (cond b s.next x.1)
      go true x m = sym (f-new refl)
      go false x m = sym (f-old x.1 (u x m))

  -- What a test by the cell leaves has ids in use.
  only-live : (p : Cell → Bool) (h : ℕ) → Mem h (values (only p s.ids)) → sim.L h
  only-live p h m =
      let r : (x : Cell × ℕ) × Mem x (only p s.ids) × (h ≡ x.1) = each-out (λ (q : Cell × ℕ). q.1) (only p s.ids) m in
      subst sim.L (sym r.2) (sim.uses r.0 (keep_out (λ (q : Cell × ℕ). p q.0) s.ids r.1).0)

  module _ (touch : Cell → Cell → Bool) where
    -- A piece takes the next id.
    take-sim : (p : List Cell) → Step s t (take_next touch s p) (take_next touch t p) sim
    take-sim p =
        sim⁺ (relabel s.next p s.ids) (relabel t.next p t.ids)
        (ap (λ k. relabel t.next p k) sim.same ∙ relabel-ren p s.ids sim.uses)
        (λ q m. let r : (x : Cell × ℕ) × Mem x s.ids × (q ≡ (x.0, cond (has same p x.0) s.next x.1)) = each-out (λ (x : Cell × ℕ). (x.0, cond (has same p x.0) s.next x.1)) s.ids m in
        subst L⁺ (sym (ap (λ (x : Cell × ℕ). x.1) r.2)) (go (has same p r.0.0) r.0 r.1))
      where
        go : (b : Bool) (x : Cell × ℕ) → Mem x s.ids → L⁺ (cond b s.next x.1)
        go true x m = inr refl
        go false x m = inl (sim.uses x m)

    -- A cell joins the groups found on both.
    join-sim : (c : Cell) (l : List ℕ) → ((h : ℕ) → Mem h l → sim.L h) → Step s t (join_found touch s c l) (join_found touch t c (each sim.f l)) sim
    join-sim c [] ls =
        sim⁺ (put below c s.next s.ids) (put below c t.next t.ids)
        (ap₂ (λ (k : ℕ) (i : Ids). put below c k i) (sym (f-new refl)) (sim.same ∙ ren⁺ s.ids sim.uses) ∙ put-ren f⁺ c s.next s.ids)
        (λ q m. ⊎_elim (λ e. inr (ap (λ (x : Cell × ℕ). x.1) e)) (λ k. inl (sim.uses q k)) (put-out cells s.ids c s.next m))
    join-sim c (g ∷ gs) ls =
        sim⁰ (merge w (g ∷ gs) ids₁) _
        (ap (λ i. merge (largest_group i (sim.f g) (each sim.f gs)) (each sim.f (g ∷ gs)) i) (ap (λ i. put below c (sim.f g) i) sim.same ∙ put-ren sim.f c g s.ids)
        ∙ ap (λ k. merge k (each sim.f (g ∷ gs)) (ren sim.f ids₁)) (largest-ren sim.f sim.L sim.mono ids₁ uses₁ g gs (ls g (head refl)) (λ h m. ls h (tail m)))
        ∙ merge-ren sim.f sim.L sim.mono w (g ∷ gs) ls ids₁ uses₁)
        (λ q m. let r : (x : Cell × ℕ) × Mem x ids₁ × (q ≡ (x.0, cond (has eqb (g ∷ gs) x.1) w x.1)) = each-out (λ (x : Cell × ℕ). (x.0, cond (has eqb (g ∷ gs) x.1) w x.1)) ids₁ m in
        subst sim.L (sym (ap (λ (x : Cell × ℕ). x.1) r.2)) (go (has eqb (g ∷ gs) r.0.1) r.0 r.1))
      where
        ids₁ : Ids
        ids₁ = put below c g s.ids

        w : ℕ
        w = largest_group ids₁ g gs

        uses₁ : (q : Cell × ℕ) → Mem q ids₁ → sim.L q.1
        uses₁ q m = ⊎_elim (λ e. subst sim.L (sym (ap (λ (x : Cell × ℕ). x.1) e)) (ls g (head refl))) (λ k. sim.uses q k) (put-out cells s.ids c g m)

        go : (b : Bool) (x : Cell × ℕ) → Mem x ids₁ → sim.L (cond b w x.1)
        go true x m = ls w (largest-in ids₁ g gs)
        go false x m = uses₁ x m

    -- Rule 1 on both.
    pub rule1-sim : (c : Cell) → Step s t (rule1 touch s c) (rule1 touch t c) sim
    rule1-sim c =
        subst (λ l. Step s t (rule1 touch s c) (join_found touch t c l) sim) (sym (ap (λ i. found_at touch i c) sim.same ∙ found-ren sim.f touch c s.ids))
        (join-sim c (found_at touch s.ids c) (only-live (touch c)))

    -- Rule 2 on both.
    pub rule2-sim : (gone : List Cell) → Step s t (rule2 touch gone s) (rule2 touch gone t) sim
    rule2-sim gone =
        sim⁰ (rule2 touch gone s).ids (rule2 touch gone t).ids
        (ap (λ i. only (λ c. not (has same gone c)) i) sim.same ∙ only-change (λ c. not (has same gone c)) (λ c g. sim.f g) s.ids)
        (λ q m. sim.uses q (keep_out (λ (x : Cell × ℕ). not (has same gone x.0)) s.ids m).0)

-- No step is a step.
step-none : (s t : Groups) (sim : Sim s t) → Step s t s t sim
step-none s t sim = record { then = sim; kept = λ g l. l; agree = λ g l. refl }

-- Two steps are a step.
step-more : {s t s' t' s'' t'' : Groups} {sim : Sim s t} (st : Step s t s' t' sim) → Step s' t' s'' t'' st.then → Step s t s'' t'' sim
step-more st st' =
    record {
      then = st'.then;
      kept = λ g l. st'.kept g (st.kept g l);
      agree = λ g l. st'.agree g (st.kept g l) ∙ st.agree g l;
    }

module _ (f : ℕ → ℕ) (L : ℕ → Type 0) (mono : Mono f L) where
  -- An addition goes through a renaming.
  add-ren : (x : ℕ) (l : List ℕ) → L x → ((h : ℕ) → Mem h l → L h) → add ltb (f x) (each f l) ≡ each f (add ltb x l)
  add-ren x [] lx ls = refl
  add-ren x (y ∷ l) lx ls =
      ap₂ (λ a b. cond a (f x ∷ f y ∷ each f l) (cond b (f y ∷ add ltb (f x) (each f l)) (f y ∷ each f l))) (mono x y lx (ls y (head refl))) (mono y x (ls y (head refl)) lx)
      ∙ go (ltb x y) (ltb y x) (add-ren x l lx (λ h m. ls h (tail m)))
    where
      go : (s t : Bool) → add ltb (f x) (each f l) ≡ each f (add ltb x l) → cond s (f x ∷ f y ∷ each f l) (cond t (f y ∷ add ltb (f x) (each f l)) (f y ∷ each f l)) ≡ each f (cond s (x ∷ y ∷ l) (cond t (y ∷ add ltb x l) (y ∷ l)))
      go true t r = refl
      go false true r = ap (λ k. f y ∷ k) r
      go false false r = refl

  -- To put ids in order goes through a renaming.
  ascending-ren : (l : List ℕ) → ((h : ℕ) → Mem h l → L h) → ascending ltb (each f l) ≡ each f (ascending ltb l)
  ascending-ren [] ls = refl
  ascending-ren (x ∷ l) ls =
      ap (λ k. add ltb (f x) k) (ascending-ren l (λ h m. ls h (tail m)))
      ∙ add-ren x (ascending ltb l) (ls x (head refl)) (λ h m. ls h (tail (ascending-out numbers l m)))

module _ (touch : Cell → Cell → Bool) where
  -- Pieces take the next ids on both.
  takes-sim : (ps : List (List Cell)) (s t : Groups) (sim : Sim s t) → Step s t (run (take_next touch) s ps) (run (take_next touch) t ps) sim
  takes-sim [] s t sim = step-none s t sim
  takes-sim (p ∷ ps) s t sim = let st : Step s t (take_next touch s p) (take_next touch t p) sim = take-sim s t sim touch p in step-more st (takes-sim ps (take_next touch s p) (take_next touch t p) st.then)

  -- A group is split into the same pieces on both.
  into-sim : (l : List (List Cell)) (s t : Groups) (sim : Sim s t) → Step s t (split_into touch s l) (split_into touch t l) sim
  into-sim [] s t sim = step-none s t sim
  into-sim (p ∷ ps) s t sim = takes-sim (takers touch p ps) s t sim

  -- A group is split on both.
  pub split-sim : (g : ℕ) (s t : Groups) (sim : Sim s t) → sim.L g → Step s t (split touch s g) (split touch t (sim.f g)) sim
  split-sim g s t sim l =
      subst (λ k. Step s t (split touch s g) (split_into touch t (parts touch k)) sim)
      (sym (ap (λ i. members i (sim.f g)) sim.same ∙ members-ren sim.f sim.L sim.mono s.ids sim.uses g l))
      (into-sim (parts touch (members s.ids g)) s t sim)

  -- The affected groups of the second are those of the first, renamed.
  pub affected-ren : (gone : List Cell) (s t : Groups) (sim : Sim s t) → affected touch gone t.ids ≡ each sim.f (affected touch gone s.ids)
  affected-ren gone s t sim =
      ap (λ i. affected touch gone i) sim.same
      ∙ ap (λ l. ascending ltb (values l)) (only-change near (λ c g. sim.f g) s.ids)
      ∙ ap (λ l. ascending ltb l) (values-ren sim.f (only near s.ids))
      ∙ ascending-ren sim.f sim.L sim.mono (values (only near s.ids)) (only-live s t sim near)
    where
      near : Cell → Bool
      near c = any (λ d. touch d c) gone
