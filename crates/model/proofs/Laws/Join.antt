-- Rule 1 keeps the invariant: a cell that joins, and the groups that it merges.
use Rattle.std.specs.Prelude.{ℕ, suc, ◌<◌, ◌≡◌, refl, Bool, cond, T, eqb}
use Rattle.std.proofs.Common.{arith, sym, ◌∙◌, ap, subst, ⊎_elim}
use mathlib.Core.List.Memᴰ.{head}
use mathlib.Core.List.Memᴰ.{not-nil as mem-nil}
use mathlib.Core.List.{List, [], ◌∷◌, Memᴰ as Mem}
use Rattle.model.specs.Facts.{At, In, Free, Fair}
use Rattle.model.specs.Cells.{Cell, same, below}
use Rattle.model.proofs.Laws.Orders.{cells, numbers}
use Rattle.model.specs.Lists.{keep, has, put}
use Rattle.model.specs.Groups.{Ids, Groups, largest_group, found_at, merge, join_found, rule1}
use Rattle.model.specs.Paths.{Path, stop, step}
use Rattle.model.proofs.Laws.Tests.{cond_yes, cond_no}
use Rattle.model.proofs.Laws.Members.{keep-in, keep_out, each_in, each-out, has_of, hasnt-of, mem-or}
use Rattle.model.proofs.Laws.Walks.{wider, join, back}
use Rattle.model.proofs.Laws.Tables.{at_mem, at-put-self, at-put-other, at-put-cases, at-change, at-unchange, fair-put, fair-change}
use Rattle.model.proofs.Laws.Fine.{Fine}
use Rattle.model.proofs.Laws.Largest.{largest-in}

-- The id that h becomes if the groups found become the group w.
abbrev pub merged_id : ℕ → List ℕ → ℕ → ℕ
merged_id w found h = cond (has eqb found h) w h

module _ (w : ℕ) (found : List ℕ) where
  -- A group found becomes w.
  pub merged-in : {h : ℕ} → Mem h found → merged_id w found h ≡ w
  merged-in {h} m = cond_yes (has eqb found h) w h (has_of numbers m)

  -- Another group stays.
  pub merged-out : {h : ℕ} → (Mem h found → ⊥) → merged_id w found h ≡ h
  merged-out {h} n = cond_no (has eqb found h) w h (hasnt-of numbers h found n)

  -- What a cell has after a merge is what its id became.
  pub merge-was : (ids : Ids) {a : Cell} {k : ℕ} → At same (merge w found ids) a k → (h : ℕ) × At same ids a h × (k ≡ merged_id w found h)
  merge-was ids p = at-unchange cells (λ c h. merged_id w found h) ids p

  -- A cell has after a merge what its id becomes.
  pub merge-now : (ids : Ids) {a : Cell} {h : ℕ} → At same ids a h → At same (merge w found ids) a (merged_id w found h)
  merge-now ids p = at-change cells (λ c h. merged_id w found h) ids p

module _ (touch : Cell → Cell → Bool) where
  -- The group of a neighbour is found.
  pub found_in : (ids : Ids) (c : Cell) {a : Cell} {g : ℕ} → At same ids a g → T (touch c a) → Mem g (found_at touch ids c)
  found_in ids c p t = each_in (λ (q : Cell × ℕ). q.1) (keep-in (λ (q : Cell × ℕ). touch c q.0) (at_mem cells ids p) t)

  -- A group that is found is a neighbour's.
  pub found-out : (ids : Ids) (c : Cell) → Fair same ids → {g : ℕ} → Mem g (found_at touch ids c) → (a : Cell) × At same ids a g × T (touch c a)
  found-out ids c fair {g} m =
      let r : (q : Cell × ℕ) × Mem q (keep (λ (q : Cell × ℕ). touch c q.0) ids) × (g ≡ q.1) = each-out (λ (q : Cell × ℕ). q.1) _ m in
      let k : Mem r.0 ids × T (touch c r.0.0) = keep_out (λ (q : Cell × ℕ). touch c q.0) ids r.1 in
      let e : g ≡ r.0.1 = r.2 in
      (r.0.0, subst (λ h. At same ids r.0.0 h) (sym e) (fair r.0 k.0), k.1)

  module _ (flip : (a b : Cell) → T (touch a b) → T (touch b a)) (s : Groups) (c : Cell) (ok : Fine touch [] s) (free : Free same s.ids c) where
    apart : {a : Cell} {g : ℕ} → At same s.ids a g → a ≡ c → ⊥
    apart {a} {g} p e = free g (subst (λ x. At same s.ids x g) e p)

    kept : (v : ℕ) {a : Cell} {g : ℕ} → At same s.ids a g → At same (put below c v s.ids) a g
    kept v p = at-put-other cells s.ids c v (apart p) p

    -- No neighbour has an id.
    alone : ((a : Cell) (g : ℕ) → At same s.ids a g → T (touch c a) → ⊥) → Fine touch [] (record { ids = put below c s.next s.ids; next = suc s.next })
    alone none' =
        record {
          fair = fair-put cells s.ids c s.next ok.fair free;
          under = λ {a} {g} p. ⊎_elim (λ e. let k = e.1 in omega arith) (λ q. let k = ok.under q in omega arith) (at-put-cases cells s.ids c s.next p);
          edge = λ {a} {b} {g} {h} p q t.
              ⊎_elim
              (λ e. ⊎_elim (λ f. e.1 ∙ sym f.1) (λ q'. absurd (none' b h q' (subst (λ x. T (touch x b)) e.0 t))) (at-put-cases cells s.ids c s.next q))
              (λ p'. ⊎_elim (λ f. absurd (none' a g p' (flip a c (subst (λ x. T (touch a x)) f.0 t)))) (λ q'. ok.edge p' q' t) (at-put-cases cells s.ids c s.next q))
              (at-put-cases cells s.ids c s.next p);
          joined = λ {a} {b} {g} p q n.
              ⊎_elim
              (λ e. ⊎_elim (λ f. stop (g, p) (e.0 ∙ sym f.0)) (λ q'. let u = ok.under q' in let k = e.1 in absurd (omega arith)) (at-put-cases cells s.ids c s.next q))
              (λ p'. ⊎_elim (λ f. let u = ok.under p' in let k = f.1 in absurd (omega arith)) (λ q'. wider touch (λ x d. (d.0, kept s.next d.1)) (ok.joined p' q' n)) (at-put-cases cells s.ids c s.next q))
              (at-put-cases cells s.ids c s.next p);
        }

    -- Some have one: g ∷ gs are the groups found.
    module _ (g : ℕ) (gs : List ℕ) (is : found_at touch s.ids c ≡ g ∷ gs) where
      abbrev joined' : Ids
      joined' = put below c g s.ids

      abbrev big : ℕ
      big = largest_group joined' g gs

      abbrev ids' : Ids
      ids' = merge big (g ∷ gs) joined'

      abbrev to : ℕ → ℕ
      to = merged_id big (g ∷ gs)

      now : {a : Cell} {h : ℕ} → At same joined' a h → At same ids' a (to h)
      now p = merge-now big (g ∷ gs) joined' p

      in' : {h : ℕ} → Mem h (g ∷ gs) → to h ≡ big
      in' = merged-in big (g ∷ gs)

      out' : {h : ℕ} → (Mem h (g ∷ gs) → ⊥) → to h ≡ h
      out' = merged-out big (g ∷ gs)

      big-in : Mem big (g ∷ gs)
      big-in = largest-in joined' g gs

      still : {a : Cell} → In same s.ids a → In same ids' a
      still d = (to d.0, now (kept g d.1))

      -- Each cell of a group found has a path to the new one.
      to-new : {a : Cell} {h : ℕ} → At same joined' a h → Mem h (g ∷ gs) → Path touch (In same ids') a c
      to-new {a} {h} p m =
          ⊎_elim (λ e. stop (to h, now p) e.0)
          (λ p'.
          let r : (x : Cell) × At same s.ids x h × T (touch c x) = found-out s.ids c ok.fair (subst (λ l. Mem h l) (sym is) m) in
          join touch (wider touch (λ x d. still d) (ok.joined p' r.1 (λ k. mem-nil k)))
          (step (still (h, r.1)) (flip c r.0 r.2) (stop (to g, now (at-put-self cells s.ids c g)) refl)))
          (at-put-cases cells s.ids c g p)

      -- Two that touch are in groups that become one.
      near : {a b : Cell} {h k : ℕ} → At same joined' a h → At same joined' b k → T (touch a b) → to h ≡ to k
      near {a} {b} {h} {k} p q t =
          ⊎_elim
          (λ e. ⊎_elim (λ f. ap to (e.1 ∙ sym f.1))
          (λ q'. in' (head e.1) ∙ sym (in' (subst (λ l. Mem k l) is (found_in s.ids c q' (subst (λ x. T (touch x b)) e.0 t)))))
          (at-put-cases cells s.ids c g q))
          (λ p'. ⊎_elim (λ f. in' (subst (λ l. Mem h l) is (found_in s.ids c p' (flip a c (subst (λ x. T (touch a x)) f.0 t)))) ∙ sym (in' (head f.1)))
          (λ q'. ap to (ok.edge p' q' t))
          (at-put-cases cells s.ids c g q))
          (at-put-cases cells s.ids c g p)

      old : {a : Cell} {h : ℕ} → At same joined' a h → (Mem h (g ∷ gs) → ⊥) → At same s.ids a h
      old p n = ⊎_elim (λ e. absurd (n (head e.1))) (λ q. q) (at-put-cases cells s.ids c g p)

      linked : {a b : Cell} {h k : ℕ} → At same joined' a h → At same joined' b k → to h ≡ to k → Path touch (In same ids') a b
      linked {a} {b} {h} {k} p q e =
          ⊎_elim
          (λ u. ⊎_elim (λ v. join touch (to-new p u) (back touch flip (to-new q v)))
          (λ v. absurd (v (subst (λ x. Mem x (g ∷ gs)) (sym (in' u) ∙ e ∙ out' v) big-in))) (mem-or numbers k (g ∷ gs)))
          (λ u. ⊎_elim (λ v. absurd (u (subst (λ x. Mem x (g ∷ gs)) (sym (in' v) ∙ sym e ∙ out' u) big-in)))
          (λ v. wider touch (λ x d. still d) (ok.joined (old p u) (subst (λ x. At same s.ids b x) (sym (out' v) ∙ sym e ∙ out' u) (old q v)) (λ m. mem-nil m))) (mem-or numbers k (g ∷ gs)))
          (mem-or numbers h (g ∷ gs))

      low : {h : ℕ} → Mem h (g ∷ gs) → h < s.next
      low {h} m = let r : (x : Cell) × At same s.ids x h × T (touch c x) = found-out s.ids c ok.fair (subst (λ l. Mem h l) (sym is) m) in ok.under r.1

      below_next : {a : Cell} {h : ℕ} → At same joined' a h → to h < s.next
      below_next {a} {h} p =
          ⊎_elim (λ u. subst (λ x. x < s.next) (sym (in' u)) (low big-in)) (λ u. subst (λ x. x < s.next) (sym (out' u)) (ok.under (old p u))) (mem-or numbers h (g ∷ gs))

      merged : Fine touch [] (record { ids = ids'; next = s.next })
      merged =
          record {
            fair = fair-change cells (λ a h. to h) joined' (fair-put cells s.ids c g ok.fair free);
            under = λ p. let r = merge-was big (g ∷ gs) joined' p in subst (λ x. x < s.next) (sym r.2) (below_next r.1);
            edge = λ p q t. let r = merge-was big (g ∷ gs) joined' p in let r' = merge-was big (g ∷ gs) joined' q in r.2 ∙ near r.1 r'.1 t ∙ sym r'.2;
            joined = λ p q n. let r = merge-was big (g ∷ gs) joined' p in let r' = merge-was big (g ∷ gs) joined' q in linked r.1 r'.1 (sym r.2 ∙ r'.2);
          }

    -- Rule 1 for a cell that has no id keeps the invariant.
    pub rule1-fine : Fine touch [] (rule1 touch s c)
    rule1-fine = go (found_at touch s.ids c) refl
      where
        go : (l : List ℕ) → found_at touch s.ids c ≡ l → Fine touch [] (join_found touch s c l)
        go [] e = alone (λ a g p t. mem-nil (subst (λ l. Mem g l) e (found_in s.ids c p t)))
        go (g ∷ gs) e = merged g gs e
