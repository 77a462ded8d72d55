-- Two regroupings that agree on a set of cells that touching does not leave give ids there that differ by a renaming in order.
use Rattle.std.specs.Prelude.{ℕ, ◌<◌, ◌≡◌, refl, ◌⊎◌, Bool, true, false, cond, not, T, eqb, ltb}
use Rattle.std.proofs.Common.{sym, ◌∙◌, ap, ap₂, subst, inl, inr, ⊎_elim, eqb→eq}
use mathlib.Core.List.Memᴰ.{cases_cons as mem-cons}
use mathlib.Core.List.Memᴰ.{head}
use mathlib.Core.List.Memᴰ.{not-nil as mem-nil}
use mathlib.Core.List.Memᴰ.{tail}
use mathlib.Core.List.{List, [], ◌∷◌, Memᴰ as Mem}
use Rattle.std.proofs.Math.Dec.{eqb_refl}
use Rattle.model.specs.Facts.{Asc, At, Free}
use Rattle.model.specs.Lists.{keep, has, keys, only, run}
use Rattle.model.specs.Cells.{Cell, same, below}
use Rattle.model.specs.Groups.{Ids, Groups, rule1, rule2, regroup}
use Rattle.model.proofs.Laws.Tests.{T_true, T_false}
use Rattle.model.proofs.Laws.Orders.{cells}
use Rattle.model.proofs.Laws.Members.{keep_out, each_in, each-out}
use Rattle.model.proofs.Laws.Sorted.{asc-head, asc-tail}
use Rattle.model.proofs.Laws.Tables.{change-change, change-same}
use Rattle.model.proofs.Laws.Keys.{rule1-asc}
use Rattle.model.proofs.Laws.Fine.{Fine}
use Rattle.model.proofs.Laws.Join.{rule1-fine}
use Rattle.model.proofs.Laws.Onward.{rule1-onward}
use Rattle.model.proofs.Laws.Regroup.{rule1-cases, rules1-fine}
use Rattle.model.proofs.Laws.Rename.{Sim, ren, Mono, inj, rule1-sim, rule2-sim}
use Rattle.model.proofs.Laws.View.{view, path-on, rule1-on, rule1-off}
use Rattle.model.proofs.Laws.Lock.{bump, rule2-view, rule3-lock}

-- Two renamings one after the other are one.
pub sim-trans : (s t u : Groups) → Sim s t → Sim t u → Sim s u
sim-trans s t u a b =
    record {
      f = λ g. b.f (a.f g);
      L = λ g. a.L g × b.L (a.f g);
      same = b.same ∙ ap (λ i. ren b.f i) a.same ∙ change-change (λ c g. b.f g) (λ c g. a.f g) s.ids;
      uses = λ q m. (a.uses q m, b.uses (q.0, a.f q.1) (subst (λ i. Mem (q.0, a.f q.1) i) (sym a.same) (each_in (λ (p : Cell × ℕ). (p.0, a.f p.1)) m)));
      low = λ g l. a.low g l.0;
      low' = λ g l. b.low' (a.f g) l.1;
      mono = λ g h l k. b.mono (a.f g) (a.f h) l.1 k.1 ∙ a.mono g h l.0 k.0;
    }

-- The old name of an id.
inv : (ℕ → ℕ) → Ids → ℕ → ℕ
inv f [] k = k
inv f (p ∷ ids) k = cond (eqb (f p.1) k) p.1 (inv f ids k)

-- The old name of the new name is the id.
inv-of : (f : ℕ → ℕ) (L : ℕ → Type 0) → Mono f L → (ids : Ids) → ((q : Cell × ℕ) → Mem q ids → L q.1) → (q : Cell × ℕ) → Mem q ids → inv f ids (f q.1) ≡ q.1
unfolding inv
inv-of f L mono [] u q m = absurd (mem-nil m)
inv-of f L mono (p ∷ ids) u q m = go (λ k. inv-of f L mono ids (λ x j. u x (tail j)) q k) (eqb (f p.1) (f q.1)) (inj f L mono p.1 q.1 (u p (head refl)) (u q m)) (mem-cons m)
  where
    go : (Mem q ids → inv f ids (f q.1) ≡ q.1) → (b : Bool) → b ≡ eqb p.1 q.1 → (q ≡ p) ⊎ Mem q ids → cond b p.1 (inv f ids (f q.1)) ≡ q.1
    go rec true e k = eqb→eq p.1 q.1 (subst T e tt)
    go rec false e (inl k) = absurd (subst T (sym e) (subst (λ (x : Cell × ℕ). T (eqb x.1 q.1)) k (eqb_refl q.1)))
    go rec false e (inr k) = rec k

-- A renaming goes both ways.
pub sim-sym : (s t : Groups) → Sim s t → Sim t s
sim-sym s t a =
    record {
      f = inv a.f s.ids;
      L = λ k. (q : Cell × ℕ) × Mem q s.ids × (k ≡ a.f q.1);
      same = sym (ap (λ i. ren (inv a.f s.ids) i) a.same ∙ change-change (λ c g. inv a.f s.ids g) (λ c g. a.f g) s.ids ∙ change-same (λ c k. inv a.f s.ids (a.f k)) s.ids back);
      uses = λ q m. let r : (x : Cell × ℕ) × Mem x s.ids × (q ≡ (x.0, a.f x.1)) = each-out (λ (p : Cell × ℕ). (p.0, a.f p.1)) s.ids (subst (λ i. Mem q i) a.same m) in (r.0, r.1, ap (λ (x : Cell × ℕ). x.1) r.2);
      low = λ k l. subst (λ x. x < t.next) (sym l.2) (a.low' l.0.1 (a.uses l.0 l.1));
      low' = λ k l. subst (λ x. x < s.next) (sym (at l)) (a.low l.0.1 (a.uses l.0 l.1));
      mono = λ g h l k.
          ap₂ (λ x y. ltb x y) (at l) (at k) ∙ sym (a.mono l.0.1 k.0.1 (a.uses l.0 l.1) (a.uses k.0 k.1)) ∙ ap₂ (λ x y. ltb x y) (sym l.2) (sym k.2);
    }
  where
    back : (q : Cell × ℕ) → Mem q s.ids → inv a.f s.ids (a.f q.1) ≡ q.1
    back = inv-of a.f a.L a.mono s.ids a.uses

    at : {k : ℕ} (l : (q : Cell × ℕ) × Mem q s.ids × (k ≡ a.f q.1)) → inv a.f s.ids k ≡ l.0.1
    at l = ap (λ x. inv a.f s.ids x) l.2 ∙ back l.0 l.1

-- No renaming is a renaming.
pub sim-self : (s : Groups) → ((q : Cell × ℕ) → Mem q s.ids → q.1 < s.next) → Sim s s
sim-self s u =
    record {
      f = λ g. g;
      L = λ g. g < s.next;
      same = sym (change-same (λ c g. g) s.ids (λ q m. refl));
      uses = u;
      low = λ g l. l;
      low' = λ g l. l;
      mono = λ g h l k. refl;
    }

module _ (touch : Cell → Cell → Bool) (flip : (a b : Cell) → T (touch a b) → T (touch b a)) (on : Cell → Bool) (stays : (a b : Cell) → T (touch a b) → T (on a) → T (on b)) where
  -- Rule 1 for some cells, seen on the set, against the set by itself.
  rules1-lock : (l : List Cell) (s t : Groups) → Sim (view on s) t → Fine touch [] s → Asc below (keys s.ids) → Asc below l → ((c : Cell) → Mem c l → Free same s.ids c) → Sim (view on (run (rule1 touch) s l)) (run (rule1 touch) t (keep on l))
  rules1-lock [] s t sim ok asc al free = sim
  rules1-lock (c ∷ l) s t sim ok asc al free =
      go (λ t' sim'. rules1-lock l (rule1 touch s c) t' sim' (rule1-fine touch flip s c ok (free c (head refl))) (rule1-asc touch s c asc) (asc-tail al) free') (on c) refl
    where
      free' : (b : Cell) → Mem b l → Free same (rule1 touch s c).ids b
      free' b m g p = ⊎_elim (λ e. cells.irrefl c (subst (λ x. T (below c x)) e (asc-head al b m))) (λ d. free b (tail m) d.0 d.1) (rule1-cases touch s c (g, p))

      go : ((t' : Groups) → Sim (view on (rule1 touch s c)) t' → Sim (view on (run (rule1 touch) (rule1 touch s c) l)) (run (rule1 touch) t' (keep on l))) → (b : Bool) → on c ≡ b → Sim (view on (run (rule1 touch) (rule1 touch s c) l)) (run (rule1 touch) t (cond b (c ∷ keep on l) (keep on l)))
      go rec true e = rec (rule1 touch t c) (subst (λ v. Sim v (rule1 touch t c)) (sym (rule1-on touch on stays s ok asc c (T_true e))) (rule1-sim (view on s) t sim touch c).then)
      go rec false e = rec t (bump (view on s) t (only on (rule1 touch s c).ids) (rule1 touch s c).next sim (rule1-off touch on stays s ok asc c flip (T_false e)) (rule1-onward touch s c).grows)

  -- A regrouping seen on the set, against the set by itself.
  regroup-lock : (filled gone : List Cell) (s t : Groups) → Sim (view on s) t → Fine touch [] s → Asc below (keys s.ids) → Asc below filled → ((c : Cell) → Mem c filled → Free same s.ids c) → Sim (view on (regroup touch filled gone s)) (regroup touch (keep on filled) (keep on gone) t)
  unfolding regroup
  regroup-lock filled gone s t sim ok asc al free =
      rule3-lock touch on flip stays gone s₂ one_side t₂ sim₂ (λ q m. ok₁.under (ok₁.fair q (old m)))
    where
      s₁ : Groups
      s₁ = run (rule1 touch) s filled

      t₁ : Groups
      t₁ = run (rule1 touch) t (keep on filled)

      s₂ : Groups
      s₂ = rule2 touch gone s₁

      t₂ : Groups
      t₂ = rule2 touch (keep on gone) t₁

      ok₁ : Fine touch [] s₁
      ok₁ = rules1-fine touch flip filled s ok al free

      sim₂ : Sim (view on s₂) t₂
      sim₂ = subst (λ v. Sim v t₂) (sym (rule2-view touch on gone s₁)) (rule2-sim (view on s₁) t₁ (rules1-lock filled s t sim ok asc al free) touch (keep on gone)).then

      old : {q : Cell × ℕ} → Mem q s₂.ids → Mem q s₁.ids
      old m = (keep_out (λ (p : Cell × ℕ). not (has same gone p.0)) s₁.ids m).0

      one_side : (p q : Cell × ℕ) → Mem p s₂.ids → Mem q s₂.ids → p.1 ≡ q.1 → T (on p.0) → T (on q.0)
      one_side p q m k e o = path-on touch on stays (ok₁.joined (ok₁.fair p (old m)) (subst (λ g. At same s₁.ids q.0 g) (sym e) (ok₁.fair q (old k))) (λ j. mem-nil j)) o

  -- Two regroupings whose net lists agree on the set.
  pub regroups-agree : (filled gone filled' gone' : List Cell) (s s' : Groups) →
      Sim (view on s) (view on s') → Fine touch [] s → Fine touch [] s' → Asc below (keys s.ids) → Asc below (keys s'.ids) → Asc below filled → Asc below filled' →
      ((c : Cell) → Mem c filled → Free same s.ids c) → ((c : Cell) → Mem c filled' → Free same s'.ids c) →
      keep on filled ≡ keep on filled' → keep on gone ≡ keep on gone' →
      Sim (view on (regroup touch filled gone s)) (view on (regroup touch filled' gone' s'))
  regroups-agree filled gone filled' gone' s s' sim ok ok' asc asc' al al' free free' e d =
      sim-trans (view on (regroup touch filled gone s)) both (view on (regroup touch filled' gone' s'))
      (subst (λ g. Sim (view on (regroup touch filled gone s)) (regroup touch (keep on filled') g (view on s'))) d
      (subst (λ f. Sim (view on (regroup touch filled gone s)) (regroup touch f (keep on gone) (view on s'))) e (regroup-lock filled gone s (view on s') sim ok asc al free)))
      (sim-sym (view on (regroup touch filled' gone' s')) both
      (regroup-lock filled' gone' s' (view on s') (sim-self (view on s') (λ q m. ok'.under (ok'.fair q (keep_out (λ (p : Cell × ℕ). on p.0) s'.ids m).0))) ok' asc' al' free'))
    where
      both : Groups
      both = regroup touch (keep on filled') (keep on gone') (view on s')
