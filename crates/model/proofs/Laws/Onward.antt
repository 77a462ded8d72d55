-- From one state of the ids to a later one: the next id never falls, and each id is old or one of those given since.
use Rattle.std.specs.Prelude.{ℕ, ◌≤◌, ◌<◌, ◌≡◌, refl, ◌⊎◌, Bool, cond, not}
use Rattle.std.proofs.Common.{arith, sym, ◌∙◌, ap, subst, inl, inr, ⊎_elim}
use mathlib.Core.List.Memᴰ.{head}
use mathlib.Core.List.{List, [], ◌∷◌, Memᴰ as Mem}
use Rattle.model.specs.Facts.{At, Fair}
use Rattle.model.specs.Lists.{has, run, sort, values, put, only, change}
use Rattle.model.specs.Cells.{Cell, same, below}
use Rattle.model.specs.Groups.{Ids, Groups, members, largest_group, found_at, join_found, rule1, rule2, rule3, regroup, affected, take_next, split, split_into, parts, largest_piece, smaller}
use Rattle.model.proofs.Laws.Tests.{decided, cond_yes, cond_no}
use Rattle.model.proofs.Laws.Orders.{cells, numbers}
use Rattle.model.proofs.Laws.Members.{keep_out, each-out, mem-or}
use Rattle.model.proofs.Laws.Tables.{at_mem, put-out}
use Rattle.model.proofs.Laws.Values.{value_in, value_row}
use Rattle.model.proofs.Laws.Largest.{largest-in}
use Rattle.model.proofs.Laws.Join.{merged_id, merged-in, merged-out}

module _ {K W : Type 0} where
  -- A changed value is the change of a row.
  pub change-value : (f : K → W → W) (t : List (K × W)) {v : W} → Mem v (values (change f t)) → (q : K × W) × Mem q t × (v ≡ f q.0 q.1)
  change-value f t {v} m =
      let r = value_row (change f t) m in
      let k = each-out (λ (p : K × W). (p.0, f p.0 p.1)) t r.1 in
      (k.0, k.1, r.2 ∙ ap (λ (p : K × W). p.1) k.2)

-- An id that a cell has is a value.
pub at_value : {a : Cell} {g : ℕ} (ids : Ids) → At same ids a g → Mem g (values ids)
at_value ids p = value_in (at_mem cells ids p)

-- A value is an id that a cell has.
pub value-at : {g : ℕ} (ids : Ids) → Fair same ids → Mem g (values ids) → (a : Cell) × At same ids a g
value-at ids fair m = let r = value_row ids m in (r.0.0, subst (λ h. At same ids r.0.0 h) (sym r.2) (fair r.0 r.1))

-- The next id does not fall, and each id is old or one of those given since.
pub record Onward (s t : Groups) : Type 0 where
  pub grows : s.next ≤ t.next
  pub given : {g : ℕ} → Mem g (values t.ids) → Mem g (values s.ids) ⊎ ((s.next ≤ g) × (g < t.next))

-- Nothing changes.
pub onward_self : (s : Groups) → Onward s s
onward_self s = record { grows = omega arith; given = λ m. inl m }

-- One way onward after another.
pub onward-join : {s t u : Groups} → Onward s t → Onward t u → Onward s u
onward-join o r =
    let h = o.grows in let j = r.grows in
    record {
      grows = omega arith;
      given = λ m. ⊎_elim (λ k. ⊎_elim inl (λ i. let x = i.0 in let y = i.1 in inr (omega arith, omega arith)) (o.given k)) (λ k. let x = k.0 in let y = k.1 in inr (omega arith, omega arith)) (r.given m);
    }

-- Several ways onward, one after the other.
pub onward-run : {A : Type 0} (f : Groups → A → Groups) → ((s : Groups) (x : A) → Onward s (f s x)) → (l : List A) (s : Groups) → Onward s (run f s l)
onward-run f h [] s = onward_self s
onward-run f h (x ∷ l) s = onward-join (h s x) (onward-run f h l (f s x))

module _ (touch : Cell → Cell → Bool) where
  -- Rule 1 goes onward.
  pub rule1-onward : (s : Groups) (c : Cell) → Onward s (rule1 touch s c)
  rule1-onward s c = go (found_at touch s.ids c) refl
    where
      was : {g : ℕ} → Mem g (found_at touch s.ids c) → Mem g (values s.ids)
      was {g} m = let r = value_row (only (touch c) s.ids) m in subst (λ h. Mem h (values s.ids)) (sym r.2) (value_in (keep_out (λ (q : Cell × ℕ). touch c q.0) s.ids r.1).0)

      put-value : (v : ℕ) {g : ℕ} → Mem g (values (put below c v s.ids)) → (g ≡ v) ⊎ Mem g (values s.ids)
      put-value v {g} m =
          let r = value_row (put below c v s.ids) m in
          ⊎_elim (λ e. inl (r.2 ∙ ap (λ (q : Cell × ℕ). q.1) e)) (λ k. inr (subst (λ h. Mem h (values s.ids)) (sym r.2) (value_in k))) (put-out cells s.ids c v r.1)

      go : (l : List ℕ) → found_at touch s.ids c ≡ l → Onward s (join_found touch s c l)
      go [] e = record { grows = omega arith; given = λ {g} m. ⊎_elim (λ d. inr (omega arith, omega arith)) inl (put-value s.next m) }
      go (g ∷ gs) e =
          record {
            grows = omega arith;
            given = λ {g = h} m.
                let w : ℕ = largest_group (put below c g s.ids) g gs in
                let r = change-value (λ a k. merged_id w (g ∷ gs) k) (put below c g s.ids) m in
                let k : ℕ = r.0.1 in
                inl (⊎_elim
                (λ j. subst (λ x. Mem x (values s.ids)) (sym (r.2 ∙ merged-in w (g ∷ gs) j)) (was (subst (λ l. Mem w l) (sym e) (largest-in (put below c g s.ids) g gs))))
                (λ n. subst (λ x. Mem x (values s.ids)) (sym (r.2 ∙ merged-out w (g ∷ gs) n)) (⊎_elim (λ d. absurd (n (head d))) (λ j. j) (put-value g (value_in r.1))))
                (mem-or numbers k (g ∷ gs)));
          }

  -- Rule 2 goes onward.
  pub rule2-onward : (emptied : List Cell) (s : Groups) → Onward s (rule2 touch emptied s)
  rule2-onward emptied s =
      record {
        grows = omega arith;
        given = λ {g} m.
            let r = value_row (only (λ c. not (has same emptied c)) s.ids) m in
            inl (subst (λ h. Mem h (values s.ids)) (sym r.2) (value_in (keep_out (λ (q : Cell × ℕ). not (has same emptied q.0)) s.ids r.1).0));
      }

  -- A piece that takes the next id goes onward.
  pub take-onward : (s : Groups) (p : List Cell) → Onward s (take_next touch s p)
  take-onward s p =
      record {
        grows = omega arith;
        given = λ {g} m.
            let r = change-value (λ a k. cond (has same p a) s.next k) s.ids m in
            let b : Bool = has same p r.0.0 in
            ⊎_elim (λ t. let e : g ≡ s.next = r.2 ∙ cond_yes b s.next r.0.1 t in inr (omega arith, omega arith))
            (λ t. inl (subst (λ h. Mem h (values s.ids)) (sym (r.2 ∙ cond_no b s.next r.0.1 t)) (value_in r.1))) (decided b);
      }

  -- A split goes onward.
  pub split-onward : (s : Groups) (g : ℕ) → Onward s (split touch s g)
  split-onward s g = go (parts touch (members s.ids g))
    where
      go : (l : List (List Cell)) → Onward s (split_into touch s l)
      go [] = onward_self s
      go (p ∷ ps) = onward-run (take_next touch) take-onward (sort (smaller touch) (largest_piece touch p ps).1) s

  -- Rule 3 goes onward.
  pub rule3-onward : (emptied : List Cell) (s : Groups) → Onward s (rule3 touch emptied s)
  unfolding rule3
  rule3-onward emptied s = onward-run (split touch) split-onward (affected touch emptied s.ids) s

  -- A regrouping goes onward.
  pub regroup-onward : (occupied emptied : List Cell) (s : Groups) → Onward s (regroup touch occupied emptied s)
  unfolding regroup
  regroup-onward occupied emptied s =
      onward-join (onward-run (rule1 touch) rule1-onward occupied s)
      (onward-join (rule2-onward emptied (run (rule1 touch) s occupied)) (rule3-onward emptied (rule2 touch emptied (run (rule1 touch) s occupied))))
