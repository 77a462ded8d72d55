-- The group records: one for each id that a cell has, ascending, found by the id.
use Rattle.std.specs.Prelude.{ℕ, ◌≡◌, refl, Bool, true, false, cond, ◌||◌, eqb, ltb}
use Rattle.std.proofs.Common.{sym, ◌∙◌, ap, subst, ⊎_elim, eqb→eq}
use mathlib.Core.List.Memᴰ.{head}
use mathlib.Core.List.Memᴰ.{not-nil as mem-nil}
use mathlib.Core.List.Memᴰ.{tail}
use mathlib.Core.List.{List, [], ◌∷◌, ◌++◌, Memᴰ as Mem}
use Rattle.std.proofs.Math.Option.{Option, none, some}
use Rattle.std.proofs.Math.Dec.{eqb_refl}
use Rattle.model.specs.Lists.{has, gather, ascending, keys, values, get}
use Rattle.model.specs.Cells.{Cell}
use Rattle.model.specs.Groups.{Ids, members, Group, group_of, record_of, records}
use Rattle.model.proofs.Laws.Tests.{T_true, cond_yes, cond_no, neqb-of}
use Rattle.model.proofs.Laws.Orders.{numbers}
use Rattle.model.proofs.Laws.Members.{keep-in, keep-none, key_in, has_of, mem-or, hasnt-of}
use Rattle.model.proofs.Laws.Sorted.{ascending-in, ascending-out}
use Rattle.model.proofs.Laws.Values.{value_in, value_out}

-- What is shown of these cells; nothing of no cell.
abbrev pub shown_of : List (ℕ × Cell) → List Cell → Option Group
shown_of entities [] = none
shown_of entities (c ∷ cs) = some (group_of entities c cs)

module _ (entities : List (ℕ × Cell)) (cells_of : ℕ → List Cell) where
  -- One record after the other, found by the id.
  found : (l : List ℕ) (g : ℕ) → get eqb (gather (λ h. record_of entities h (cells_of h)) l) g ≡ cond (has eqb l g) (shown_of entities (cells_of g)) none
  found [] g = refl
  found (x ∷ l) g = go (cells_of x) (eqb g x) refl refl (found l g)
    where
      rest : List (ℕ × Group)
      rest = gather (λ h. record_of entities h (cells_of h)) l

      is : (cs : List Cell) → cells_of x ≡ cs → eqb g x ≡ true → shown_of entities (cells_of g) ≡ shown_of entities cs
      is cs f e = ap (λ h. shown_of entities (cells_of h)) (eqb→eq g x (T_true e)) ∙ ap (shown_of entities) f

      either : (b : Bool) (o : Option Group) → o ≡ none → cond b o none ≡ none
      either true o e = e
      either false o e = refl

      go : (cs : List Cell) (b : Bool) → cells_of x ≡ cs → eqb g x ≡ b → get eqb rest g ≡ cond (has eqb l g) (shown_of entities (cells_of g)) none → get eqb (record_of entities x cs ++ rest) g ≡ cond (b || has eqb l g) (shown_of entities (cells_of g)) none
      go [] true f e r = r ∙ either (has eqb l g) (shown_of entities (cells_of g)) (is [] f e) ∙ sym (is [] f e)
      go [] false f e r = r
      go (c ∷ cs) true f e r = ap (λ b. cond b (shown_of entities (c ∷ cs)) (get eqb rest g)) e ∙ sym (is (c ∷ cs) f e)
      go (c ∷ cs) false f e r = ap (λ b. cond b (shown_of entities (c ∷ cs)) (get eqb rest g)) e ∙ r

  -- The ids of the records are those of the groups that have a cell.
  listed : (l : List ℕ) → ((h : ℕ) → Mem h l → (c : Cell) × Mem c (cells_of h)) → keys (gather (λ h. record_of entities h (cells_of h)) l) ≡ l
  listed [] f = refl
  listed (x ∷ l) f = go (cells_of x) (f x (head refl)).0 (f x (head refl)).1 (listed l (λ h m. f h (tail m)))
    where
      go : (cs : List Cell) (c : Cell) → Mem c cs → keys (gather (λ h. record_of entities h (cells_of h)) l) ≡ l → keys (record_of entities x cs ++ gather (λ h. record_of entities h (cells_of h)) l) ≡ x ∷ l
      go [] c m r = absurd (mem-nil m)
      go (d ∷ cs) c m r = ap (λ k. x ∷ k) r

module _ (ids : Ids) where
  -- An id that a cell has is that of a group with a cell.
  pub members-some : {g : ℕ} → Mem g (values ids) → (c : Cell) × Mem c (members ids g)
  members-some {g} m =
      let r : (c : Cell) × Mem (c, g) ids = value_out ids m in
      (r.0, key_in (keep-in (λ (p : Cell × ℕ). eqb g p.1) r.1 (eqb_refl g)))

  -- Its cells are a first one and others.
  pub members-cons : {g : ℕ} → Mem g (values ids) → (c : Cell) × (cs : List Cell) × (members ids g ≡ c ∷ cs)
  members-cons {g} m = go (members ids g) refl (members-some m).1
    where
      go : {a : Cell} (l : List Cell) → members ids g ≡ l → Mem a l → (c : Cell) × (cs : List Cell) × (members ids g ≡ c ∷ cs)
      go [] e k = absurd (mem-nil k)
      go (c ∷ cs) e k = (c, cs, e)

  -- An id that no cell has is that of a group with no cell.
  pub members-none : {g : ℕ} → (Mem g (values ids) → ⊥) → members ids g ≡ []
  members-none {g} n = ap keys (keep-none (λ (p : Cell × ℕ). eqb g p.1) ids (λ q m. neqb-of g q.1 (λ e. n (subst (λ h. Mem h (values ids)) (sym e) (value_in m)))))

module _ (entities : List (ℕ × Cell)) (ids : Ids) where
  -- The record under an id is that of the id's cells.
  pub records-get : (g : ℕ) → get eqb (records entities ids) g ≡ shown_of entities (members ids g)
  records-get g =
      found entities (members ids) (ascending ltb (values ids)) g
      ∙ ⊎_elim (λ m. cond_yes (has eqb (ascending ltb (values ids)) g) (shown_of entities (members ids g)) none (has_of numbers m))
      (λ n. cond_no (has eqb (ascending ltb (values ids)) g) (shown_of entities (members ids g)) none (hasnt-of numbers g (ascending ltb (values ids)) n)
      ∙ sym (ap (shown_of entities) (members-none ids (λ m. n (ascending-in numbers (values ids) m)))))
      (mem-or numbers g (ascending ltb (values ids)))

  -- The ids of the records are those that a cell has, ascending.
  pub records-keys : keys (records entities ids) ≡ ascending ltb (values ids)
  records-keys = listed entities (members ids) (ascending ltb (values ids)) (λ h m. members-some ids (ascending-out numbers (values ids) m))
