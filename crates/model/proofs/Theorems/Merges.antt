-- Rule 1: which id a newly occupied cell and the groups that it finds end with.
use Rattle.std.specs.Prelude.{ℕ, suc, ◌≤◌, ◌<◌, ◌≡◌, refl, ◌⊎◌, Bool, not, eqb}
use Rattle.std.proofs.Common.{sym, ◌∙◌, ap, subst, inl, inr, ⊎_elim}
use mathlib.Core.List.Memᴰ.{head}
use mathlib.Core.List.{List, [], ◌∷◌, Memᴰ as Mem}
use Rattle.model.specs.Facts.{At}
use Rattle.model.specs.Lists.{whilst, get, put}
use Rattle.model.specs.Cells.{Cell, same, below}
use Rattle.model.specs.Groups.{Ids, Groups, size, largest_group, found_at, merge, join_found, rule1}
use Rattle.model.proofs.Laws.Orders.{cells, numbers, is-or}
use Rattle.model.proofs.Laws.Members.{mem-or}
use Rattle.model.proofs.Laws.Tables.{at-put-self, at-put-other, at-put-split, get-put-other}
use Rattle.model.proofs.Laws.Largest.{largest-in, largest-most, largest-earliest}
use Rattle.model.proofs.Laws.Join.{merged_id, merged-in, merged-out, merge-was, merge-now}

-- The ids once the cell c has joined the group g: groups are counted in these.
abbrev pub joined_to : Groups → Cell → ℕ → Ids
joined_to s c g = put below c g s.ids

-- The group that keeps its id, where the groups g ∷ gs are found at the cell c.
abbrev pub keeper : Groups → Cell → ℕ → List ℕ → ℕ
keeper s c g gs = largest_group (joined_to s c g) g gs

module _ (touch : Cell → Cell → Bool) (s : Groups) (c : Cell) (g : ℕ) (gs : List ℕ) (is : found_at touch s.ids c ≡ g ∷ gs) where
  to-rule1 : {a : Cell} {h k : ℕ} → At same (joined_to s c g) a h → merged_id (keeper s c g gs) (g ∷ gs) h ≡ k → At same (rule1 touch s c).ids a k
  to-rule1 {a} {h} {k} p e = subst (λ l. At same (join_found touch s c l).ids a k) (sym is) (subst (λ j. At same (merge (keeper s c g gs) (g ∷ gs) (joined_to s c g)) a j) e (merge-now (keeper s c g gs) (g ∷ gs) (joined_to s c g) p))

  -- The cell ends with the kept id.
  pub merge-keeps-new : At same (rule1 touch s c).ids c (keeper s c g gs)
  merge-keeps-new = to-rule1 (at-put-self cells s.ids c g) (merged-in (keeper s c g gs) (g ∷ gs) (head refl))

  -- Each cell of a group found ends with the kept id.
  pub merge_keeps : {a : Cell} {h : ℕ} → At same s.ids a h → Mem h (g ∷ gs) → At same (rule1 touch s c).ids a (keeper s c g gs)
  merge_keeps {a} p m =
      ⊎_elim (λ e. subst (λ b. At same (rule1 touch s c).ids b (keeper s c g gs)) (sym e) merge-keeps-new)
      (λ n. to-rule1 (at-put-other cells s.ids c g n p) (merged-in (keeper s c g gs) (g ∷ gs) m)) (is-or cells a c)

  -- Each other cell of a group that is not found keeps its id.
  pub merge-elsewhere : {a : Cell} {h : ℕ} → (a ≡ c → ⊥) → At same s.ids a h → (Mem h (g ∷ gs) → ⊥) → At same (rule1 touch s c).ids a h
  merge-elsewhere n p m = to-rule1 (at-put-other cells s.ids c g n p) (merged-out (keeper s c g gs) (g ∷ gs) m)

  -- Who has the kept id is the cell or was of a group found.
  pub merge-only : {a : Cell} → At same (rule1 touch s c).ids a (keeper s c g gs) → (a ≡ c) ⊎ ((h : ℕ) × Mem h (g ∷ gs) × At same s.ids a h)
  merge-only {a} p =
      let r = merge-was (keeper s c g gs) (g ∷ gs) (joined_to s c g) (subst (λ l. At same (join_found touch s c l).ids a (keeper s c g gs)) is p) in
      let found : Mem r.0 (g ∷ gs) =
      ⊎_elim (λ m. m) (λ n. subst (λ h. Mem h (g ∷ gs)) (r.2 ∙ merged-out (keeper s c g gs) (g ∷ gs) n) (largest-in (joined_to s c g) g gs)) (mem-or numbers r.0 (g ∷ gs)) in
      ⊎_elim (λ e. inl e.0) (λ q. inr (r.0, found, q.1)) (at-put-split cells s.ids c g r.1)

  -- The group that keeps its id is one of those found.
  pub keeper-found : Mem (keeper s c g gs) (g ∷ gs)
  keeper-found = largest-in (joined_to s c g) g gs

  -- No group found has more cells, counted after the join, than the one that keeps its id.
  pub keeper-largest : {h : ℕ} → Mem h (g ∷ gs) → size (joined_to s c g) h ≤ size (joined_to s c g) (keeper s c g gs)
  keeper-largest m = largest-most (joined_to s c g) g gs m

  -- Each group found before the one that keeps its id has fewer cells, counted after the join.
  pub keeper-earliest : {h : ℕ} → Mem h (whilst (λ k. not (eqb (keeper s c g gs) k)) (g ∷ gs)) → size (joined_to s c g) h < size (joined_to s c g) (keeper s c g gs)
  keeper-earliest m = largest-earliest (joined_to s c g) g gs (keeper s c g gs) refl m

  -- A merge takes no new id.
  pub merge-next : (rule1 touch s c).next ≡ s.next
  merge-next = ap (λ l. (join_found touch s c l).next) is

module _ (touch : Cell → Cell → Bool) (s : Groups) (c : Cell) (is : found_at touch s.ids c ≡ []) where
  -- A cell that finds no group takes the next id.
  pub alone-takes-next : At same (rule1 touch s c).ids c s.next
  alone-takes-next = subst (λ l. At same (join_found touch s c l).ids c s.next) (sym is) (at-put-self cells s.ids c s.next)

  -- No other cell's id changes.
  pub alone-elsewhere : (a : Cell) → (a ≡ c → ⊥) → get same (rule1 touch s c).ids a ≡ get same s.ids a
  alone-elsewhere a n = subst (λ l. get same (join_found touch s c l).ids a ≡ get same s.ids a) (sym is) (get-put-other cells s.ids c s.next a n)

  -- The next id goes up by one.
  pub alone-next : (rule1 touch s c).next ≡ suc s.next
  alone-next = ap (λ l. (join_found touch s c l).next) is
