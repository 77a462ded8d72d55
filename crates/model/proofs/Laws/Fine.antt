-- What holds of the cells' ids after every regrouping: the cells of a group are those that paths join.
use Rattle.std.specs.Prelude.{ℕ, ◌<◌, ◌≡◌, Bool, T, eqb}
use Rattle.std.proofs.Common.{sym, subst, eqb→eq}
use mathlib.Core.List.{List, Memᴰ as Mem}
use Rattle.std.proofs.Math.Dec.{eqb_refl}
use Rattle.model.specs.Facts.{At, In, Fair}
use Rattle.model.specs.Lists.{keep}
use Rattle.model.specs.Cells.{Cell, same}
use Rattle.model.specs.Groups.{Ids, Groups, members}
use Rattle.model.specs.Paths.{Path, stop, step}
use Rattle.model.proofs.Laws.Orders.{cells}
use Rattle.model.proofs.Laws.Members.{keep-in, keep_out, key_in, key-out}
use Rattle.model.proofs.Laws.Tables.{at_mem}

-- A cell with the id g is a member of g.
pub members-in : {a : Cell} {g : ℕ} (ids : Ids) → At same ids a g → Mem a (members ids g)
members-in {a} {g} ids p = key_in (keep-in (λ (q : Cell × ℕ). eqb g q.1) (at_mem cells ids p) (eqb_refl g))

-- A member of g has the id g.
pub members-out : {a : Cell} (ids : Ids) (g : ℕ) → Fair same ids → Mem a (members ids g) → At same ids a g
members-out {a} ids g fair m =
    let r : (q : Cell × ℕ) × Mem q (keep (λ (q : Cell × ℕ). eqb g q.1) ids) × (a ≡ q.0) = key-out _ m in
    let s : Mem r.0 ids × T (eqb g r.0.1) = keep_out (λ (q : Cell × ℕ). eqb g q.1) ids r.1 in
    let e : a ≡ r.0.0 = r.2 in
    let f : g ≡ r.0.1 = eqb→eq g r.0.1 s.1 in
    subst (λ h. At same ids a h) (sym f) (subst (λ x. At same ids x r.0.1) (sym e) (fair r.0 s.0))

-- The invariant. The groups in `open'` may be in several pieces; the others are in one.
pub record Fine (touch : Cell → Cell → Bool) (open' : List ℕ) (s : Groups) : Type 0 where
  -- Every row is the one that is found by its cell.
  pub fair : Fair same s.ids
  -- Every id is below the next id.
  pub under : {a : Cell} {g : ℕ} → At same s.ids a g → g < s.next
  -- Cells that touch have one id.
  pub edge : {a b : Cell} {g h : ℕ} → At same s.ids a g → At same s.ids b h → T (touch a b) → g ≡ h
  -- A path joins two cells of one id.
  pub joined : {a b : Cell} {g : ℕ} → At same s.ids a g → At same s.ids b g → (Mem g open' → ⊥) → Path touch (In same s.ids) a b

-- A path never leaves a group.
pub along : {touch : Cell → Cell → Bool} {gs : List ℕ} {s : Groups} → Fine touch gs s → {b a : Cell} {g : ℕ} → At same s.ids a g → Path touch (In same s.ids) a b → At same s.ids b g
along {s = s} ok {g = g} p (stop d e) = subst (λ x. At same s.ids x g) e p
along {touch} {s = s} ok {g = g} p (step {c = x} d t (stop d' e)) = subst (λ y. At same s.ids y g) e (subst (λ h. At same s.ids x h) (sym (ok.edge p d'.1 t)) d'.1)
along {touch} {s = s} ok {g = g} p (step {c = x} d t (step d' t' w)) = along ok (subst (λ h. At same s.ids x h) (sym (ok.edge p d'.1 t)) d'.1) (step d' t' w)
