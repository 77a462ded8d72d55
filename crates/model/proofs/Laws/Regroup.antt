-- A whole regrouping keeps the invariant, and the cells with an id are then the old ones, with the newly occupied, without the
-- newly emptied.
use Rattle.std.specs.Prelude.{◌≡◌, refl, ◌⊎◌, Bool, not, T}
use Rattle.std.proofs.Common.{sym, subst, inl, inr, ⊎_elim}
use mathlib.Core.List.Memᴰ.{head}
use mathlib.Core.List.Memᴰ.{tail}
use mathlib.Core.List.{List, [], ◌∷◌, Memᴰ as Mem}
use Rattle.model.specs.Facts.{Asc, In, Free}
use Rattle.model.specs.Lists.{has, run, keys}
use Rattle.model.specs.Cells.{Cell, same, below}
use Rattle.model.specs.Groups.{Groups, rule1, regroup}
use Rattle.model.proofs.Laws.Orders.{cells, lt-differ}
use Rattle.model.proofs.Laws.Members.{keep-in, keep_out, hasnt-of, of-hasnt}
use Rattle.model.proofs.Laws.Sorted.{asc-head, asc-tail, add-out}
use Rattle.model.proofs.Laws.Tables.{at_key, key-at}
use Rattle.model.proofs.Laws.Keys.{add_all, add_all-old, add_all-new, add_all-out, keys-rule1, keys-regroup}
use Rattle.model.proofs.Laws.Fine.{Fine}
use Rattle.model.proofs.Laws.Join.{rule1-fine}
use Rattle.model.proofs.Laws.Split.{rules23-fine}

module _ (touch : Cell → Cell → Bool) where
  -- Who has an id after rule 1 is the new cell or had one.
  pub rule1-cases : (s : Groups) (c : Cell) {a : Cell} → In same (rule1 touch s c).ids a → (a ≡ c) ⊎ In same s.ids a
  rule1-cases s c {a} d =
      ⊎_elim inl (λ k. inr (key-at cells s.ids k)) (add-out cells c (keys s.ids) (subst (λ l. Mem a l) (keys-rule1 touch s c) (at_key cells (rule1 touch s c).ids d.1)))

  module _ (flip : (a b : Cell) → T (touch a b) → T (touch b a)) where
    -- Rule 1 for ascending cells that have no id keeps the invariant.
    pub rules1-fine : (l : List Cell) (s : Groups) → Fine touch [] s → Asc below l → ((c : Cell) → Mem c l → Free same s.ids c) → Fine touch [] (run (rule1 touch) s l)
    rules1-fine [] s ok asc free = ok
    rules1-fine (c ∷ l) s ok asc free =
        rules1-fine l (rule1 touch s c) (rule1-fine touch flip s c ok (free c (head refl))) (asc-tail asc)
        (λ b m g p. ⊎_elim (λ e. lt-differ cells c b (asc-head asc b m) (sym e)) (λ d. free b (tail m) d.0 d.1) (rule1-cases s c (g, p)))

    -- A regrouping for ascending cells that have no id keeps the invariant.
    pub regroup-fine : (occupied emptied : List Cell) (s : Groups) → Fine touch [] s → Asc below occupied → ((c : Cell) → Mem c occupied → Free same s.ids c) → Fine touch [] (regroup touch occupied emptied s)
    unfolding regroup
    regroup-fine occupied emptied s ok asc free = rules23-fine touch flip emptied (run (rule1 touch) s occupied) (rules1-fine occupied s ok asc free)

  -- A newly occupied cell, and a cell with an id, has one after a regrouping, if it is not newly emptied.
  pub regroup-in : (occupied emptied : List Cell) (s : Groups) {a : Cell} → Mem a occupied ⊎ In same s.ids a → (Mem a emptied → ⊥) → In same (regroup touch occupied emptied s).ids a
  regroup-in occupied emptied s {a} h n =
      key-at cells (regroup touch occupied emptied s).ids (subst (λ l. Mem a l) (sym (keys-regroup touch occupied emptied s))
      (keep-in (λ c. not (has same emptied c)) (⊎_elim (add_all-new occupied (keys s.ids)) (λ d. add_all-old occupied (keys s.ids) (at_key cells s.ids d.1)) h) (hasnt-of cells a emptied n)))

  -- Who has an id after a regrouping is newly occupied or had one, and is not newly emptied.
  pub regroup-out : (occupied emptied : List Cell) (s : Groups) {a : Cell} → In same (regroup touch occupied emptied s).ids a → (Mem a occupied ⊎ In same s.ids a) × (Mem a emptied → ⊥)
  regroup-out occupied emptied s {a} d =
      let r : Mem a (add_all (keys s.ids) occupied) × T (not (has same emptied a)) =
      keep_out (λ c. not (has same emptied c)) (add_all (keys s.ids) occupied) (subst (λ l. Mem a l) (keys-regroup touch occupied emptied s) (at_key cells (regroup touch occupied emptied s).ids d.1)) in
      (⊎_elim inl (λ k. inr (key-at cells s.ids k)) (add_all-out occupied (keys s.ids) r.0), of-hasnt cells emptied r.1)
