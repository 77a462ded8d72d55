-- The cells that have an id after each rule.
use Rattle.std.specs.Prelude.{◌≡◌, refl, ◌⊎◌, Bool, true, false, cond, ℕ, T, eqb}
use Rattle.std.proofs.Common.{sym, ◌∙◌, subst, inl, inr, ⊎_elim}
use Rattle.std.proofs.Math.Path.{ap}
use Rattle.std.proofs.Math.Bool.{not}
use mathlib.Core.List.Memᴰ.{cases_cons as mem-cons}
use mathlib.Core.List.Memᴰ.{head}
use mathlib.Core.List.Memᴰ.{not-nil as mem-nil}
use mathlib.Core.List.Memᴰ.{tail}
use mathlib.Core.List.{List, [], ◌∷◌, Memᴰ as Mem}
use Rattle.model.specs.Facts.{Asc, cons, In}
use Rattle.model.specs.Lists.{keep, has, add, run, sort, keys, put}
use Rattle.model.specs.Cells.{Cell, same, below}
use Rattle.model.specs.Groups.{Ids, Groups, members, largest_group, found_at, join_found, rule1, rule2, rule3, regroup, affected, take_next, split, split_into, parts, largest_piece, smaller}
use Rattle.model.proofs.Laws.Orders.{cells}
use Rattle.model.proofs.Laws.Members.{keep_out, key_in, key-out}
use Rattle.model.proofs.Laws.Sorted.{asc-head, asc-tail, add-out, add-self, add-in, add-asc, keep-asc}
use Rattle.model.proofs.Laws.Tables.{at_key, key-at, keys-put, keys-change, keys-only}

-- A list with each cell of another added.
abbrev pub add_all : List Cell → List Cell → List Cell
add_all = run (λ l c. add below c l)

-- An ascending list is ascending after cells are added.
pub add_all-asc : (m l : List Cell) → Asc below l → Asc below (add_all l m)
add_all-asc [] l s = s
add_all-asc (c ∷ m) l s = add_all-asc m (add below c l) (add-asc cells c l s)

-- An old member stays.
pub add_all-old : (m l : List Cell) {a : Cell} → Mem a l → Mem a (add_all l m)
add_all-old [] l k = k
add_all-old (c ∷ m) l k = add_all-old m (add below c l) (add-in cells c l k)

-- Each added cell is a member.
pub add_all-new : (m l : List Cell) {a : Cell} → Mem a m → Mem a (add_all l m)
add_all-new [] l k = absurd (mem-nil k)
add_all-new (c ∷ m) l k = ⊎_elim (λ e. add_all-old m (add below c l) (add-self cells c l e)) (add_all-new m (add below c l)) (mem-cons k)

-- A member is an added cell or an old member.
pub add_all-out : (m l : List Cell) {a : Cell} → Mem a (add_all l m) → Mem a m ⊎ Mem a l
add_all-out [] l k = inr k
add_all-out (c ∷ m) l k = ⊎_elim (λ j. inl (tail j)) (λ j. ⊎_elim (λ e. inl (head e)) inr (add-out cells c l j)) (add_all-out m (add below c l) k)

-- Tables with the same keys have something under the same cells.
pub in-keys : {t u : Ids} {a : Cell} → keys t ≡ keys u → In same t a → In same u a
in-keys {t} {u} {a} e d = key-at cells u (subst (λ l. Mem a l) e (at_key cells t d.1))

-- The cells of the rows that pass a test are ascending.
rows-asc : (p : Cell × ℕ → Bool) (t : Ids) → Asc below (keys t) → Asc below (keys (keep p t))
rows-asc p [] s = s
rows-asc p (q ∷ t) s = go (p q) (rows-asc p t (asc-tail s))
  where
    go : (b : Bool) → Asc below (keys (keep p t)) → Asc below (keys (cond b (q ∷ keep p t) (keep p t)))
    go true r = cons (λ b m. let k = key-out (keep p t) m in subst (λ c. T (below q.0 c)) (sym k.2) (asc-head s k.0.0 (key_in (keep_out p t k.1).0))) r
    go false r = r

-- The members of a group are ascending.
pub members-asc : (ids : Ids) (g : ℕ) → Asc below (keys ids) → Asc below (members ids g)
members-asc ids g s = rows-asc (λ (p : Cell × ℕ). eqb g p.1) ids s

module _ (touch : Cell → Cell → Bool) where
  -- A cell that joins the groups found is added.
  pub keys-join : (s : Groups) (c : Cell) (found : List ℕ) → keys (join_found touch s c found).ids ≡ add below c (keys s.ids)
  keys-join s c [] = keys-put cells s.ids c s.next
  keys-join s c (g ∷ gs) =
      let joined : Ids = put below c g s.ids in
      keys-change (λ a h. cond (has eqb (g ∷ gs) h) (largest_group joined g gs) h) joined ∙ keys-put cells s.ids c g

  -- Rule 1 adds the cell.
  pub keys-rule1 : (s : Groups) (c : Cell) → keys (rule1 touch s c).ids ≡ add below c (keys s.ids)
  keys-rule1 s c = keys-join s c (found_at touch s.ids c)

  -- Rule 1 for some cells adds them.
  pub keys-rules1 : (l : List Cell) (s : Groups) → keys (run (rule1 touch) s l).ids ≡ add_all (keys s.ids) l
  keys-rules1 [] s = refl
  keys-rules1 (c ∷ l) s = keys-rules1 l (rule1 touch s c) ∙ ap (λ k. add_all k l) (keys-rule1 s c)

  -- Rule 2 leaves out the emptied cells.
  pub keys-rule2 : (emptied : List Cell) (s : Groups) → keys (rule2 touch emptied s).ids ≡ keep (λ c. not (has same emptied c)) (keys s.ids)
  keys-rule2 emptied s = keys-only (λ c. not (has same emptied c)) s.ids

  -- A piece that takes the next id adds and leaves out no cell.
  pub keys-take : (s : Groups) (p : List Cell) → keys (take_next touch s p).ids ≡ keys s.ids
  keys-take s p = keys-change (λ a h. cond (has same p a) s.next h) s.ids

  -- Nor do several pieces.
  pub keys-takes : (ps : List (List Cell)) (s : Groups) → keys (run (take_next touch) s ps).ids ≡ keys s.ids
  keys-takes [] s = refl
  keys-takes (p ∷ ps) s = keys-takes ps (take_next touch s p) ∙ keys-take s p

  -- A split adds and leaves out no cell.
  pub keys-split : (s : Groups) (g : ℕ) → keys (split touch s g).ids ≡ keys s.ids
  keys-split s g = go (parts touch (members s.ids g))
    where
      go : (l : List (List Cell)) → keys (split_into touch s l).ids ≡ keys s.ids
      go [] = refl
      go (p ∷ ps) = keys-takes (sort (smaller touch) (largest_piece touch p ps).1) s

  -- Nor do several splits.
  pub keys-splits : (gs : List ℕ) (s : Groups) → keys (run (split touch) s gs).ids ≡ keys s.ids
  keys-splits [] s = refl
  keys-splits (g ∷ gs) s = keys-splits gs (split touch s g) ∙ keys-split s g

  -- Rule 3 adds and leaves out no cell.
  pub keys-rule3 : (emptied : List Cell) (s : Groups) → keys (rule3 touch emptied s).ids ≡ keys s.ids
  unfolding rule3
  keys-rule3 emptied s = keys-splits (affected touch emptied s.ids) s

  -- After a regrouping the cells with an id are the old ones, with the newly occupied, without the newly emptied.
  pub keys-regroup : (occupied emptied : List Cell) (s : Groups) → keys (regroup touch occupied emptied s).ids ≡ keep (λ c. not (has same emptied c)) (add_all (keys s.ids) occupied)
  unfolding regroup
  keys-regroup occupied emptied s =
      keys-rule3 emptied (rule2 touch emptied (run (rule1 touch) s occupied)) ∙ keys-rule2 emptied (run (rule1 touch) s occupied)
      ∙ ap (keep (λ c. not (has same emptied c))) (keys-rules1 occupied s)

  -- The cells with an id are ascending after rule 1.
  pub rule1-asc : (s : Groups) (c : Cell) → Asc below (keys s.ids) → Asc below (keys (rule1 touch s c).ids)
  rule1-asc s c asc = subst (Asc below) (sym (keys-rule1 s c)) (add-asc cells c (keys s.ids) asc)

  -- They are ascending after a regrouping.
  pub regroup-asc : (occupied emptied : List Cell) (s : Groups) → Asc below (keys s.ids) → Asc below (keys (regroup touch occupied emptied s).ids)
  regroup-asc occupied emptied s asc = subst (Asc below) (sym (keys-regroup occupied emptied s)) (keep-asc _ _ (add_all-asc occupied (keys s.ids) asc))
