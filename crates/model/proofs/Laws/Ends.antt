-- Where the entities stand after events: each event changes the entity that it names, and no cell matters.
use Rattle.std.specs.Prelude.{ℕ, ◌≡◌, refl, Bool, true, false, cond, List, [], ◌∷◌, ◌++◌, eqb, ltb}
use Rattle.std.proofs.Common.{sym, ◌∙◌, ap, subst, ⊎_elim}
use Rattle.std.proofs.Math.Option.{Option, none, some}
use Rattle.model.specs.Lists.{run, keys, get, put, drop_key}
use Rattle.model.specs.Cells.{Cell, same}
use Rattle.model.specs.Occupancy.{Occupancy, Event, remove, move_to, enters, leaves_from, is_at, pass, play}
use Rattle.model.proofs.Laws.Tests.{T_true}
use Rattle.model.proofs.Laws.Orders.{numbers, cells, is-or}
use Rattle.model.specs.Facts.{Asc}
use Rattle.model.proofs.Laws.Tables.{asc-fair, free_of, drop-free, put-asc, drop-asc, put-old, table_same, get-put-self, get-put-other, get-drop-other}

-- Who stands where after an event.
abbrev pub stands : List (ℕ × Cell) → Event → List (ℕ × Cell)
stands t (remove e) = drop_key eqb e t
stands t (move_to e c) = put ltb e c t

-- A table with ascending keys has ascending keys after an event.
pub stands-asc : (t : List (ℕ × Cell)) (ev : Event) → Asc ltb (keys t) → Asc ltb (keys (stands t ev))
stands-asc t (remove e) s = drop-asc numbers e t s
stands-asc t (move_to e c) s = put-asc numbers t e c s

-- A value put in after its key was left out is put in.
put-drop : (t : List (ℕ × Cell)) (e : ℕ) (c : Cell) → Asc ltb (keys t) → put ltb e c (drop_key eqb e t) ≡ put ltb e c t
put-drop t e c s =
    table_same numbers (put ltb e c (drop_key eqb e t)) (put ltb e c t) (put-asc numbers (drop_key eqb e t) e c (drop-asc numbers e t s)) (put-asc numbers t e c s)
    (λ a. ⊎_elim
    (λ f. ap (λ x. get eqb (put ltb e c (drop_key eqb e t)) x) f ∙ get-put-self numbers (drop_key eqb e t) e c ∙ sym (get-put-self numbers t e c) ∙ ap (λ x. get eqb (put ltb e c t) x) (sym f))
    (λ n. get-put-other numbers (drop_key eqb e t) e c a n ∙ get-drop-other numbers t e a n ∙ sym (get-put-other numbers t e c a n)) (is-or numbers a e))

module _ (touch : Cell → Cell → Bool) where
  -- An event leaves the entities so.
  pub play-stands : (o : Occupancy) (ev : Event) → Asc ltb (keys o.entities) → (play touch o ev).entities ≡ stands o.entities ev
  play-stands o (remove e) s = go (get eqb o.entities e) refl
    where
      go : (m : Option Cell) → get eqb o.entities e ≡ m → (run (pass touch) o (leaves_from e m)).entities ≡ drop_key eqb e o.entities
      go none f = sym (drop-free numbers o.entities e (asc-fair numbers o.entities s) (free_of o.entities e f))
      go (some c) f = refl
  play-stands o (move_to e c) s = go (get eqb o.entities e) refl
    where
      at : (d : Cell) (b : Bool) → same c d ≡ b → get eqb o.entities e ≡ some d → (run (pass touch) o (cond b [] (leaves_from e (some d) ++ (enters e c ∷ [])))).entities ≡ put ltb e c o.entities
      at d true f g = sym (put-old numbers o.entities e c s (record { is = g ∙ ap some (sym (cells.same-eq c d (T_true f))) }))
      at d false f g = put-drop o.entities e c s

      go : (m : Option Cell) → get eqb o.entities e ≡ m → (run (pass touch) o (cond (is_at m c) [] (leaves_from e m ++ (enters e c ∷ [])))).entities ≡ put ltb e c o.entities
      go none f = refl
      go (some d) f = at d (same c d) refl f

  -- Events leave the entities so, one after the other.
  pub plays-stands : (o : Occupancy) (es : List Event) → Asc ltb (keys o.entities) → (run (play touch) o es).entities ≡ run stands o.entities es
  plays-stands o [] s = refl
  plays-stands o (ev ∷ es) s =
      plays-stands (play touch o ev) es (subst (λ t. Asc ltb (keys t)) (sym (play-stands o ev s)) (stands-asc o.entities ev s))
      ∙ ap (λ t. run stands t es) (play-stands o ev s)
