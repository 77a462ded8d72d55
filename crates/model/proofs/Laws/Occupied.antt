-- Occupancy stays sound: the occupied cells are those where an entity stands, and each mask is exact.
use Rattle.std.specs.Prelude.{ℕ, ◌≡◌, refl, Bool, true, false, cond, not, T, eqb, ltb}
use Rattle.std.proofs.Common.{sym, ◌∙◌, ap, subst, ⊎_elim, T_not}
use mathlib.Core.List.Memᴰ.{cast as mem-cast}
use mathlib.Core.List.Memᴰ.{head}
use mathlib.Core.List.Memᴰ.{tail}
use mathlib.Core.List.{List, [], ◌∷◌, ◌++◌, Memᴰ as Mem}
use Rattle.std.proofs.Math.Option.{Option, none, some}
use Rattle.model.specs.Facts.{Asc, nil, At, Free, Sound}
use Rattle.model.specs.Lists.{has, without, add, ascending, run, keys, values, put, get, drop_key}
use Rattle.model.specs.Cells.{Cell, same, below}
use Rattle.model.specs.Masks.{masked}
use Rattle.model.specs.Occupancy.{Occupancy, Event, remove, move_to, Batch, events, nothing, occupied, stands_in, with_entities, start_batch, Passage, leaves, enters, leaves_from, is_at, passages, open_cell, close_cell, enter, leave, pass, play, trace, play_batch}
use Rattle.model.proofs.Laws.Tests.{T_true, T_false, same_test}
use Rattle.model.proofs.Laws.Orders.{numbers, cells, is-or}
use Rattle.model.proofs.Laws.Members.{any-in, any_out, has_of, of-has, run-append, without_in, without-out}
use Rattle.model.proofs.Laws.Sorted.{add-in, add-out, add-self, add-asc, add-old, keep-asc, asc-equal, ascending-asc, ascending-in, ascending-out, ascending-equal}
use Rattle.model.proofs.Laws.Values.{value_in, value_out, value-put-out, value-put-self, value-put-in, value-drop-out, value-drop-in}
use Rattle.model.proofs.Laws.Tables.{free_of, at_mem, put-asc, drop-asc, at-of-drop}
use Rattle.model.proofs.Laws.Masks.{keys-masked}

-- A leaving entity stands in the cell it leaves; an entering entity stands nowhere.
abbrev pub Fits : List (ℕ × Cell) → Passage → Type 0
Fits entities (leaves e c) = At eqb entities e c
Fits entities (enters e c) = Free eqb entities e

-- Passages that fit when played in turn.
pub data FitsAll (touch : Cell → Cell → Bool) : Occupancy → List Passage → Type 0 where
  fits-nil : {o : Occupancy} → FitsAll touch o []
  fits-cons : {o : Occupancy} {p : Passage} {ps : List Passage} → Fits o.entities p → FitsAll touch (pass touch o p) ps → FitsAll touch o (p ∷ ps)

-- The cells that a table of entities names.
module _ (t : List (ℕ × Cell)) where
  -- Some entity stands in each cell that the table names.
  pub stands_of : {a : Cell} → Mem a (values t) → T (stands_in t a)
  stands_of {a} m = any-in (λ (p : ℕ × Cell). same a p.1) (value_out t m).1 (cells.same_self a)

  -- A cell where some entity stands is named by the table.
  pub of-stands : (a : Cell) → T (stands_in t a) → Mem a (values t)
  of-stands a s =
      let r : (p : ℕ × Cell) × Mem p t × T (same a p.1) = any_out (λ (p : ℕ × Cell). same a p.1) t s in
      mem-cast (cells.same-eq a r.0.1 r.2) (value_in r.1)

  -- The cells where an entity stands are those that the table names, ascending.
  pub stands-has : (a : Cell) → stands_in t a ≡ has same (ascending below (values t)) a
  stands-has a =
      same_test (stands_in t a) (has same (ascending below (values t)) a) (λ u. has_of cells (ascending-in cells (values t) (of-stands a u)))
      (λ u. stands_of (ascending-out cells (values t) (of-has cells (ascending below (values t)) u)))

  -- A cell of which the test says that no entity stands there is not named by the table.
  pub of-nobody : {a : Cell} → T (not (stands_in t a)) → Mem a (values t) → ⊥
  of-nobody {a} s m = T_not (stands_in t a) s (stands_of m)

module _ (t : List (ℕ × Cell)) (e : ℕ) (c : Cell) where
  -- An entity that enters adds its cell.
  pub cells-put : Free eqb t e → ascending below (values (put ltb e c t)) ≡ add below c (ascending below (values t))
  cells-put n =
      asc-equal cells _ _ (ascending-asc cells (values (put ltb e c t))) (add-asc cells c _ (ascending-asc cells (values t)))
      (λ a m. ⊎_elim (λ f. add-self cells c (ascending below (values t)) f) (λ k. add-in cells c (ascending below (values t)) (ascending-in cells (values t) k)) (value-put-out numbers t e c (ascending-out cells (values (put ltb e c t)) m)))
      (λ a m. ascending-in cells (values (put ltb e c t)) (⊎_elim (λ f. mem-cast f (value-put-self numbers t e c)) (λ k. value-put-in numbers t e c n (ascending-out cells (values t) k)) (add-out cells c (ascending below (values t)) m)))

  module _ (p : At eqb t e c) (s : Asc ltb (keys t)) where
    -- An entity that leaves a cell where another stands takes no cell away.
    pub cells-drop-shared : T (stands_in (drop_key eqb e t) c) → ascending below (values (drop_key eqb e t)) ≡ ascending below (values t)
    cells-drop-shared h =
        ascending-equal cells (values (drop_key eqb e t)) (values t) (λ a m. value-drop-out numbers t e m)
        (λ a m. ⊎_elim (λ f. mem-cast f (of-stands (drop_key eqb e t) c h)) (λ n. value-drop-in numbers t e s p m n) (is-or cells a c))

    -- An entity that leaves a cell where no other stands takes it away.
    pub cells-drop-last : T (not (stands_in (drop_key eqb e t) c)) → ascending below (values (drop_key eqb e t)) ≡ without same c (ascending below (values t))
    cells-drop-last h =
        asc-equal cells _ _ (ascending-asc cells (values (drop_key eqb e t))) (keep-asc _ _ (ascending-asc cells (values t)))
        (λ a m. let k : Mem a (values (drop_key eqb e t)) = ascending-out cells (values (drop_key eqb e t)) m in
        without_in cells c (ascending-in cells (values t) (value-drop-out numbers t e k)) (λ f. of-nobody (drop_key eqb e t) h (mem-cast (sym f) k)))
        (λ a m. let r : Mem a (ascending below (values t)) × (a ≡ c → ⊥) = without-out cells c (ascending below (values t)) m in
        ascending-in cells (values (drop_key eqb e t)) (value-drop-in numbers t e s p (ascending-out cells (values t) r.0) r.1))

module _ (touch : Cell → Cell → Bool) where
  -- A cell that opens is added to the occupied cells.
  pub occupied-open : (c : Cell) (o : Occupancy) → occupied (open_cell touch c o) ≡ add below c (occupied o)
  occupied-open c o = keys-masked touch (add below c (occupied o))

  -- A cell that closes is left out of the occupied cells.
  pub occupied-close : (c : Cell) (o : Occupancy) → occupied (close_cell touch c o) ≡ without same c (occupied o)
  occupied-close c o = keys-masked touch (without same c (occupied o))

  -- To leave takes the cell from the occupied cells if no other entity stands there.
  pub occupied-leave : (e : ℕ) (c : Cell) (o : Occupancy) → occupied (leave touch e c o) ≡ cond (stands_in (drop_key eqb e o.entities) c) (occupied o) (without same c (occupied o))
  occupied-leave e c o = go (stands_in (drop_key eqb e o.entities) c)
    where
      go : (b : Bool) → occupied (with_entities (drop_key eqb e o.entities) (cond b o (close_cell touch c o))) ≡ cond b (occupied o) (without same c (occupied o))
      go true = refl
      go false = occupied-close c o

  module _ (o : Occupancy) (ok : Sound touch o) where
    -- The occupied cells ascend strictly.
    pub occupied-asc : Asc below (occupied o)
    occupied-asc = subst (Asc below) (sym ok.cells) (ascending-asc cells (values o.entities))

    -- An entity stands in each occupied cell.
    pub occupied-out : {a : Cell} → Mem a (occupied o) → Mem a (values o.entities)
    occupied-out {a} m = ascending-out cells (values o.entities) (subst (λ l. Mem a l) ok.cells m)

    -- Each cell where an entity stands is occupied.
    pub occupied-in : {a : Cell} → Mem a (values o.entities) → Mem a (occupied o)
    occupied-in {a} m = subst (λ l. Mem a l) (sym ok.cells) (ascending-in cells (values o.entities) m)

    -- A cell of which the test says that no entity stands there is not occupied.
    pub not-occupied : {a : Cell} → T (not (stands_in o.entities a)) → Mem a (occupied o) → ⊥
    not-occupied s m = of-nobody o.entities s (occupied-out m)

    -- The cell of an entity is occupied.
    pub at-occupied : {e : ℕ} {c : Cell} → At eqb o.entities e c → Mem c (occupied o)
    at-occupied p = occupied-in (value_in (at_mem numbers o.entities p))

    -- A cell is occupied exactly when an entity stands there.
    pub occupied-stands : (a : Cell) → stands_in o.entities a ≡ has same (occupied o) a
    occupied-stands a = stands-has o.entities a ∙ ap (λ l. has same l a) (sym ok.cells)

    -- To enter adds the cell to the occupied cells, which changes nothing if it was occupied.
    pub occupied-enter : (e : ℕ) (c : Cell) → occupied (enter touch e c o) ≡ add below c (occupied o)
    occupied-enter e c = go (stands_in o.entities c) refl
      where
        go : (b : Bool) → stands_in o.entities c ≡ b → occupied (with_entities (put ltb e c o.entities) (cond b o (open_cell touch c o))) ≡ add below c (occupied o)
        go true f = sym (add-old cells occupied-asc (occupied-in (of-stands o.entities c (T_true f))))
        go false f = occupied-open c o

  -- Soundness stays when an entity enters.
  pub enter-sound : (e : ℕ) (c : Cell) (o : Occupancy) → Sound touch o → Free eqb o.entities e → Sound touch (enter touch e c o)
  enter-sound e c o ok n = go (stands_in o.entities c) refl
    where
      t : List (ℕ × Cell)
      t = put ltb e c o.entities

      grown : ascending below (values t) ≡ add below c (occupied o)
      grown = cells-put o.entities e c n ∙ ap (add below c) (sym ok.cells)

      go : (b : Bool) → stands_in o.entities c ≡ b → Sound touch (with_entities t (cond b o (open_cell touch c o)))
      go true f =
          record {
            asc = put-asc numbers o.entities e c ok.asc;
            cells = sym (add-old cells (occupied-asc o ok) (occupied-in o ok (of-stands o.entities c (T_true f)))) ∙ sym grown;
            exact = ok.exact;
          }
      go false f =
          record {
            asc = put-asc numbers o.entities e c ok.asc;
            cells = occupied-open c o ∙ sym grown;
            exact = ap (masked touch) (sym (occupied-open c o));
          }

  -- Soundness stays when an entity leaves.
  pub leave-sound : (e : ℕ) (c : Cell) (o : Occupancy) → Sound touch o → At eqb o.entities e c → Sound touch (leave touch e c o)
  leave-sound e c o ok p = go (stands_in t c) refl
    where
      t : List (ℕ × Cell)
      t = drop_key eqb e o.entities

      go : (b : Bool) → stands_in t c ≡ b → Sound touch (with_entities t (cond b o (close_cell touch c o)))
      go true f =
          record {
            asc = drop-asc numbers e o.entities ok.asc;
            cells = ok.cells ∙ sym (cells-drop-shared o.entities e c p ok.asc (T_true f));
            exact = ok.exact;
          }
      go false f =
          record {
            asc = drop-asc numbers e o.entities ok.asc;
            cells = occupied-close c o ∙ ap (without same c) ok.cells ∙ sym (cells-drop-last o.entities e c p ok.asc (T_false f));
            exact = ap (masked touch) (sym (occupied-close c o));
          }

  -- Soundness stays with each passage that fits.
  pub pass-sound : (o : Occupancy) (p : Passage) → Sound touch o → Fits o.entities p → Sound touch (pass touch o p)
  pass-sound o (leaves e c) ok h = leave-sound e c o ok h
  pass-sound o (enters e c) ok h = enter-sound e c o ok h

  -- What each fitting passage keeps, fitting passages keep.
  pub passes-keep : (P : Occupancy → Type 0) (Q : Passage → Type 0) → ((o : Occupancy) (p : Passage) → P o → Fits o.entities p → Q p → P (pass touch o p)) → {o : Occupancy} {ps : List Passage} → FitsAll touch o ps → ((p : Passage) → Mem p ps → Q p) → P o → P (run (pass touch) o ps)
  passes-keep P Q f fits-nil q x = x
  passes-keep P Q f (fits-cons {o} {p} h r) q x = passes-keep P Q f r (λ p' m. q p' (tail m)) (f o p x h (q p (head refl)))

  -- Passages that fit, and then others that fit.
  pub fits-append : {o : Occupancy} {ps : List Passage} (qs : List Passage) → FitsAll touch o ps → FitsAll touch (run (pass touch) o ps) qs → FitsAll touch o (ps ++ qs)
  fits-append qs fits-nil r = r
  fits-append qs (fits-cons h g) r = fits-cons h (fits-append qs g r)

  -- The passages of an event fit.
  pub passages-fit : (o : Occupancy) (ev : Event) → FitsAll touch o (passages o.entities ev)
  passages-fit o (remove e) = go (get eqb o.entities e) refl
    where
      go : (m : Option Cell) → get eqb o.entities e ≡ m → FitsAll touch o (leaves_from e m)
      go none f = fits-nil
      go (some c) f = fits-cons {p = leaves e c} (record { is = f }) fits-nil
  passages-fit o (move_to e c) = go (get eqb o.entities e) (is_at (get eqb o.entities e) c) refl
    where
      go : (m : Option Cell) (b : Bool) → get eqb o.entities e ≡ m → FitsAll touch o (cond b [] (leaves_from e m ++ (enters e c ∷ [])))
      go m true f = fits-nil
      go none false f = fits-cons {p = enters e c} (free_of o.entities e f) fits-nil
      go (some d) false f = fits-cons {p = leaves e d} (record { is = f }) (fits-cons {p = enters e c} (λ v p. (at-of-drop numbers e o.entities p).1 refl) fits-nil)

  -- The passages of some events fit.
  pub trace-fits : (o : Occupancy) (es : List Event) → FitsAll touch o (trace touch o es)
  trace-fits o [] = fits-nil
  trace-fits o (ev ∷ es) = fits-append (trace touch (play touch o ev) es) (passages-fit o ev) (trace-fits (play touch o ev) es)

  -- To play events is to play their passages.
  pub trace-run : (o : Occupancy) (es : List Event) → run (play touch) o es ≡ run (pass touch) o (trace touch o es)
  trace-run o [] = refl
  trace-run o (ev ∷ es) = trace-run (play touch o ev) es ∙ sym (run-append (pass touch) o (passages o.entities ev) (trace touch (play touch o ev) es))

  -- What each fitting passage keeps, events keep.
  pub events-keep : (P : Occupancy → Type 0) (Q : Passage → Type 0) → ((o : Occupancy) (p : Passage) → P o → Fits o.entities p → Q p → P (pass touch o p)) → (o : Occupancy) (es : List Event) → ((p : Passage) → Mem p (trace touch o es) → Q p) → P o → P (run (play touch) o es)
  events-keep P Q f o es q x = subst P (sym (trace-run o es)) (passes-keep P Q f (trace-fits o es) q x)

  -- The empty occupancy is sound.
  pub nothing-sound : Sound touch nothing
  nothing-sound = record { asc = nil; cells = refl; exact = refl }

  -- Soundness does not look at the net lists.
  pub start-sound : (o : Occupancy) → Sound touch o → Sound touch (start_batch o)
  start-sound o ok = record { asc = ok.asc; cells = ok.cells; exact = ok.exact }

  -- Soundness stays with events.
  pub plays-sound : (o : Occupancy) (es : List Event) → Sound touch o → Sound touch (run (play touch) o es)
  plays-sound o es ok = events-keep (Sound touch) (λ p. Unit {0}) (λ o' p x h q. pass-sound o' p x h) o es (λ p m. tt) ok

  -- Soundness stays with a batch.
  pub batch-sound : (b : Batch) (o : Occupancy) → Sound touch o → Sound touch (play_batch touch b o)
  batch-sound b o ok = plays-sound (start_batch o) (events b) (start-sound o ok)
