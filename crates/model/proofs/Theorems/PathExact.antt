-- The shown path is the shortest one, first in cell order, and is none exactly when no path exists.
use Rattle.std.specs.Prelude.{ℕ, ◌≤◌, ◌≡◌, refl, ◌↔◌, ◌⊎◌, Bool, T, length}
use Rattle.std.proofs.Common.{arith, sym, ◌∙◌, ap, subst, inl, ⊎_elim}
use mathlib.Core.List.Memᴰ.{not-nil as mem-nil}
use mathlib.Core.List.{List, [], ◌∷◌, Memᴰ as Mem}
use Rattle.std.proofs.Math.Option.{Option, none, some}
use Rattle.model.specs.Lists.{has}
use Rattle.model.specs.Cells.{Cell, same, below}
use Rattle.model.specs.Occupancy.{occupied}
use Rattle.model.specs.Paths.{Joined, stop, step}
use Rattle.model.specs.Shortest.{steps_from, walk, step_numbers, walk_first, shown_path, IsPath, end, on, Shown}
use Rattle.model.specs.Update.{State}
use Rattle.model.specs.Questions.{id_of}
use Rattle.model.specs.Consistent.{consistent_by}
use Rattle.model.specs.Runs.{ReachedBy}
use Rattle.model.proofs.Laws.Orders.{cells}
use Rattle.model.proofs.Laws.Members.{keep-in, count-in, has_of, Once, once-shorter}
use Rattle.model.specs.Facts.{Asc}
use Rattle.model.proofs.Laws.Touching.{Touching}
use Rattle.model.proofs.Laws.Walks.{first}
use Rattle.model.proofs.Laws.Occupied.{occupied-asc}
use Rattle.model.proofs.Laws.Consistency.{ok_out}
use Rattle.model.proofs.Laws.Leading.{last, leads-path, leads-in, path-leads, fewest-once, sooner-asym}
use Rattle.model.proofs.Laws.Steps.{walk-leads, walk-length, walk-first, leads-steps, joined-steps, first-number}
use Rattle.model.proofs.Theorems.Grouping.{Grouped, grouping-consistent}
use Rattle.model.proofs.Theorems.StaysConsistent.{consistent-reached}

-- Nothing found is not something found.
none-some : {A : Type 0} {x : Option A} {y : A} → x ≡ none → x ≡ some y → ⊥
none-some e f = let z : ◌≡◌ {A = ℕ} 0 1 = cc in omega arith

module _ (touch : Cell → Cell → Bool) (among : List Cell) (a b : Cell) where
  -- What is shown leads from a to b, has the fewest cells, and comes before each other list of as many cells.
  pub path-exact : Asc below among → {p : List Cell} → shown_path touch among a b ≡ some p → Shown touch among a b p
  path-exact s {p} e = go (step_numbers touch among b a) refl e
    where
      go : (l : List ℕ) → step_numbers touch among b a ≡ l → walk_first touch among b a l ≡ some p → Shown touch among a b p
      go [] f g = absurd (none-some refl g)
      go (n ∷ ns) f g =
          let r = first-number touch among b a f in
          let w : walk touch among b n a ≡ p = cc in
          subst (Shown touch among a b) w
          (record {
            is-path = walk-leads touch among b n a r.1;
            fewest = λ q v. let k = leads-steps touch among b v in omega (arith, walk-length touch among b n a, k.1, r.2 k.0 k.2);
            first = λ q v h. walk-first touch among b s n v (h ∙ walk-length touch among b n a);
          })

  -- If a path joins them, one is shown.
  pub path-some : Joined touch among a b → (p : List Cell) × (shown_path touch among a b ≡ some p)
  path-some w = go (step_numbers touch among b a) refl
    where
      go : (l : List ℕ) → step_numbers touch among b a ≡ l → (p : List Cell) × (walk_first touch among b a l ≡ some p)
      go [] f =
          let r = joined-steps touch among b w in
          absurd (mem-nil (subst (λ l. Mem r.0 l) f (keep-in (λ n. has same (steps_from touch among b n) a) (count-in 0 (length among) (omega arith) (omega (arith, r.1))) (has_of cells r.2))))
      go (n ∷ ns) f = (walk touch among b n a, refl)

  -- If one is shown, a path joins them.
  pub path-joins : {p : List Cell} → shown_path touch among a b ≡ some p → Joined touch among a b
  path-joins {p} e = go (step_numbers touch among b a) refl e
    where
      go : (l : List ℕ) → step_numbers touch among b a ≡ l → walk_first touch among b a l ≡ some p → Joined touch among a b
      go [] f g = absurd (none-some refl g)
      go (n ∷ ns) f g = leads-path (walk-leads touch among b n a (first-number touch among b a f).1)

  -- None is shown exactly when no path joins them.
  pub path-none : (shown_path touch among a b ≡ none) ↔ (Joined touch among a b → ⊥)
  path-none = (λ e w. none-some e (path-some w).1, λ n. go n (shown_path touch among a b) refl)
    where
      go : (Joined touch among a b → ⊥) → (o : Option (List Cell)) → shown_path touch among a b ≡ o → shown_path touch among a b ≡ none
      go n none e = e
      go n (some p) e = absurd (n (path-joins e))

  -- So none is shown exactly when no list leads from a to b.
  pub path-absent : (shown_path touch among a b ≡ none) ↔ ((q : List Cell) → IsPath touch among a b q → ⊥)
  path-absent = (λ e q v. path-none.0 e (leads-path v), λ f. path-none.1 (λ w. let r = path-leads w in f r.0 r.1))

  -- One answer only is as it must be.
  pub shown-once : {p q : List Cell} → Shown touch among a b p → Shown touch among a b q → p ≡ q
  shown-once {p} {q} u v =
      let h : length p ≤ length q = u.fewest q v.is-path in
      let k : length q ≤ length p = v.fewest p u.is-path in
      ⊎_elim (λ e. e) (λ s. ⊎_elim (λ e. sym e) (λ t. absurd (sooner-asym p q s t)) (v.first p u.is-path (omega arith))) (u.first q v.is-path (omega arith))

  -- So what must be shown is shown.
  pub path-unique : Asc below among → {p : List Cell} → Shown touch among a b p → shown_path touch among a b ≡ some p
  path-unique s {p} u = let r = path-some (leads-path u.is-path) in r.1 ∙ ap some (shown-once (path-exact s r.1) u)

  -- No cell comes twice in it, and so it has at most as many cells as are occupied.
  pub shown-distinct : {p : List Cell} → Shown touch among a b p → Once p
  shown-distinct u = fewest-once u.is-path u.fewest

  pub shown-short : {p : List Cell} → Shown touch among a b p → length p ≤ length among
  shown-short u = once-shorter (shown-distinct u) among (λ x m. leads-in u.is-path m)

  -- An unoccupied end gives none.
  pub path-unoccupied : (Mem a among → ⊥) ⊎ (Mem b among → ⊥) → shown_path touch among a b ≡ none
  path-unoccupied h = path-none.1 (λ w. ⊎_elim (λ n. n (first touch w)) (λ n. n (last touch w)) h)

  -- Two grids give none.
  pub path-grids : Touching touch → (a.grid ≡ b.grid → ⊥) → shown_path touch among a b ≡ none
  path-grids laws n = path-none.1 (λ w. n (one w))
    where
      one : {c : Cell} → Joined touch among c b → c.grid ≡ b.grid
      one (stop d e) = ap (λ (x : Cell). x.grid) e
      one (step d t w) = laws.one-grid _ _ t ∙ one w

-- A cell and itself, occupied, give that cell.
pub path-self : (touch : Cell → Cell → Bool) (among : List Cell) (a : Cell) → Asc below among → Mem a among → shown_path touch among a a ≡ some (a ∷ [])
path-self touch among a s m = path-unique touch among a a s (record { is-path = end m refl; fewest = λ q v. omega (arith, (leads-steps touch among a v).1); first = λ q v h. inl (alone v h) })
  where
    alone : {q : List Cell} → IsPath touch among a a q → length q ≡ 1 → a ∷ [] ≡ q
    alone (end d e) h = refl
    alone (on d t w) h = absurd (omega (arith, (leads-steps touch among a w).1))

module _ (touch : Cell → Cell → Bool) (laws : Touching touch) (s : State) (t : T (consistent_by touch s)) (a b : Cell) where
  -- In a consistent state a path is shown exactly if both cells have the same id.
  pub path-group : ((p : List Cell) × (shown_path touch (occupied s.occupancy) a b ≡ some p)) ↔ ((g : ℕ) × (id_of s a ≡ some g) × (id_of s b ≡ some g))
  path-group = (
    λ r.
        let w = path-joins touch (occupied s.occupancy) a b r.1 in
        let g = ok.has-id a (first touch w) in
        let h = ok.has-id b (last touch w) in
        (g.0, g.1, h.1 ∙ ap some (sym ((ok.shared a b g.0 h.0 g.1 h.1).1 w))),
    λ r. path-some touch (occupied s.occupancy) a b ((ok.shared a b r.0 r.0 r.1 r.2).0 refl),
  )
    where
      ok : Grouped touch s
      ok = grouping-consistent touch laws s t

-- In every state that a history of accepted batches leads to.
module _ (touch : Cell → Cell → Bool) (laws : Touching touch) {s : State} (r : ReachedBy touch s) (a b : Cell) where
  -- A path is shown exactly if both cells have the same id.
  pub path-reached : ((p : List Cell) × (shown_path touch (occupied s.occupancy) a b ≡ some p)) ↔ ((g : ℕ) × (id_of s a ≡ some g) × (id_of s b ≡ some g))
  path-reached = path-group touch laws s (consistent-reached touch laws r) a b

  -- It is shown exactly if it is what it must be.
  pub shown-reached : (p : List Cell) → (shown_path touch (occupied s.occupancy) a b ≡ some p) ↔ Shown touch (occupied s.occupancy) a b p
  shown-reached p = (path-exact touch (occupied s.occupancy) a b asc, path-unique touch (occupied s.occupancy) a b asc)
    where
      asc : Asc below (occupied s.occupancy)
      asc = occupied-asc touch s.occupancy (ok_out touch laws.flip s (consistent-reached touch laws r)).sound
