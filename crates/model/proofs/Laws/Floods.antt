-- What a whole flood visits.
use Rattle.std.specs.Prelude.{ℕ, zero, suc, ◌+◌, ◌≤◌, ◌<◌, ◌≡◌, refl, Bool, T, length}
use Rattle.std.proofs.Common.{arith, sym, ◌∙◌, subst, ⊎_elim}
use mathlib.Core.List.Memᴰ.{cases_cons as mem-cons}
use mathlib.Core.List.Memᴰ.{cast as mem-cast}
use mathlib.Core.List.Memᴰ.{eq_of_singleton as mem-one}
use mathlib.Core.List.Memᴰ.{head}
use mathlib.Core.List.Memᴰ.{not-nil as mem-nil}
use mathlib.Core.List.{List, [], ◌∷◌, ◌++◌, Memᴰ as Mem}
use Rattle.std.proofs.Math.Option.{none, some}
use Rattle.model.specs.Facts.{minus, Sound}
use Rattle.model.specs.Lists.{has}
use Rattle.model.specs.Cells.{Cell, same}
use Rattle.model.specs.Occupancy.{Occupancy, occupied}
use Rattle.model.specs.Masks.{touching}
use Rattle.model.specs.Flood.{visit, whole_flood, Depth, within_depth, flood_cells}
use Rattle.model.specs.Paths.{stop, step, Joined}
use Rattle.model.proofs.Laws.Tests.{cond_yes, cond_no}
use Rattle.model.proofs.Laws.Orders.{cells}
use Rattle.model.proofs.Laws.Members.{keep-in, keep_out, keep-shorter, has_of, hasnt-of, mem-or, Once, once-nil, once-cons, once-keep, once-shorter}
use Rattle.model.proofs.Laws.Minus.{minus-out}
use Rattle.model.proofs.Laws.Walks.{first, join}
use Rattle.model.proofs.Laws.Sorted.{asc-once}
use Rattle.model.proofs.Laws.Occupied.{occupied-asc}
use Rattle.model.proofs.Laws.Visits.{visit-all, visit-once, visit-queued, visit-closed}

-- A seed that is not among the cells gives nothing.
pub whole-none : (touch : Cell → Cell → Bool) (among : List Cell) (seed : Cell) → (Mem seed among → ⊥) → whole_flood touch among seed ≡ []
whole-none touch among seed n = cond_no (has same among seed) _ _ (hasnt-of cells seed among n)

-- The first of the queue is visited first.
pub visit-first : (list : Cell → List Cell) (n : ℕ) (c : Cell) (queue marked : List Cell) → 0 < n → (rest : List Cell) × (visit list n (c ∷ queue) marked ≡ c ∷ rest)
visit-first list zero c queue marked h = absurd (omega arith)
visit-first list (suc n) c queue marked h = (visit list n (queue ++ minus same (list c) marked) (marked ++ minus same (list c) marked), refl)

module _ (touch : Cell → Cell → Bool) (among : List Cell) (among-once : Once among) where
  -- The touching ones of a cell.
  abbrev list : Cell → List Cell
  list = touching touch among

  -- No list has a member twice.
  pub list-once : (c : Cell) → Once (touching touch among c)
  list-once c = once-keep (touch c) among among-once

  -- The members of a list are among the cells.
  pub list-in : (c d : Cell) → Mem d (touching touch among c) → Mem d among
  list-in c d m = (keep_out (touch c) among m).0

  module _ (seed : Cell) (h : Mem seed among) where
    -- A flood of a seed among the cells visits it and what follows.
    pub whole-visit : whole_flood touch among seed ≡ visit list (length among) (seed ∷ []) (seed ∷ [])
    whole-visit = cond_yes (has same among seed) _ _ (has_of cells h)

    -- There are cells enough to visit.
    lasts : 1 + length (minus same among (seed ∷ [])) ≤ length among
    lasts =
        omega (
          arith,
          once-shorter (once-cons (λ k. (minus-out cells among (seed ∷ []) k).1 (head refl)) (once-keep _ among among-once)) among
              (λ a m. ⊎_elim (λ e. mem-cast e h) (λ k. (minus-out cells among (seed ∷ []) k).0) (mem-cons {b = seed} {l = minus same among (seed ∷ [])} m)),
        )

    -- The seed comes first.
    pub whole-first : (rest : List Cell) × (whole_flood touch among seed ≡ seed ∷ rest)
    whole-first =
        let r : (rest : List Cell) × (visit list (length among) (seed ∷ []) (seed ∷ []) ≡ seed ∷ rest) = visit-first list (length among) seed [] (seed ∷ []) (omega (arith, lasts)) in
        (r.0, whole-visit ∙ r.1)

    -- Whatever comes is among the cells and joined to the seed.
    pub whole_out : {a : Cell} → Mem a (whole_flood touch among seed) → Mem a among × Joined touch among seed a
    whole_out {a} m =
        visit-all list (λ c. Mem c among × Joined touch among seed c)
        (λ c d x k. let y : Mem d among × T (touch c d) = keep_out (touch c) among k in (y.0, join touch x.1 (step x.0 y.1 (stop y.0 refl))))
        (length among) (seed ∷ []) (seed ∷ []) (λ c k. (mem-cast (mem-one k) h, stop h (sym (mem-one k)))) (subst (λ l. Mem a l) whole-visit m)

    -- The list of a cell that comes has only cells that come.
    whole-closed : {a b : Cell} → Mem a (whole_flood touch among seed) → Mem b (list a) → Mem b (whole_flood touch among seed)
    whole-closed {a} {b} m k =
        subst (λ l. Mem b l) (sym whole-visit)
        (⊎_elim (λ j. j) (λ j. visit-queued list list-once among among-once list-in (length among) (seed ∷ []) (seed ∷ []) lasts j)
        (visit-closed list list-once among among-once list-in (length among) (seed ∷ []) (seed ∷ []) lasts (subst (λ l. Mem a l) whole-visit m) k))

    -- A path from a cell that comes leads to one that comes.
    along : {b a : Cell} → Mem a (whole_flood touch among seed) → Joined touch among a b → Mem b (whole_flood touch among seed)
    along m (stop d e) = mem-cast (sym e) m
    along {a} m (step d t w) = along (whole-closed m (keep-in (touch a) (first touch w) t)) w

    -- Whatever is joined to the seed comes.
    pub whole_in : {a : Cell} → Joined touch among seed a → Mem a (whole_flood touch among seed)
    whole_in w = along (subst (λ l. Mem seed l) (sym whole-first.1) (head refl)) w

  -- No cell comes twice.
  pub whole-once : (seed : Cell) → Once (whole_flood touch among seed)
  whole-once seed =
      ⊎_elim (λ h. subst Once (sym (whole-visit seed h)) (visit-once list list-once (length among) (seed ∷ []) (seed ∷ []) (once-cons mem-nil once-nil) (λ a m. m)))
      (λ n. subst Once (sym (whole-none touch among seed n)) once-nil) (mem-or cells seed among)

  -- A flood is no longer than the cells are.
  pub whole-shorter : (seed : Cell) → length (whole_flood touch among seed) ≤ length among
  whole-shorter seed =
      ⊎_elim (λ h. once-shorter (whole-once seed) among (λ a m. (whole_out seed h m).0))
      (λ n. subst (λ l. length l ≤ length among) (sym (whole-none touch among seed n)) (omega arith)) (mem-or cells seed among)

-- The cells that a flood goes over are occupied.
pub flood-cells-out : (depth : Depth) (seed : Cell) (l : List Cell) {a : Cell} → Mem a (flood_cells depth seed l) → Mem a l
flood-cells-out none seed l m = m
flood-cells-out (some d) seed l m = (keep_out (within_depth d seed) l m).0

-- There are no more of them than occupied cells.
pub flood-cells-shorter : (depth : Depth) (seed : Cell) (l : List Cell) → length (flood_cells depth seed l) ≤ length l
flood-cells-shorter none seed l = omega arith
flood-cells-shorter (some d) seed l = keep-shorter (within_depth d seed) l

-- None of them comes twice.
pub flood-cells-once : (touch : Cell → Cell → Bool) (o : Occupancy) → Sound touch o → (depth : Depth) (seed : Cell) → Once (flood_cells depth seed (occupied o))
flood-cells-once touch o ok none seed = asc-once cells (occupied-asc touch o ok)
flood-cells-once touch o ok (some d) seed = once-keep (within_depth d seed) (occupied o) (asc-once cells (occupied-asc touch o ok))
