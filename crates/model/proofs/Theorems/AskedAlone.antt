-- The path shown on one grid does not depend on the other grids.
use Rattle.std.specs.Prelude.{ℕ, ◌≡◌, refl, Bool, List, T}
use Rattle.std.proofs.Common.{sym, ◌∙◌, ap}
use Rattle.std.proofs.Math.Option.{Option, none, some}
use Rattle.model.specs.Facts.{Asc}
use Rattle.model.specs.Lists.{keep, keys}
use Rattle.model.specs.Cells.{Cell, below}
use Rattle.model.specs.Occupancy.{occupied}
use Rattle.model.specs.Paths.{Joined, stop, step}
use Rattle.model.specs.Shortest.{shown_path, IsPath, end, on}
use Rattle.model.specs.Update.{State}
use Rattle.model.specs.Runs.{ReachedBy, AlikeBy, on_grid, SameOn}
use Rattle.model.proofs.Laws.Members.{keep-in, keep_out}
use Rattle.model.proofs.Laws.Sorted.{keep-asc}
use Rattle.model.proofs.Laws.Tables.{keys-only}
use Rattle.model.proofs.Laws.Touching.{Touching}
use Rattle.model.proofs.Laws.OnGrid.{stays_on}
use Rattle.model.proofs.Laws.Occupied.{occupied-asc}
use Rattle.model.proofs.Laws.Consistency.{ok_out}
use Rattle.model.proofs.Theorems.StaysConsistent.{consistent-reached}
use Rattle.model.proofs.Theorems.Isolation.{isolation}
use Rattle.model.proofs.Theorems.PathExact.{path-exact, path-none, path-unique}

-- A set of cells that touching does not leave.
module _ (touch : Cell → Cell → Bool) (set : Cell → Bool) (stays : (a b : Cell) → T (touch a b) → T (set a) → T (set b)) (among : List Cell) where
  -- A path from a cell of the set stays in it.
  joined-set : {b a : Cell} → T (set a) → Joined touch among a b → Joined touch (keep set among) a b
  joined-set u (stop d e) = stop (keep-in set d u) e
  joined-set u (step d t w) = step (keep-in set d u) t (joined-set (stays _ _ t u) w)

  list_set : {b a : Cell} {p : List Cell} → T (set a) → IsPath touch among a b p → IsPath touch (keep set among) a b p
  list_set u (end d e) = end (keep-in set d u) e
  list_set u (on d t w) = on (keep-in set d u) t (list_set (stays _ _ t u) w)

  -- A path of the set is a path.
  set-list : {b a : Cell} {p : List Cell} → IsPath touch (keep set among) a b p → IsPath touch among a b p
  set-list (end d e) = end (keep_out set among d).0 e
  set-list (on d t w) = on (keep_out set among d).0 t (set-list w)

  -- The path shown from a cell of the set is that of the set.
  pub path-set : Asc below among → (a b : Cell) → T (set a) → shown_path touch among a b ≡ shown_path touch (keep set among) a b
  path-set s a b u = go (shown_path touch (keep set among) a b) refl
    where
      go : (o : Option (List Cell)) → shown_path touch (keep set among) a b ≡ o → shown_path touch among a b ≡ shown_path touch (keep set among) a b
      go none e = (path-none touch among a b).1 (λ w. (path-none touch (keep set among) a b).0 e (joined-set u w)) ∙ sym e
      go (some p) e =
          let r = path-exact touch (keep set among) a b (keep-asc set among s) e in
          path-unique touch among a b s
          (record { is-path = set-list r.is-path; fewest = λ q v. r.fewest q (list_set u v); first = λ q v h. r.first q (list_set u v) h }) ∙ sym e

-- Two states that show the same of a grid.
module _ (touch : Cell → Cell → Bool) (laws : Touching touch) (grid : ℕ) {s t : State} (r : SameOn touch grid s t) where
  -- The grid's occupied cells.
  cells_same : keep (on_grid grid) (occupied s.occupancy) ≡ keep (on_grid grid) (occupied t.occupancy)
  cells_same = sym (keys-only (on_grid grid) s.occupancy.masks) ∙ ap keys r.masks ∙ keys-only (on_grid grid) t.occupancy.masks

  module _ (p : Asc below (occupied s.occupancy)) (q : Asc below (occupied t.occupancy)) where
    -- Paths from a cell of the grid.
    pub path-same : (a b : Cell) → T (on_grid grid a) → shown_path touch (occupied s.occupancy) a b ≡ shown_path touch (occupied t.occupancy) a b
    path-same a b u =
        path-set touch (on_grid grid) (stays_on laws grid) (occupied s.occupancy) p a b u
        ∙ ap (λ l. shown_path touch l a b) cells_same
        ∙ sym (path-set touch (on_grid grid) (stays_on laws grid) (occupied t.occupancy) q a b u)

-- Runs that are alike on a grid.
module _ (touch : Cell → Cell → Bool) (laws : Touching touch) (grid : ℕ) where
  -- Both states are led to by a history of accepted batches.
  both-reached : {s t : State} → AlikeBy touch grid s t → ReachedBy touch s × ReachedBy touch t
  both-reached (AlikeBy.start first first' kind kind') = (ReachedBy.start first kind, ReachedBy.start first' kind')
  both-reached (AlikeBy.next b d r e f h) = let k = both-reached r in (ReachedBy.next b k.0 e, ReachedBy.next d k.1 f)

  reached-asc : {s : State} → ReachedBy touch s → Asc below (occupied s.occupancy)
  reached-asc {s} r = occupied-asc touch s.occupancy (ok_out touch laws.flip s (consistent-reached touch laws r)).sound

  -- Every path of the grid is the same in both.
  pub path-isolated : {s t : State} → AlikeBy touch grid s t → (a b : Cell) → T (on_grid grid a) → shown_path touch (occupied s.occupancy) a b ≡ shown_path touch (occupied t.occupancy) a b
  path-isolated r = path-same touch laws grid (isolation touch laws grid r) (reached-asc (both-reached r).0) (reached-asc (both-reached r).1)
