-- What was shown for every set of offsets that holds its opposites, read at the kind that a state has chosen.
use Rattle.std.specs.Prelude.{ℕ, ◌+◌, ◌≤◌, ◌<◌, ◌≡◌, refl, ◌↔◌, Bool, true, false, cond, ◌&&◌, not, T, eqb, length}
use Rattle.std.proofs.Common.{arith, sym, ◌∙◌, ap, subst}
use mathlib.Core.List.{List, Memᴰ as Mem}
use Rattle.std.proofs.Math.Option.{none, some}
use Rattle.std.specs.Int.Count.{ones}
use Rattle.model.specs.Lists.{keep, has, each, count, run, keys}
use Rattle.model.specs.Cells.{Cell, same, below, Offset, offsets26, is_kind, offsets_of, touch_at, shift}
use Rattle.model.specs.Occupancy.{Batch, events, occupied}
use Rattle.model.specs.Masks.{bit, touching, leads_to, mask_of, masked}
use Rattle.model.specs.Places.{offset_at}
use Rattle.model.specs.Flood.{Depth, within_depth, flood_cells, flood_within, flood}
use Rattle.model.specs.Paths.{Path}
use Rattle.model.specs.Shortest.{shown_path, Shown}
use Rattle.model.specs.Groups.{Group, members}
use Rattle.model.specs.Update.{State, fresh, few_ids, fresh_refusal, touch_of, accepted_by, update_by, refusal, accepted, update}
use Rattle.model.specs.Questions.{id_of, group_by, nearby_by, nearby, flood_of, path_between, neighbour_count}
use Rattle.model.specs.Consistent.{kind_known, consistent_by, consistent}
use Rattle.model.specs.Runs.{on_grid, passages_on, ReachedBy, Reached, start, next, AlikeBy, Alike, SameOn}
use Rattle.model.specs.Counted.{entities_counted, placed, placed_of}
use Rattle.model.proofs.Laws.Tests.{and-fst, and-snd, and_both}
use Rattle.model.specs.Facts.{Asc}
use Rattle.model.proofs.Laws.Tables.{keys_length}
use Rattle.model.proofs.Laws.Touching.{Touching, AboveZero}
use Rattle.model.proofs.Laws.Kinds.{kind-opposites, kind-touching}
use Rattle.model.proofs.Theorems.MasksExact.{leads-there, mask-list, mask-count, mask-cells, count-exact}
use Rattle.model.proofs.Theorems.NetExact.{Since}
use Rattle.model.proofs.Theorems.FloodExact.{Whole}
use Rattle.model.proofs.Theorems.CornersExact.{Shows}
use Rattle.model.proofs.Theorems.StaysConsistent.{consistent-fresh, consistent-update, consistent-reached}
use Rattle.model.proofs.Theorems.Grouping.{Grouped, grouping-consistent}
use Rattle.model.proofs.Theorems.Histories.{net-reached, masks-reached, flood-reached, depth-reached, corners-reached}
use Rattle.model.proofs.Theorems.UpdateIds.{ids-taken, next_fits}
use Rattle.model.proofs.Theorems.Isolation.{isolation, nearby-same}
use Rattle.model.proofs.Theorems.PathExact.{path-reached, shown-reached}
use Rattle.model.proofs.Theorems.EntityCounts.{entities-sum, entities-after}
use Rattle.model.proofs.Theorems.AskedAlone.{path-isolated}

-- What holds of touching as a state has chosen it.
pub touching-of : (s : State) → Touching (touch_of s)
touching-of s = kind-touching s.kind

-- The choice never changes.
pub kind-kept : (s : State) (b : Batch) → (update s b).1.kind ≡ s.kind
unfolding update_by accepted_by
kind-kept s b = go (eqb (refusal s b) 0)
  where
    go : (t : Bool) → (cond {A = ℕ × State} t (0, accepted s b) (refusal s b, s)).1.kind ≡ s.kind
    go true = refl
    go false = refl

-- A history's kind is known, and the history is one for touching of that kind.
pub reached-kind : {s : State} → Reached s → T (is_kind s.kind)
reached-kind (start first kind t) = t
reached-kind (next {s} b r e) = subst (λ k. T (is_kind k)) (sym (kind-kept s b)) (reached-kind r)

pub reached-by : {s : State} → Reached s → ReachedBy (touch_of s) s
reached-by (start first kind t) = start first kind
reached-by (next {s} b r e) = subst (λ k. ReachedBy (touch_at k) (update s b).1) (sym (kind-kept s b)) (next b (reached-by r) e)

-- What a mask tells: its bits by the set of the kind, as a list in cell order, and as a count.
module _ (kind : ℕ) (l : List Cell) (c : Cell) (up : AboveZero c) where
  pub mask-bits-kind : (o : Offset) → Mem o offsets26 → leads_to (touch_at kind) l c o ≡ offsets_of kind o && has same l (shift c o)
  unfolding touch_at
  mask-bits-kind = leads-there (offsets_of kind) l c up

  pub mask-list-kind : Asc below l → each (shift c) (keep (leads_to (touch_at kind) l c) offsets26) ≡ touching (touch_at kind) l c
  unfolding touch_at
  mask-list-kind = mask-list (offsets_of kind) l c

  pub mask-count-kind : Asc below l → ones (mask_of (touch_at kind) l c) ≡ length (touching (touch_at kind) l c)
  unfolding touch_at
  mask-count-kind = mask-count (offsets_of kind) l c

  pub mask-cells-kind : Asc below l → each (λ k. shift c (offset_at k)) (keep (bit (mask_of (touch_at kind) l c)) (count 0 26)) ≡ touching (touch_at kind) l c
  unfolding touch_at
  mask-cells-kind = mask-cells (offsets_of kind) l c

-- A fresh state with a known kind is consistent; so it is where the number is 0.
pub consistent-fresh-kind : (first kind : ℕ) → T (is_kind kind) → T (consistent (fresh first kind))
consistent-fresh-kind first kind t = and_both (is_kind kind) _ t (consistent-fresh (touch_at kind) first kind)

pub fresh-accepted : (first kind : ℕ) → fresh_refusal first kind ≡ 0 → T (consistent (fresh first kind))
fresh-accepted first kind e = consistent-fresh-kind first kind (go (is_kind kind) e)
  where
    go : (b : Bool) → ◌≡◌ {A = ℕ} (cond (not b) 13 (cond (few_ids first) 5 0)) 0 → T b
    go true h = tt
    go false h = absurd (omega arith)

-- An accepted update of a consistent state is consistent.
pub consistent-update-kind : (s : State) (b : Batch) → T (consistent s) → (update s b).0 ≡ 0 → T (consistent (update s b).1)
consistent-update-kind s b t e =
    and_both (kind_known (update s b).1) _ (subst (λ k. T (is_kind k)) (sym (kind-kept s b)) (and-fst (kind_known s) _ t))
    (subst (λ k. T (consistent_by (touch_at k) (update s b).1)) (sym (kind-kept s b)) (consistent-update (touch_of s) (touching-of s) s b (and-snd (kind_known s) _ t) e))

-- Every state that is reached is consistent.
pub consistent-reached-kind : {s : State} → Reached s → T (consistent s)
consistent-reached-kind {s} r = and_both (kind_known s) _ (reached-kind r) (consistent-reached (touch_of s) (touching-of s) (reached-by r))

-- Every consistent state is grouped by touching as it has chosen it; so is every state that is reached.
pub grouping-consistent-kind : (s : State) → T (consistent s) → Grouped (touch_of s) s
grouping-consistent-kind s t = grouping-consistent (touch_of s) (touching-of s) s (and-snd (kind_known s) _ t)

module _ {s : State} (r : Reached s) where
  pub grouping-kind : Grouped (touch_of s) s
  grouping-kind = grouping-consistent-kind s (consistent-reached-kind r)

  -- The net lists of the next accepted batch are the difference that it makes.
  pub net-kind : (b : Batch) → (update s b).0 ≡ 0 → Since s.occupancy (update s b).1.occupancy
  net-kind = net-reached (touch_of s) (touching-of s) (reached-by r)

  -- Each mask has exactly the bits of touching occupied cells.
  pub masks-kind : s.occupancy.masks ≡ masked (touch_of s) (occupied s.occupancy)
  masks-kind = masks-reached (touch_of s) (touching-of s) (reached-by r)

  -- A flood visits, before the budget, exactly the cells joined to its seed through those it goes over, each once.
  pub flood-kind : (seed : Cell) (depth : Depth) → Mem seed (flood_cells depth seed (occupied s.occupancy)) →
      Whole (touch_of s) (flood_cells depth seed (occupied s.occupancy)) seed (flood_within (touch_of s) s.occupancy seed depth)
  flood-kind = flood-reached (touch_of s) (touching-of s) (reached-by r)

  -- With a depth those are the cells reached by a path of touching occupied cells that all lie within it.
  pub depth-kind : (seed : Cell) (d : ℕ) (a : Cell) →
      Mem a (flood_within (touch_of s) s.occupancy seed (some d)) ↔ Path (touch_of s) (λ c. Mem c (occupied s.occupancy) × T (within_depth d seed c)) seed a
  depth-kind = depth-reached (touch_of s) (touching-of s) (reached-by r)

  -- A path is shown exactly if it is what it must be, and exactly if both cells have the same id.
  pub path-kind : (a b : Cell) (p : List Cell) → (path_between s a b ≡ some p) ↔ Shown (touch_of s) (occupied s.occupancy) a b p
  path-kind = shown-reached (touch_of s) (touching-of s) (reached-by r)

  pub path-group-kind : (a b : Cell) → ((p : List Cell) × (path_between s a b ≡ some p)) ↔ ((g : ℕ) × (id_of s a ≡ some g) × (id_of s b ≡ some g))
  path-group-kind = path-reached (touch_of s) (touching-of s) (reached-by r)

  -- The group of an id that a cell has shows exactly the cells with that id.
  pub corners-kind : (a : Cell) (g : ℕ) → id_of s a ≡ some g → (k : Group) × (group_by s g ≡ some k) × Shows (members s.groups.ids g) k
  corners-kind = corners-reached (touch_of s) (touching-of s) (reached-by r)

  -- The neighbour count of an occupied cell is the number of occupied cells that it touches.
  pub count-kind : (c : Cell) → neighbour_count s c ≡ cond (has same (occupied s.occupancy) c) (some (length (touching (touch_of s) (occupied s.occupancy) c))) none
  unfolding touch_at
  count-kind = count-exact (offsets_of s.kind) (kind-opposites s.kind) s (and-snd (kind_known s) _ (consistent-reached-kind r))

  -- An accepted update takes at most 2,048 ids, so the next id stays a number of 64 bits.
  pub ids-kind : (b : Batch) → (update s b).0 ≡ 0 → ((update s b).1.groups.next ≤ s.groups.next + 2048) × ((update s b).1.groups.next < 18446744073709551616)
  ids-kind b e =
      let t = and-snd (kind_known s) _ (consistent-reached-kind r) in
      (ids-taken (touch_of s) (touching-of s) s t b e, next_fits (touch_of s) (touching-of s) s t b e)

-- The entities of a state are those that its history has placed and not since removed, and the groups count as many together.
pub entities-placed-kind : {s : State} (r : Reached s) → keys s.occupancy.entities ≡ placed_of r
entities-placed-kind (start first kind t) = refl
entities-placed-kind (next {s} b r e) =
    entities-after (touch_of s) (touching-of s) s (and-snd (kind_known s) _ (consistent-reached-kind r)) b e ∙ ap (λ l. run placed l (events b)) (entities-placed-kind r)

pub entities-kind : {s : State} (r : Reached s) → entities_counted s ≡ length (placed_of r)
entities-kind {s} r =
    entities-sum (touch_of s) (touching-of s) s (and-snd (kind_known s) _ (consistent-reached-kind r)) ∙ sym (keys_length s.occupancy.entities) ∙ ap length (entities-placed-kind r)

-- Two runs with one choice are runs for touching of that kind.
pub alike-kind : {grid : ℕ} {s t : State} → Alike grid s t → s.kind ≡ t.kind
alike-kind (start first first' kind k) = refl
alike-kind (next {s} {t} b d r e f h) = kind-kept s b ∙ alike-kind r ∙ sym (kind-kept t d)

pub alike-by : {grid : ℕ} {s t : State} → Alike grid s t → AlikeBy (touch_of s) grid s t
alike-by (start first first' kind k) = start first first' kind kind
alike-by {grid} (next {s} {t} b d r e f h) =
    let k : s.kind ≡ t.kind = alike-kind r in
    subst (λ j. AlikeBy (touch_at j) grid (update s b).1 (update t d).1) (sym (kind-kept s b))
    (subst (λ j. AlikeBy (touch_of s) grid (update s b).1 (update_by (touch_at j) t d).1) k
    (next b d (alike-by r) e
    (subst (λ j. (update_by (touch_at j) t d).0 ≡ 0) (sym k) f)
    (h ∙ ap (λ j. passages_on (touch_at j) grid t d) (sym k))))

-- Runs with one choice that agree on a grid's enter and leave events show the same of the grid.
module _ (grid : ℕ) {s t : State} (r : Alike grid s t) where
  pub isolation-kind : SameOn (touch_of s) grid s t
  isolation-kind = isolation (touch_of s) (touching-of s) grid (alike-by r)

  pub nearby-kind : (c : Cell) → T (on_grid grid c) → nearby s c ≡ nearby t c
  nearby-kind c u =
      nearby-same (touch_of s) grid isolation-kind c u (touching-of s)
      ∙ ap (λ j. nearby_by (touch_at j) t c) (alike-kind r)

  pub paths-kind : (a b : Cell) → T (on_grid grid a) → path_between s a b ≡ path_between t a b
  paths-kind a b u =
      path-isolated (touch_of s) (touching-of s) grid (alike-by r) a b u
      ∙ ap (λ j. shown_path (touch_at j) (occupied t.occupancy) a b) (alike-kind r)

  pub floods-kind : (seed : Cell) → T (on_grid grid seed) → (depth : Depth) (budget : ℕ) → flood_of s seed depth budget ≡ flood_of t seed depth budget
  floods-kind seed u depth budget =
      isolation-kind.floods seed u depth budget
      ∙ ap (λ j. flood (touch_at j) t.occupancy seed depth budget) (alike-kind r)
