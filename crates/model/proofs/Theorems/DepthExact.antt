-- A depth is a distance: a flood visits exactly the cells that paths within the depth reach.
use Rattle.std.specs.Prelude.{ℕ, ◌+◌, ◌≤◌, ◌<◌, ◌≡◌, ◌↔◌, Bool, true, ◌&&◌, T, leb}
use Rattle.std.proofs.Common.{arith, ap, subst, ⊎_elim, leb→le, le→leb}
use mathlib.Core.List.Memᴰ.{not-nil as mem-nil}
use mathlib.Core.List.{List, [], ◌∷◌, Memᴰ as Mem}
use Rattle.std.proofs.Math.Option.{none, some}
use Rattle.model.specs.Lists.{keep}
use Rattle.model.specs.Cells.{Cell, bias}
use Rattle.model.specs.Occupancy.{Occupancy, occupied}
use Rattle.model.specs.Flood.{whole_flood, near_on, within_depth, flood_within, flood}
use Rattle.model.specs.Paths.{Path}
use Rattle.model.proofs.Laws.Tests.{and-fst, and-snd, and_both}
use Rattle.model.proofs.Laws.Orders.{cells}
use Rattle.model.proofs.Laws.Members.{keep-in, keep_out, keep_all, mem-or}
use Rattle.model.proofs.Laws.Walks.{first, wider}
use Rattle.model.proofs.Laws.Leading.{last}
use Rattle.model.proofs.Laws.Prefixes.{take_out}
use Rattle.model.specs.Facts.{Sound}
use Rattle.model.proofs.Laws.Floods.{whole-none}
use Rattle.model.proofs.Theorems.FloodExact.{flood-exact, flood-empty}

-- Two coordinates are near exactly if neither is above the other by more than the depth.
near-means : (d m n : ℕ) → T (near_on d m n) ↔ ((m + bias ≤ n + d) × (n + bias ≤ m + d))
near-means d m n = (
  λ t. (leb→le (m + bias) (n + d) (and-fst (leb (m + bias) (n + d)) _ t), leb→le (n + bias) (m + d) (and-snd (leb (m + bias) (n + d)) _ t)),
  λ h. and_both (leb (m + bias) (n + d)) _ (le→leb (m + bias) (n + d) h.0) (le→leb (n + bias) (m + d) h.1),
)

-- How far a cell is from the seed on each axis, either sign; a depth is kept as d + 2^31.
pub record Near (d : ℕ) (seed c : Cell) : Type 0 where
  pub x-up : c.x + bias ≤ seed.x + d
  pub x-down : seed.x + bias ≤ c.x + d
  pub y-up : c.y + bias ≤ seed.y + d
  pub y-down : seed.y + bias ≤ c.y + d
  pub z-up : c.z + bias ≤ seed.z + d
  pub z-down : seed.z + bias ≤ c.z + d

-- A cell is within the depth exactly if on each axis it is at most d from the seed, either sign.
pub depth-two-sided : (d : ℕ) (seed c : Cell) → T (within_depth d seed c) ↔ Near d seed c
depth-two-sided d seed c = (
  λ t.
      let r : T (near_on d seed.y c.y && near_on d seed.z c.z) = and-snd (near_on d seed.x c.x) _ t in
      let x = (near-means d seed.x c.x).0 (and-fst (near_on d seed.x c.x) _ t) in
      let y = (near-means d seed.y c.y).0 (and-fst (near_on d seed.y c.y) _ r) in
      let z = (near-means d seed.z c.z).0 (and-snd (near_on d seed.y c.y) _ r) in
      record { x-up = x.1; x-down = x.0; y-up = y.1; y-down = y.0; z-up = z.1; z-down = z.0 },
  λ h.
      and_both (near_on d seed.x c.x) _ ((near-means d seed.x c.x).1 (h.x-down, h.x-up))
      (and_both (near_on d seed.y c.y) _ ((near-means d seed.y c.y).1 (h.y-down, h.y-up)) ((near-means d seed.z c.z).1 (h.z-down, h.z-up))),
)

module _ (d : ℕ) (seed : Cell) where
  -- The seed is within each depth that is not negative, and no cell within one that is.
  pub seed-within : bias ≤ d → T (within_depth d seed seed)
  seed-within h = (depth-two-sided d seed seed).1 (record { x-up = omega arith; x-down = omega arith; y-up = omega arith; y-down = omega arith; z-up = omega arith; z-down = omega arith })

  pub none_within : d < bias → (c : Cell) → T (within_depth d seed c) → ⊥
  none_within h c t = let r : Near d seed c = (depth-two-sided d seed c).0 t in omega (arith, r.x-up, r.x-down)

module _ (touch : Cell → Cell → Bool) (o : Occupancy) (seed : Cell) (d : ℕ) where
  -- A flood with a depth visits exactly the cells reached by a path of touching occupied cells that all lie within the depth of the seed.
  pub depth-exact : Sound touch o → (a : Cell) → Mem a (flood_within touch o seed (some d)) ↔ Path touch (λ c. Mem c (occupied o) × T (within_depth d seed c)) seed a
  depth-exact ok a = (
    λ m.
        ⊎_elim (λ h. wider touch (λ x k. keep_out (within_depth d seed) (occupied o) k) (((flood-exact touch o ok seed (some d) h).joined a).0 m))
        (λ n. absurd (mem-nil (subst (λ l. Mem a l) (whole-none touch (keep (within_depth d seed) (occupied o)) seed n) m))) (mem-or cells seed (keep (within_depth d seed) (occupied o))),
    λ w.
        let k = first touch w in
        ((flood-exact touch o ok seed (some d) (keep-in (within_depth d seed) k.0 k.1)).joined a).1 (wider touch (λ x k. keep-in (within_depth d seed) k.0 k.1) w),
  )

  -- With a depth that is not negative an occupied seed comes first.
  pub depth-first : Sound touch o → bias ≤ d → Mem seed (occupied o) → (rest : List Cell) × (flood_within touch o seed (some d) ≡ seed ∷ rest)
  depth-first ok h m = (flood-exact touch o ok seed (some d) (keep-in (within_depth d seed) m (seed-within d seed h))).starts

  -- A negative depth gives nothing, and that was all of it.
  pub depth-negative : d < bias → (budget : ℕ) → flood touch o seed (some d) budget ≡ record { cells = []; number = 0; was_all = true }
  depth-negative h budget = flood-empty touch o seed (some d) budget (λ m. none_within d seed h seed (keep_out (within_depth d seed) (occupied o) m).1)

  -- A depth that all occupied cells lie within is no depth.
  pub depth-wide : ((a : Cell) → Mem a (occupied o) → T (within_depth d seed a)) → flood_within touch o seed (some d) ≡ flood_within touch o seed none
  depth-wide f = ap (λ l. whole_flood touch l seed) (keep_all (within_depth d seed) (occupied o) f)

  -- Every cell given under a depth is within it.
  pub flood-near : Sound touch o → (budget : ℕ) {a : Cell} → Mem a (flood touch o seed (some d) budget).cells → T (within_depth d seed a)
  flood-near ok budget {a} m = (last touch ((depth-exact ok a).0 (take_out budget (flood_within touch o seed (some d)) m))).1
