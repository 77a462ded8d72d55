-- A flood gives exactly the joined cells within the depth, the seed first, cut by the budget.
use Rattle.std.specs.Prelude.{ℕ, ◌≤◌, ◌≡◌, refl, ◌↔◌, Bool, true, T, leb, length, take, drop}
use Rattle.std.proofs.Common.{arith, sym, ◌∙◌, ap, subst, leb→le, le→leb, take-append-drop, length-take, take_all}
use mathlib.Core.List.{List, [], ◌∷◌, ◌++◌, Memᴰ as Mem}
use Rattle.std.proofs.Math.Option.{none}
use Rattle.std.proofs.Math.Dec.{leb-zero}
use Rattle.std.proofs.Math.Seq.{take-nil}
use Rattle.model.specs.Cells.{Cell}
use Rattle.model.specs.Occupancy.{Occupancy, occupied}
use Rattle.model.specs.Flood.{whole_flood, Depth, flood_cells, flood_within, flood}
use Rattle.model.specs.Paths.{Joined}
use Rattle.model.proofs.Laws.Tests.{true_of}
use Rattle.model.proofs.Laws.Members.{Once}
use Rattle.model.proofs.Laws.Prefixes.{once-prefix}
use Rattle.model.specs.Facts.{Sound}
use Rattle.model.proofs.Laws.Floods.{whole-none, whole-first, whole-once, whole_out, whole_in, whole-shorter, flood-cells-out, flood-cells-shorter, flood-cells-once}

-- A list is the whole flood of a seed: the seed comes first, no cell comes twice, and the cells that come are those that a path of
-- touching cells among the given ones joins to the seed.
pub record Whole (touch : Cell → Cell → Bool) (among : List Cell) (seed : Cell) (l : List Cell) : Type 0 where
  pub starts : (rest : List Cell) × (l ≡ seed ∷ rest)
  pub once : Once l
  pub joined : (a : Cell) → Mem a l ↔ Joined touch among seed a

-- Before the budget, the flood of a seed among the cells that it goes over gives exactly those joined to the seed through them, each
-- once, the seed first.
pub flood-exact : (touch : Cell → Cell → Bool) (o : Occupancy) → Sound touch o → (seed : Cell) (depth : Depth) → Mem seed (flood_cells depth seed (occupied o)) → Whole touch (flood_cells depth seed (occupied o)) seed (flood_within touch o seed depth)
flood-exact touch o ok seed depth h =
    record {
      starts = whole-first touch l once seed h;
      once = whole-once touch l once seed;
      joined = λ a. (λ m. (whole_out touch l once seed h m).1, λ w. whole_in touch l once seed h w);
    }
  where
    l : List Cell
    l = flood_cells depth seed (occupied o)

    once : Once l
    once = flood-cells-once touch o ok depth seed

-- A seed that is not among the cells that the flood goes over gives nothing, and that was all of it; an unoccupied seed is not.
pub flood-empty : (touch : Cell → Cell → Bool) (o : Occupancy) (seed : Cell) (depth : Depth) (budget : ℕ) → (Mem seed (flood_cells depth seed (occupied o)) → ⊥) → flood touch o seed depth budget ≡ record { cells = []; number = 0; was_all = true }
flood-empty touch o seed depth budget n =
    let z : flood_within touch o seed depth ≡ [] = whole-none touch (flood_cells depth seed (occupied o)) seed n in
    let e : take budget (flood_within touch o seed depth) ≡ [] = ap (take budget) z ∙ take-nil budget in
    let t : leb (length (flood_within touch o seed depth)) budget ≡ true = ap (λ l. leb (length l) budget) z ∙ leb-zero budget in
    λ i. record { cells = e i; number = length (e i); was_all = t i }

pub flood-nothing : (touch : Cell → Cell → Bool) (o : Occupancy) (seed : Cell) (depth : Depth) (budget : ℕ) → (Mem seed (occupied o) → ⊥) → flood touch o seed depth budget ≡ record { cells = []; number = 0; was_all = true }
flood-nothing touch o seed depth budget n = flood-empty touch o seed depth budget (λ m. n (flood-cells-out depth seed (occupied o) m))

-- With no depth and a budget of at least the number of occupied cells, a flood gives the whole flood over the occupied cells, and that was
-- all of it.
pub flood-whole : (touch : Cell → Cell → Bool) (o : Occupancy) → Sound touch o → (seed : Cell) (budget : ℕ) → length (occupied o) ≤ budget → flood touch o seed none budget ≡ record { cells = whole_flood touch (occupied o) seed; number = length (whole_flood touch (occupied o) seed); was_all = true }
flood-whole touch o ok seed budget h =
    let l : List Cell = whole_flood touch (occupied o) seed in
    let s : length l ≤ budget = omega (arith, whole-shorter touch (occupied o) (flood-cells-once touch o ok none seed) seed) in
    let e : take budget l ≡ l = take_all budget l s in
    let t : leb (length l) budget ≡ true = true_of _ (le→leb (length l) budget s) in
    λ i. record { cells = e i; number = length (e i); was_all = t i }

module _ (touch : Cell → Cell → Bool) (o : Occupancy) (seed : Cell) (depth : Depth) (budget : ℕ) where
  -- The number given is the number of cells given.
  pub flood-number : (flood touch o seed depth budget).number ≡ length (flood touch o seed depth budget).cells
  flood-number = refl

  -- No more cells are given than the budget.
  pub flood-budget : (flood touch o seed depth budget).number ≤ budget
  flood-budget = omega (arith, length-take budget (flood_within touch o seed depth))

  -- The cells given are the first of the flood within the depth.
  pub flood-prefix : (rest : List Cell) × ((flood touch o seed depth budget).cells ++ rest ≡ flood_within touch o seed depth)
  flood-prefix = (drop budget (flood_within touch o seed depth), take-append-drop budget (flood_within touch o seed depth))

  -- That was all of it exactly when the budget covers it.
  pub flood-all : T (flood touch o seed depth budget).was_all ↔ (length (flood_within touch o seed depth) ≤ budget)
  flood-all = (λ t. leb→le (length (flood_within touch o seed depth)) budget t, λ h. le→leb (length (flood_within touch o seed depth)) budget h)

  -- That was all of it exactly when the cells given are all of it.
  pub flood-all-cells : T (flood touch o seed depth budget).was_all ↔ ((flood touch o seed depth budget).cells ≡ flood_within touch o seed depth)
  flood-all-cells = (
    λ t. take_all budget (flood_within touch o seed depth) (flood-all.0 t),
    λ e. flood-all.1 (omega (arith, flood-budget, ap length e)),
  )

  -- No more cells are given than are occupied.
  pub flood-occupied : Sound touch o → (flood touch o seed depth budget).number ≤ length (occupied o)
  flood-occupied ok =
      omega (
        arith,
        length-take budget (flood_within touch o seed depth),
        whole-shorter touch (flood_cells depth seed (occupied o)) (flood-cells-once touch o ok depth seed) seed,
        flood-cells-shorter depth seed (occupied o),
      )

  -- No cell is given twice.
  pub flood-once : Sound touch o → Once (flood touch o seed depth budget).cells
  flood-once ok =
      once-prefix (flood touch o seed depth budget).cells flood-prefix.0
      (subst Once (sym flood-prefix.1) (whole-once touch (flood_cells depth seed (occupied o)) (flood-cells-once touch o ok depth seed) seed))
