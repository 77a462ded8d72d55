-- Net lists, masks, floods and corners after every history of accepted batches.
use Rattle.std.specs.Prelude.{ℕ, ◌≡◌, ◌↔◌, Bool, T}
use Rattle.std.proofs.Common.{sym}
use Rattle.std.proofs.Math.Path.{subst}
use mathlib.Core.List.{Memᴰ as Mem}
use Rattle.std.proofs.Math.Option.{some}
use Rattle.model.specs.Facts.{Ok}
use Rattle.model.specs.Cells.{Cell, touch26}
use Rattle.model.specs.Occupancy.{Batch, occupied}
use Rattle.model.specs.Masks.{masked}
use Rattle.model.specs.Flood.{Depth, within_depth, flood_cells, flood_within}
use Rattle.model.specs.Paths.{Path}
use Rattle.model.specs.Groups.{Group, members}
use Rattle.model.specs.Update.{State, accepted_by, update_by}
use Rattle.model.specs.Questions.{id_of, group_by}
use Rattle.model.specs.Consistent.{consistent_by}
use Rattle.model.specs.Runs.{ReachedBy}
use Rattle.model.proofs.Laws.Touching.{Touching, touching-26}
use Rattle.model.proofs.Laws.Accepted.{update-accepted}
use Rattle.model.proofs.Laws.Consistency.{ok_out}
use Rattle.model.proofs.Theorems.NetExact.{Since, net-exact}
use Rattle.model.proofs.Theorems.FloodExact.{Whole, flood-exact}
use Rattle.model.proofs.Theorems.DepthExact.{depth-exact}
use Rattle.model.proofs.Theorems.CornersExact.{Shows, corners-exact}
use Rattle.model.proofs.Theorems.StaysConsistent.{consistent-reached}

module _ (touch : Cell → Cell → Bool) (laws : Touching touch) {s : State} (r : ReachedBy touch s) where
  reached-consistent : T (consistent_by touch s)
  reached-consistent = consistent-reached touch laws r

  reached-ok : Ok touch s
  reached-ok = ok_out touch laws.flip s reached-consistent

  -- The net lists of the next accepted batch are the difference that it makes.
  pub net-reached : (b : Batch) → (update_by touch s b).0 ≡ 0 → Since s.occupancy (update_by touch s b).1.occupancy
  unfolding accepted_by
  net-reached b e =
      subst (λ (u : State). Since s.occupancy u.occupancy) (sym (update-accepted touch s b e).1)
      (net-exact touch b s.occupancy reached-ok.sound)

  -- Each mask has exactly the bits of touching occupied cells.
  pub masks-reached : s.occupancy.masks ≡ masked touch (occupied s.occupancy)
  masks-reached = reached-ok.sound.exact

  -- A flood visits exactly the cells joined to its seed through the cells that it goes over, each once.
  pub flood-reached : (seed : Cell) (depth : Depth) → Mem seed (flood_cells depth seed (occupied s.occupancy)) → Whole touch (flood_cells depth seed (occupied s.occupancy)) seed (flood_within touch s.occupancy seed depth)
  flood-reached = flood-exact touch s.occupancy reached-ok.sound

  -- With a depth those are the cells reached by a path of touching occupied cells that all lie within it.
  pub depth-reached : (seed : Cell) (d : ℕ) (a : Cell) → Mem a (flood_within touch s.occupancy seed (some d)) ↔ Path touch (λ c. Mem c (occupied s.occupancy) × T (within_depth d seed c)) seed a
  depth-reached seed d = depth-exact touch s.occupancy seed d reached-ok.sound

  -- The group of an id that a cell has shows exactly the cells with that id.
  pub corners-reached : (a : Cell) (g : ℕ) → id_of s a ≡ some g → (k : Group) × (group_by s g ≡ some k) × Shows (members s.groups.ids g) k
  corners-reached = corners-exact touch laws s reached-consistent

-- For all 26.
module _ {s : State} (r : ReachedBy touch26 s) where
  pub net-26 : (b : Batch) → (update_by touch26 s b).0 ≡ 0 → Since s.occupancy (update_by touch26 s b).1.occupancy
  net-26 = net-reached touch26 touching-26 r

  pub masks-26 : s.occupancy.masks ≡ masked touch26 (occupied s.occupancy)
  masks-26 = masks-reached touch26 touching-26 r

  pub flood-26 : (seed : Cell) (depth : Depth) → Mem seed (flood_cells depth seed (occupied s.occupancy)) → Whole touch26 (flood_cells depth seed (occupied s.occupancy)) seed (flood_within touch26 s.occupancy seed depth)
  flood-26 = flood-reached touch26 touching-26 r

  pub depth-26 : (seed : Cell) (d : ℕ) (a : Cell) → Mem a (flood_within touch26 s.occupancy seed (some d)) ↔ Path touch26 (λ c. Mem c (occupied s.occupancy) × T (within_depth d seed c)) seed a
  depth-26 = depth-reached touch26 touching-26 r

  pub corners-26 : (a : Cell) (g : ℕ) → id_of s a ≡ some g → (k : Group) × (group_by s g ≡ some k) × Shows (members s.groups.ids g) k
  corners-26 = corners-reached touch26 touching-26 r
