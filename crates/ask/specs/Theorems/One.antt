-- For each question: any two answers that its promise allows are equal.
use Rattle.std.specs.Prelude.{ℕ, ◌≡◌, Bool, List, ℤ, Result, Option}
use Rattle.component.specs.declared.CellId.{CellId}
use Rattle.told.specs.Told.{Told}
use Rattle.told.specs.Laws.One.{one_answer, one_told, one-filled}
use Rattle.refusal.specs.declared.Refusal.{Refusal}
use Rattle.told.specs.Told.{told_of, found_told}
use Rattle.told.specs.Laws.Back.{told_back, told-back, found_back, found-back}
use Rattle.lookups.specs.declared.Shown.{Shown}
use Rattle.lookups.specs.Told.{corners_of}
use Rattle.lists.specs.declared.Listed.{Listed}
use Rattle.lists.specs.Told.{listing_told}
use Rattle.lists.proofs.Laws.Back.{listing_back, listing-back}
use Rattle.floods.specs.declared.Visited.{Visited}
use Rattle.floods.specs.declared.Flooded.{Flooded}
use Rattle.floods.specs.Told.{Depth, flooding_told}
use Rattle.floods.specs.Laws.Back.{flooding_back, flooding-back}
use Rattle.ask.specs.Answers.{kind_of, where_of, id_of, count_of, group_of, ids_of, occupied_of, emptied_of, entities_of, nearby_of, cube_of, flood_of, path_of}

module _ (w : List ℕ) where
  pub kind-one : (r s : Result ℕ Refusal) → told_of r ≡ kind_of w → told_of s ≡ kind_of w → r ≡ s
  kind-one r s = one_told told_of told_back told-back r s (kind_of w)

  pub where-one : (e : ℕ) (r s : Result (Option CellId) Refusal) → found_told r ≡ where_of w e → found_told s ≡ where_of w e → r ≡ s
  where-one e r s = one_told found_told found_back found-back r s (where_of w e)

  pub id-one : (c : CellId) (r s : Result (Option ℕ) Refusal) → found_told r ≡ id_of w c → found_told s ≡ id_of w c → r ≡ s
  id-one c r s = one_told found_told found_back found-back r s (id_of w c)

  pub count-one : (c : CellId) (r s : Result (Option ℕ) Refusal) → found_told r ≡ count_of w c → found_told s ≡ count_of w c → r ≡ s
  count-one c r s = one_told found_told found_back found-back r s (count_of w c)

  pub group-one : (g : ℕ) (r s : Result (Option Shown) Refusal) → found_told r ≡ group_of w g → found_told s ≡ group_of w g → r ≡ s
  group-one g r s = one_told found_told found_back found-back r s (group_of w g)

pub corners-one : (g : Shown) (r s : List (List ℤ)) → r ≡ corners_of g → s ≡ corners_of g → r ≡ s
corners-one g r s = one_answer r s (corners_of g)

-- A list with its slice is such an answer.
abbrev pub Allowed : Result Listed Refusal × List ℕ → Told (Bool × ℕ) × List ℕ → Type 0
Allowed r t = ◌≡◌ {A = Told (Bool × ℕ) × List ℕ} (listing_told r.0, r.1) t

-- Two lists of which the same is told are equal.
list-one : (t : Told (Bool × ℕ) × List ℕ) (r s : Result Listed Refusal × List ℕ) → Allowed r t → Allowed s t → r ≡ s
list-one t r s = one-filled listing_told listing_back listing-back r s t

module _ (w answer : List ℕ) (r s : Result Listed Refusal × List ℕ) where
  pub ids-one : Allowed r (ids_of w answer) → Allowed s (ids_of w answer) → r ≡ s
  ids-one = list-one (ids_of w answer) r s

  pub occupied-one : Allowed r (occupied_of w answer) → Allowed s (occupied_of w answer) → r ≡ s
  occupied-one = list-one (occupied_of w answer) r s

  pub emptied-one : Allowed r (emptied_of w answer) → Allowed s (emptied_of w answer) → r ≡ s
  emptied-one = list-one (emptied_of w answer) r s

  pub entities-one : (c : CellId) → Allowed r (entities_of w c answer) → Allowed s (entities_of w c answer) → r ≡ s
  entities-one c = list-one (entities_of w c answer) r s

  pub nearby-one : (c : CellId) → Allowed r (nearby_of w c answer) → Allowed s (nearby_of w c answer) → r ≡ s
  nearby-one c = list-one (nearby_of w c answer) r s

  pub cube-one : (c : CellId) (n : ℕ) → Allowed r (cube_of w c n answer) → Allowed s (cube_of w c n answer) → r ≡ s
  cube-one c n = list-one (cube_of w c n answer) r s

  pub path-one : (a b : CellId) → Allowed r (path_of w a b answer) → Allowed s (path_of w a b answer) → r ≡ s
  path-one a b = list-one (path_of w a b answer) r s

module _ (w : List ℕ) (c : CellId) (depth : Depth) (budget : ℕ) (answer : List ℕ) (r s : Result Flooded Refusal × List ℕ) where
  pub flood-one : ◌≡◌ {A = Told (Bool × Visited) × List ℕ} (flooding_told r.0, r.1) (flood_of w c depth budget answer)
      → ◌≡◌ {A = Told (Bool × Visited) × List ℕ} (flooding_told s.0, s.1) (flood_of w c depth budget answer) → r ≡ s
  flood-one = one-filled flooding_told flooding_back flooding-back r s (flood_of w c depth budget answer)
