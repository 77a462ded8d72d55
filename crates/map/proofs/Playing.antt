-- What a removal or a move comes to, by where the entity stands.
use Prim.Native.Nat.{ℕ}
use native.Mathlib.Omega.{arith}
use mathlib.Core.Path.{◌≡◌, refl, sym, ap, ◌∙◌}
use mathlib.Core.Bool.{Bool, true, false, cond}
use mathlib.Core.List.{List, [], ◌∷◌, ◌++◌}
use mathlib.Core.Option.{Option, none, some}
use lib.Dec.{eqb}
use Rattle.model.specs.Lists.{get, run}
use Rattle.model.specs.Cells.{Cell, same, cell_in_range, touch_at}
use Rattle.model.specs.Occupancy.{Occupancy, leaves_from, is_at, enters, pass, enter, leave}
use Rattle.model.proofs.Laws.Tests.{T_true}
use Rattle.model.proofs.Laws.Orders.{numbers}
use Rattle.table.specs.Rows.{cell_words, table1}
use Rattle.layout.specs.Widths.{entity_width}
use Rattle.map.specs.declared.Counts.{Counts}
use Rattle.std.specs.declared.option.Option.{Option as Maybe}
use Rattle.std.specs.declared.option.Option.TheVariants.{Some}
use Rattle.map.specs.StandOf.{stand_of, stand_in}
use Rattle.map.specs.Held.{Held, Leaves, Moves, RoomToEnter, RoomToLeave, move_of}
use Rattle.map.specs.Laws.Each.{under, get-each}
use Rattle.map.proofs.Moving.{ents-shows}

-- What a lookup of words finds is what a lookup of the entities finds.
found-where : (k : ℕ) (m : Option Cell) → stand_of (under (λ (e : ℕ) (c : Cell). cell_words c) k m) ≡ stand_in m
found-where k none = refl
found-where k (some c) = refl

-- An entity that is found stands there.
pub stands_at : (m : Option Cell) {s : Maybe Cell} {d : Cell} → s ≡ Some d → s ≡ stand_in m → m ≡ some d
stands_at none p q = let z : ◌≡◌ {A = ℕ} 0 1 = cc in absurd (omega arith)
stands_at (some c) p q = cc

module _ {kind : ℕ} {ents cells crowd occ emp : List ℕ} {n : Counts} {o : Occupancy} (h : Held kind ents cells crowd occ emp n o) (e : ℕ) where
  -- A lookup of the row of an entity tells where it stands.
  pub where-is : stand_of (get eqb (table1 entity_width n.entities ents) e) ≡ stand_in (get eqb o.entities e)
  where-is =
      ap (λ (t : List (ℕ × List ℕ)). stand_of (get eqb t e)) (ents-shows h).is
      ∙ ap stand_of (get-each (λ (e : ℕ) (c : Cell). cell_words c) eqb (λ a b t. numbers.same-eq a b (T_true t)) o.entities e)
      ∙ found-where e (get eqb o.entities e)

module _ (kind : ℕ) (o : Occupancy) (e : ℕ) where
  abbrev move_by : Cell → Bool → Option Cell → Occupancy
  move_by c b m = run (pass (touch_at kind)) o (cond b [] (leaves_from e m ++ (enters e c ∷ [])))

  module _ (c : Cell) where
    -- A move from d.
    pub move-known : {d : Cell} → get eqb o.entities e ≡ some d → same c d ≡ false → enter (touch_at kind) e c (leave (touch_at kind) e d o) ≡ move_of kind e c o
    move-known {d} p t = (λ i. move_by c (sym t i) (some d)) ∙ (λ i. move_by c (is_at (sym p i) c) (sym p i))

module _ {kind : ℕ} {ents cells crowd occ emp : List ℕ} {n : Counts} {o : Occupancy} (h : Held kind ents cells crowd occ emp n o) {e : ℕ} where
  -- An entity that stands in d can leave it.
  pub can-leave : {d : Cell} → get eqb o.entities e ≡ some d → RoomToLeave emp n → Leaves kind ents cells crowd occ emp n e d o
  can-leave p r = record { held = h; stands = record { is = p }; space = r }

  module _ {c : Cell} (t : cell_in_range c ≡ true) (r : RoomToEnter ents cells crowd occ n) where
    -- An entity that stands in d can move.
    pub can-move : {d : Cell} → get eqb o.entities e ≡ some d → RoomToLeave emp n → Moves kind ents cells crowd occ emp n e d c o
    can-move p l = record { leaving = can-leave p l; ranged = t; space = r }
