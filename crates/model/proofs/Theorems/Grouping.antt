-- Two occupied cells share an id exactly when a path of touching occupied cells joins them.
use Rattle.std.specs.Prelude.{ℕ, ◌≡◌, ◌↔◌, Bool, T}
use Rattle.std.proofs.Common.{sym, subst}
use mathlib.Core.List.{List, Memᴰ as Mem}
use Rattle.std.proofs.Math.Option.{some}
use Rattle.model.specs.Facts.{Ok}
use Rattle.model.specs.Cells.{Cell, Offsets, all26, holds_opposites, touch_by}
use Rattle.model.specs.Occupancy.{occupied}
use Rattle.model.specs.Paths.{Joined}
use Rattle.model.specs.Update.{State}
use Rattle.model.specs.Questions.{id_of}
use Rattle.model.specs.Consistent.{consistent_by}
use Rattle.model.specs.Runs.{ReachedBy}
use Rattle.model.proofs.Laws.Orders.{cells}
use Rattle.model.proofs.Laws.Tables.{at_mem, at_key, key-at}
use Rattle.model.proofs.Laws.Touching.{Touching, touching-by}
use Rattle.model.proofs.Laws.Consistency.{ok_out}
use Rattle.model.proofs.Theorems.StaysConsistent.{consistent-reached}

-- What the grouping of a state must be.
pub record Grouped (touch : Cell → Cell → Bool) (s : State) : Type 0 where
  -- each occupied cell has an id
  pub has-id : (a : Cell) → Mem a (occupied s.occupancy) → (g : ℕ) × (id_of s a ≡ some g)
  -- no other cell has one
  pub no_other : (a : Cell) (g : ℕ) → id_of s a ≡ some g → Mem a (occupied s.occupancy)
  -- two cells share an id exactly when a path of touching occupied cells joins them
  pub shared : (a b : Cell) (g h : ℕ) → id_of s a ≡ some g → id_of s b ≡ some h → (g ≡ h) ↔ Joined touch (occupied s.occupancy) a b

module _ (touch : Cell → Cell → Bool) (laws : Touching touch) where
  -- Every consistent state is grouped so.
  pub grouping-consistent : (s : State) → T (consistent_by touch s) → Grouped touch s
  grouping-consistent s t =
      record {
        has-id = λ a m. let d = key-at cells ids (subst (λ l. Mem a l) (sym ok.id-cells) m) in (d.0, d.1.is);
        no_other = λ a g e. subst (λ l. Mem a l) ok.id-cells (at_key cells ids (record { is = e }));
        shared = λ a b g h e f. subst (λ l. (g ≡ h) ↔ Joined touch l a b) ok.id-cells (ok.shared (a, g) (b, h) (at_mem cells ids (record { is = e })) (at_mem cells ids (record { is = f })));
      }
    where
      ok : Ok touch s
      ok = ok_out touch laws.flip s t

      ids : List (Cell × ℕ)
      ids = s.groups.ids

  -- After every history of accepted batches from a fresh state.
  pub grouping : {s : State} → ReachedBy touch s → Grouped touch s
  grouping {s} r = grouping-consistent s (consistent-reached touch laws r)

-- For every set of offsets that holds the opposite of each of its members.
pub grouping-by : (offsets : Offsets) → T (holds_opposites offsets) → {s : State} → ReachedBy (touch_by offsets) s → Grouped (touch_by offsets) s
grouping-by offsets ok = grouping (touch_by offsets) (touching-by offsets ok)

-- For all 26.
pub grouping-26 : {s : State} → ReachedBy (touch_by all26) s → Grouped (touch_by all26) s
grouping-26 = grouping-by all26 tt
