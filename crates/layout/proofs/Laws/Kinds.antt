-- Which of the numbers 1 to 26 stand for a neighbour that touches at a kind.
use Prim.Native.Nat.{ℕ, suc, ◌-◌, ◌<◌}
use native.Mathlib.Omega.{arith}
use Rattle.std.specs.Prelude.{◌≡◌, true}
use Rattle.std.proofs.Math.Path.{sym, ap, subst}
use Rattle.std.proofs.Common.{◌∙◌}
use mathlib.Core.List.{Memᴰ as Mem}
use Rattle.std.proofs.Math.Dec.{T}
use Rattle.component.specs.declared.Cell.{Cell}
use Rattle.component.specs.Around.{place, neighbour_at}
use Rattle.component.specs.Adjacent.{has_room}
use Rattle.component.specs.Laws.Adjacent.{room-above}
use Rattle.component.specs.Touch.{touches}
use Rattle.model.specs.Cells.{Offset, offsets26, offsets_of, touch_by, touch_at, shift}
use Rattle.model.specs.Places.{offset_at}
use Rattle.model.proofs.Laws.Tests.{T_true, true_of, and-fst, same_test}
use Rattle.model.proofs.Laws.Members.{keep-in, each_in}
use Rattle.model.proofs.Laws.Touching.{AboveZero, step_of, leads-shift, neighbour-touches as shift-touches-by}
use Rattle.model.proofs.Laws.Kinds.{touch-kind}
use Rattle.model.proofs.Laws.Slots.{offset-is, offset-in, same_step}
use Rattle.layout.specs.Rows.{neighbour_of}
use Rattle.layout.proofs.Laws.Numbers.{neighbour-at}

-- Cells that touch at a kind touch.
pub kind-touches : (kind : ℕ) (c d : Cell) → touch_at kind c d ≡ true → touches c d ≡ true
kind-touches kind c d t = true_of (touches c d) (and-fst (touches c d) _ (T_true (sym (touch-kind kind c d) ∙ t)))

module _ (c : Cell) (room : has_room 1 c ≡ true) where
  -- The cell where the k-th offset leads is the k-th neighbour.
  pub shift-at : (k : ℕ) → k < 26 → shift c (offset_at k) ≡ neighbour_of c (suc k)
  unfolding place
  shift-at k h =
      let e : suc k - 1 ≡ k = omega arith in
      ap (shift c) (offset-is k h) ∙ ap (neighbour_at 1 c) (sym e) ∙ sym (neighbour-at c room (suc k) (omega arith) (omega arith))

  -- Such a cell has a cell before it on every axis.
  pub above : AboveZero c
  above = let a = room-above 1 c room in record { x = a.x; y = a.y; z = a.z }

  -- A neighbour touches exactly if its offset is of the kind.
  shift-touches : (kind : ℕ) (o : Offset) → Mem o offsets26 → touch_at kind c (shift c o) ≡ offsets_of kind o
  unfolding touch_at
  shift-touches kind o m =
      same_test (touch_by (offsets_of kind) c (shift c o)) (offsets_of kind o)
      (λ t. let r = step_of (offsets_of kind) c (shift c o) t in subst (λ p. T (offsets_of kind p)) (same_step c (shift c o) r.0 o r.3 (leads-shift c above o)) r.2)
      (λ t. shift-touches-by c above (offsets_of kind) (each_in (shift c) (keep-in (offsets_of kind) m t)))

  pub touch-near : (kind k : ℕ) → k < 26 → touch_at kind c (neighbour_of c (suc k)) ≡ offsets_of kind (offset_at k)
  touch-near kind k h = ap (touch_at kind c) (sym (shift-at k h)) ∙ shift-touches kind (offset_at k) (offset-in k h)
