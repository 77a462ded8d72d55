-- The smaller and the larger of two stored cells are the stored forms of the smaller and the larger of two coordinates.
use Rattle.std.specs.Prelude.{◌≡◌, ◌<◌, min, max, Bool, true, false, cond, ℤ, nat_lt, refl}
use Rattle.std.proofs.Common.{arith, ap, ◌∙◌, ltb-true, ltb-false}
use Rattle.std.specs.Int.Signed.{mag}
use Rattle.component.specs.Coord.{min_z, max_z, by_axis}
use Rattle.component.specs.Stored.{biased, stored_by_axis, stored, Holds}
use Rattle.component.specs.Laws.Stored.{signed-order}
use Rattle.component.specs.declared.CellId.{CellId}

axis-min : (m n : ℤ) → mag m < 2147483648 → mag n < 2147483648 → biased (min_z m n) ≡ min (biased m) (biased n)
unfolding min_z
axis-min m n h k = ap (λ (t : Bool). biased (cond t n m)) (signed-order n m k h) ∙ taken (nat_lt (biased n) (biased m)) refl
  where
    taken : (t : Bool) → nat_lt (biased n) (biased m) ≡ t → biased (cond t n m) ≡ min (biased m) (biased n)
    taken true e = let p = ltb-true (biased n) (biased m) e in omega arith
    taken false e = let p = ltb-false (biased n) (biased m) e in omega arith

axis-max : (m n : ℤ) → mag m < 2147483648 → mag n < 2147483648 → biased (max_z m n) ≡ max (biased m) (biased n)
unfolding max_z
axis-max m n h k = ap (λ (t : Bool). biased (cond t n m)) (signed-order m n h k) ∙ taken (nat_lt (biased m) (biased n)) refl
  where
    taken : (t : Bool) → nat_lt (biased m) (biased n) ≡ t → biased (cond t n m) ≡ max (biased m) (biased n)
    taken true e = let p = ltb-true (biased m) (biased n) e in omega arith
    taken false e = let p = ltb-false (biased m) (biased n) e in omega arith

-- `Cell::min` is `CellCoord::min` in stored form.
pub stored-min : (a b : CellId) → Holds a → Holds b → stored (record { grid = a.grid; coord = by_axis min_z a.coord b.coord }) ≡ stored_by_axis min (stored a) (stored b)
stored-min a b h k =
    let z = axis-min a.coord.z b.coord.z h.z k.z in
    let y = axis-min a.coord.y b.coord.y h.y k.y in
    let x = axis-min a.coord.x b.coord.x h.x k.x in
    λ i. record { grid = a.grid; z = z i; y = y i; x = x i }

-- `Cell::max` is `CellCoord::max` in stored form.
pub stored-max : (a b : CellId) → Holds a → Holds b → stored (record { grid = a.grid; coord = by_axis max_z a.coord b.coord }) ≡ stored_by_axis max (stored a) (stored b)
stored-max a b h k =
    let z = axis-max a.coord.z b.coord.z h.z k.z in
    let y = axis-max a.coord.y b.coord.y h.y k.y in
    let x = axis-max a.coord.x b.coord.x h.x k.x in
    λ i. record { grid = a.grid; z = z i; y = y i; x = x i }
