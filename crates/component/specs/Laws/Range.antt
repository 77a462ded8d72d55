-- A stored cell is in range exactly where each axis is, and where its coordinates are.
use Rattle.std.specs.Prelude.{◌≡◌, ℕ, suc, ◌+◌, ◌-◌, Bool, true, false, ◌&&◌, ◌⊎◌, ℤ, pos, negsuc, nat_le, refl}
use Rattle.std.proofs.Common.{arith, ap, inl, inr, ⊎_elim, leb-true, leb-false, le-leb}
use Rattle.component.specs.Coord.{axis_in, coord_in_range}
use Rattle.component.specs.Range.{axis_in_range, cell_in_range, AxisIn, AxisOut, InRange}
use Rattle.component.specs.Stored.{biased, stored, Small}
use Rattle.component.specs.Laws.Tests.{both, not-and, leb-same}
use Rattle.component.specs.declared.Cell.{Cell}
use Rattle.component.specs.declared.CellId.{CellId}

axis-in : (n : ℕ) → axis_in_range n ≡ true → AxisIn n
axis-in n e = let p = both (nat_le 1147483648 n) (nat_le n 3147483648) e in (leb-true 1147483648 n p.0, leb-true n 3147483648 p.1)

in-axis : (n : ℕ) → AxisIn n → axis_in_range n ≡ true
in-axis n h = simp (le-leb 1147483648 n h.0, le-leb n 3147483648 h.1)

axis-out : (n : ℕ) → axis_in_range n ≡ false → AxisOut n
axis-out n e =
    ⊎_elim (λ p. inl (leb-false 1147483648 n p)) (λ q. inr (leb-false n 3147483648 q)) (not-and (nat_le 1147483648 n) (nat_le n 3147483648) e)

-- A cell that is in range is so on each axis.
pub in-range-axes : (c : Cell) → cell_in_range c ≡ true → InRange c
in-range-axes c e =
    let p = both (axis_in_range c.x) (axis_in_range c.y && axis_in_range c.z) e in
    let q = both (axis_in_range c.y) (axis_in_range c.z) p.1 in
    record { x = axis-in c.x p.0; y = axis-in c.y q.0; z = axis-in c.z q.1 }

-- A cell whose axes are in range is in range.
pub axes-in-range : (c : Cell) → InRange c → cell_in_range c ≡ true
axes-in-range c h = simp (in-axis c.x h.x, in-axis c.y h.y, in-axis c.z h.z)

-- A cell that is not in range is out on some axis.
pub out-of-range-axis : (c : Cell) → cell_in_range c ≡ false → AxisOut c.x ⊎ (AxisOut c.y ⊎ AxisOut c.z)
out-of-range-axis c e =
    ⊎_elim (λ p. inl (axis-out c.x p))
    (λ q. inr (⊎_elim (λ p. inl (axis-out c.y p)) (λ p. inr (axis-out c.z p)) (not-and (axis_in_range c.y) (axis_in_range c.z) q)))
    (not-and (axis_in_range c.x) (axis_in_range c.y && axis_in_range c.z) e)

out : (n : ℕ) → AxisIn n → AxisOut n → ⊥
out n h k = ⊎_elim (λ p. omega arith) (λ p. omega arith) k

-- A cell that is out on some axis is not in range.
pub axis-out-of-range : (c : Cell) → AxisOut c.x ⊎ (AxisOut c.y ⊎ AxisOut c.z) → cell_in_range c ≡ false
axis-out-of-range c h = tested (cell_in_range c) refl
  where
    clash : InRange c → ⊥
    clash k =
        ⊎_elim (λ p. out c.x k.x p) (λ q. ⊎_elim (λ p. out c.y k.y p) (λ p. out c.z k.z p) q) h

    tested : (t : Bool) → cell_in_range c ≡ t → t ≡ false
    tested true e = absurd (clash (in-range-axes c e))
    tested false e = refl

-- A stored coordinate in range is below 2^32.
pub in-range-small : (c : Cell) → cell_in_range c ≡ true → Small c
in-range-small c e = let h = in-range-axes c e in record { z = omega arith; y = omega arith; x = omega arith }

axis-stored : (n : ℤ) → axis_in n ≡ axis_in_range (biased n)
axis-stored (pos n) =
    rw (le-leb 1147483648 (n + 2147483648) (omega arith))
    (leb-same n 1000000000 (n + 2147483648) 3147483648 (λ p. omega arith) (λ p. omega arith))
axis-stored (negsuc n) =
    rw (le-leb (2147483648 - suc n) 3147483648 (omega arith))
    (ap (λ (t : Bool). t && true) (leb-same n 999999999 1147483648 (2147483648 - suc n) (λ p. omega arith) (λ p. omega arith)))

-- The signed test of a cell's coordinates is the stored test of its stored form.
pub range-of-stored : (c : CellId) → coord_in_range c.coord ≡ cell_in_range (stored c)
range-of-stored c = λ i. axis-stored c.coord.x i && (axis-stored c.coord.y i && axis-stored c.coord.z i)
