-- 4 tells one move and one axis, and no other answer would do: the first move that goes out of range, and its first axis that does.
use Rattle.std.specs.Prelude.{ℕ, zero, suc, ◌+◌, ◌<◌, ◌≡◌, refl, Bool, true, false, cond, List, [], ◌∷◌, get_or}
use Rattle.std.proofs.Common.{arith, subst}
use Rattle.component.specs.First.{FirstAt}
use Rattle.component.specs.Range.{axis_in_range, stored_bad_axis}
use Rattle.component.specs.Theorems.{stored-bad-axis-first, first_one}
use Rattle.refusal.specs.Forms.{Refused}
use Rattle.refusal.specs.Forms.{out_of_range}
use Rattle.model.specs.Lists.{each}
use Rattle.model.specs.Cells.{Cell}
use Rattle.batch.specs.Places.{ranged, first_out}

-- Whether each axis of a move is in range: x, y, z.
abbrev pub axes_in : ℕ × Cell → List Bool
axes_in m = axis_in_range m.1.x ∷ axis_in_range m.1.y ∷ axis_in_range m.1.z ∷ []

-- The move at a position goes out of range and every move before it is in range; so is every axis of it before this one, which is not.
pub record BadMove (at axis : ℕ) (moves : List (ℕ × Cell)) : Type 0 where
  pub move : FirstAt at (each ranged moves)
  pub on : FirstAt axis (get_or (each axes_in moves) at [])

-- A refusal tells the first bad move, the first of the moves being at position n.
abbrev Found : ℕ → Refused → List (ℕ × Cell) → Type 0
Found n r ms = (p : ℕ) × (r.at ≡ n + p) × BadMove p r.axis ms

found : (n : ℕ) (ms : List (ℕ × Cell)) → (first_out n ms).number ≡ 4 → Found n (first_out n ms) ms
found n [] e = absurd (omega arith)
found n (m ∷ ms) e = go (ranged m) refl (found (suc n) ms) e
  where
    behind : (p : ℕ) → ranged m ≡ true → FirstAt p (each ranged ms) → (q : ℕ) → q < suc p → get_or (ranged m ∷ each ranged ms) q true ≡ true
    behind p e f zero h = e
    behind p e f (suc q) h = f.before q (omega arith)

    go : (t : Bool) → ranged m ≡ t → ((first_out (suc n) ms).number ≡ 4 → Found (suc n) (first_out (suc n) ms) ms)
        → (cond t (first_out (suc n) ms) (out_of_range n (stored_bad_axis m.1))).number ≡ 4
        → Found n (cond t (first_out (suc n) ms) (out_of_range n (stored_bad_axis m.1))) (m ∷ ms)
    go true e rest h =
        let f = rest h in
        let k : (first_out (suc n) ms).at ≡ n + suc f.0 = omega (arith, f.1) in
        (suc f.0, k, record { move = record { fails = f.2.move.fails; before = behind f.0 e f.2.move }; on = f.2.on })
    go false e rest h =
        let k : n ≡ n + 0 = omega arith in
        (0, k, record { move = record { fails = e; before = λ q l. absurd (omega arith) }; on = stored-bad-axis-first m.1 e })

-- The move and the axis that 4 tells are bad, and the first.
pub first-out-bad : (ms : List (ℕ × Cell)) → (first_out 0 ms).number ≡ 4 → BadMove (first_out 0 ms).at (first_out 0 ms).axis ms
first-out-bad ms e =
    let f = found 0 ms e in
    let k : f.0 ≡ (first_out 0 ms).at = omega (arith, f.1) in
    subst (λ (p : ℕ). BadMove p (first_out 0 ms).axis ms) k f.2

-- Of no other move and axis is this so.
pub bad-move-one : (ms : List (ℕ × Cell)) (p q x y : ℕ) → BadMove p x ms → BadMove q y ms → (p ≡ q) × (x ≡ y)
bad-move-one ms p q x y f g =
    let e = first_one p q (each ranged ms) f.move g.move in
    (e, first_one x y (get_or (each axes_in ms) q []) (subst (λ (k : ℕ). FirstAt x (get_or (each axes_in ms) k [])) e f.on) g.on)
