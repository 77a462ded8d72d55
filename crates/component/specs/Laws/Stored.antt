-- The stored form keeps the signed order, and each form gives the other back.
use Rattle.std.specs.Prelude.{◌≡◌, ℕ, suc, ◌+◌, ◌-◌, ◌%◌, ◌<◌, ◌≤◌, Bool, cond, T, ℤ, pos, negsuc, ◌+ℤ◌, int_lt, nat_lt, refl}
use Rattle.std.proofs.Common.{arith, mod-eq_of_lt, sym, ◌∙◌, ap, ⊎_elim, lt-ltb, le-ltb}
use Rattle.std.proofs.Math.IntN.{sub_ℕ}
use Rattle.std.specs.Int.Signed.{mag}
use Rattle.component.specs.Order.{same}
use Rattle.component.specs.Laws.Order.{same-eq}
use Rattle.component.specs.Stored.{bias_by, biased, unbiased, stored, cell_id, Holds, Small}
use Rattle.component.specs.Laws.Tests.{le-or-lt, ltb-same}
use Rattle.component.specs.declared.Cell.{Cell}
use Rattle.component.specs.declared.CellId.{CellId}

pub sub-up : (a b : ℕ) → b ≤ a → sub_ℕ a b ≡ pos (a - b)
sub-up a b h = ap (λ (t : Bool). cond t (negsuc (b - suc a)) (pos (a - b))) (le-ltb a b h)

pub sub-down : (a b : ℕ) → a < b → sub_ℕ a b ≡ negsuc (b - suc a)
sub-down a b h = ap (λ (t : Bool). cond t (negsuc (b - suc a)) (pos (a - b))) (lt-ltb a b h)

pub plus-bias : (b : ℕ) (n : ℤ) → mag n < b → n +ℤ pos b ≡ pos (bias_by b n)
plus-bias b (pos n) h = refl
plus-bias b (negsuc n) h = sub-up b (suc n) (omega arith)

pub bias-below : (b : ℕ) (n : ℤ) → mag n < b → bias_by b n < b + b
bias-below b (pos n) h = omega arith
bias-below b (negsuc n) h = omega arith

sub-bias : (b : ℕ) (n : ℤ) → mag n < b → sub_ℕ (bias_by b n) b ≡ n
sub-bias b (pos n) h = sub-up (n + b) b (omega arith) ∙ ap pos (omega arith)
sub-bias b (negsuc n) h = sub-down (b - suc n) b (omega arith) ∙ ap negsuc (omega arith)

bias-sub : (b n : ℕ) → bias_by b (sub_ℕ n b) ≡ n
bias-sub b n = ⊎_elim (λ p. ap (bias_by b) (sub-up n b p) ∙ omega arith) (λ q. ap (bias_by b) (sub-down n b q) ∙ omega arith) (le-or-lt b n)

bias-order : (b : ℕ) (m n : ℤ) → mag m < b → mag n < b → int_lt m n ≡ nat_lt (bias_by b m) (bias_by b n)
bias-order b (pos m) (pos n) h k = ltb-same m n (m + b) (n + b) (λ p. omega arith) (λ p. omega arith)
bias-order b (pos m) (negsuc n) h k = sym (le-ltb (m + b) (b - suc n) (omega arith))
bias-order b (negsuc m) (pos n) h k = sym (lt-ltb (b - suc m) (n + b) (omega arith))
bias-order b (negsuc m) (negsuc n) h k = ltb-same n m (b - suc m) (b - suc n) (λ p. omega arith) (λ p. omega arith)

-- The signed order of two coordinates is the order of their stored forms.
pub signed-order : (m n : ℤ) → mag m < 2147483648 → mag n < 2147483648 → int_lt m n ≡ nat_lt (biased m) (biased n)
signed-order m n h k = bias-order 2147483648 m n h k

-- A coordinate comes back from its stored form.
pub unbias-bias : (n : ℤ) → mag n < 2147483648 → unbiased (biased n) ≡ n
unbias-bias n h =
    ap (λ (k : ℕ). sub_ℕ k 2147483648) (mod-eq_of_lt {m = 4294967296} (bias-below 2147483648 n h)) ∙ sub-bias 2147483648 n h

-- A stored form below 2^32 comes back from its coordinate.
pub bias-unbias : (n : ℕ) → n < 4294967296 → biased (unbiased n) ≡ n
bias-unbias n h = bias-sub 2147483648 (n % 4294967296) ∙ mod-eq_of_lt h

-- The stored form of a cell of `i32` coordinates gives the cell back.
pub cell-of-stored : (c : CellId) → Holds c → cell_id (stored c) ≡ c
cell-of-stored c h =
    let z = unbias-bias c.coord.z h.z in
    let y = unbias-bias c.coord.y h.y in
    let x = unbias-bias c.coord.x h.x in
    λ i. record { grid = c.grid; coord = record { x = x i; y = y i; z = z i } }

-- The cell of a stored cell below 2^32 has that stored cell as its stored form.
pub stored-of-cell : (c : Cell) → Small c → stored (cell_id c) ≡ c
stored-of-cell c h =
    let z = bias-unbias c.z h.z in
    let y = bias-unbias c.y h.y in
    let x = bias-unbias c.x h.x in
    λ i. record { grid = c.grid; z = z i; y = y i; x = x i }

-- The stored form of a cell of `i32` coordinates is below 2^32.
pub stored-small : (c : CellId) → Holds c → Small (stored c)
stored-small c h =
    record {
      z = bias-below 2147483648 c.coord.z h.z;
      y = bias-below 2147483648 c.coord.y h.y;
      x = bias-below 2147483648 c.coord.x h.x;
    }

-- Cells whose stored forms are the same are equal.
pub same-stored : (a b : CellId) → Holds a → Holds b → T (same (stored a) (stored b)) → a ≡ b
same-stored a b h k t = sym (cell-of-stored a h) ∙ ap cell_id (same-eq (stored a) (stored b) t) ∙ cell-of-stored b k
