-- A signed number passed to a call, or given back by one, goes by its bits. Where it fits they read back as the number.
use Rattle.std.proofs.Common.{◌≡◌, ℕ, ◌%◌, ◌<◌, ◌≤◌, Bool, T, ℤ, pos, ◌+ℤ◌, ◌-ℤ◌, nat_abs, sym, ap, ◌∙◌, subst, ⊎_elim, mod-lt, arith, to_z-of_z, w32, w64, Fits, SFits, to_z, of_z}
use lib.Signed.{non_neg}
use mir.Facts.{sfits_widen, to_z_pos}
use Rattle.std.specs.Int.{int_max}
use Rattle.component.specs.Coord.{by_axis, max_z}
use Rattle.component.specs.declared.CellCoord.{CellCoord}
use Rattle.component.specs.Stored.{bias_by, biased, unbiased}
use Rattle.component.specs.Laws.Stored.{plus-bias, bias-below, sub-up, sub-down}
use Rattle.component.specs.Laws.Tests.{le-or-lt}
use Rattle.std.specs.Ordering.{nat_cmp, int_cmp, is_lt, ordering_then}
use Rattle.std.proofs.Common.{cond, nat_lt, Less, Equal, Greater, Ordering}
use Rattle.std.proofs.lemmas.Bool.Decides.{nat_tests}
use lib.Signed.{mag}
use Rattle.component.specs.Order.{before, below}
use Rattle.component.specs.Laws.Stored.{signed-order}
use Rattle.component.specs.declared.CellId.{CellId}
use Rattle.component.specs.Stored.{stored, Holds}

-- A call's answer, handed on by its bits.
pub given_back : {r n : ℤ} → r ≡ n → SFits w32 r → to_z w32 (of_z w32 r) ≡ n
given_back e h = to_z-of_z h ∙ e

-- A call's answer, made of two signed numbers that went in by their bits, and handed on by its bits.
pub by_bits : (f : ℤ → ℤ → ℤ) {r a b : ℤ} → r ≡ f (to_z w32 (of_z w32 a)) (to_z w32 (of_z w32 b))
    → SFits w32 r → SFits w32 a → SFits w32 b → to_z w32 (of_z w32 r) ≡ f a b
by_bits f {r} {a} {b} e hr ha hb = given_back e hr ∙ (λ i. f (to_z-of_z ha i) (to_z-of_z hb i))

-- The larger of two numbers, whichever of the two is asked first.
pub larger : (a b : ℤ) → int_max a b ≡ max_z a b
unfolding max_z
larger a b = grind arith

-- A record of three such answers.
pub axes : (f : ℤ → ℤ → ℤ) (a b : CellCoord) {x y z : ℤ} → x ≡ f a.x b.x → y ≡ f a.y b.y → z ≡ f a.z b.z
    → record { x = x; y = y; z = z } ≡ by_axis f a b
axes f a b ex ey ez = λ i. record { x = ex i; y = ey i; z = ez i }

-- What `bias` answers of a number that went in by its bits.
pub biased-of : {r : ℕ} (n : ℤ) → r ≡ biased (to_z w32 (of_z w32 n)) → SFits w32 n → r ≡ biased n
biased-of n e f = e ∙ ap biased (to_z-of_z f)

-- What a test of a number that went in by its bits says of the number.
pub asked : (f : ℤ → Bool) (n : ℤ) {r : Bool} → r ≡ f (to_z w32 (of_z w32 n)) → SFits w32 n → r ≡ f n
asked f n e h = e ∙ ap f (to_z-of_z h)

-- An `i32` made an `i64` and moved up by b, from 2^31 to 2^32.
module _ {n : ℤ} (f : SFits w32 n) where
  pub widens : SFits w64 (to_z w32 (of_z w32 n))
  widens = subst (SFits w64) (sym (to_z-of_z f)) (sfits_widen tt f)

  module _ {b : ℕ} (low : 2147483648 ≤ b) (high : b ≤ 4294967296) where
    moved : to_z w64 (of_z w64 (to_z w32 (of_z w32 n))) +ℤ pos b ≡ pos (bias_by b n)
    moved = ap (λ (y : ℤ). y +ℤ pos b) (to_z-of_z {w = w64} widens ∙ to_z-of_z f) ∙ plus-bias b n (omega (arith, f.sfits))

    pub moved-below : bias_by b n < 8589934592
    moved-below = omega (arith, bias-below b n (omega (arith, f.sfits)))

    pub moved-fits : SFits w64 (to_z w64 (of_z w64 (to_z w32 (of_z w32 n))) +ℤ pos b)
    moved-fits = subst (SFits w64) (sym moved) (record { sfits = omega (arith, moved-below) })

    pub moved_back : to_z w64 (of_z w64 (to_z w64 (of_z w64 (to_z w32 (of_z w32 n))) +ℤ pos b)) ≡ pos (bias_by b n)
    moved_back = to_z-of_z {w = w64} moved-fits ∙ moved

    pub moved_word : T (non_neg (to_z w64 (of_z w64 (to_z w64 (of_z w64 (to_z w32 (of_z w32 n))) +ℤ pos b))))
        × Fits w64 (nat_abs (to_z w64 (of_z w64 (to_z w64 (of_z w64 (to_z w32 (of_z w32 n))) +ℤ pos b))))
    moved_word =
        subst (λ (y : ℤ). T (non_neg y) × Fits w64 (nat_abs y)) (sym moved_back) (tt, record { fits = omega (arith, moved-below) })

-- A word's remainder by 2^32 moved down by 2^31.
module _ (n : ℕ) where
  low : n % 4294967296 < 4294967296
  low = mod-lt n (omega arith)

  lowered : to_z w64 (n % 4294967296) -ℤ pos 2147483648 ≡ unbiased n
  lowered = ap (λ (y : ℤ). y -ℤ pos 2147483648) (to_z_pos w64 {n = n % 4294967296} (omega (arith, low)))

  pub unbiased-fits : SFits w32 (unbiased n)
  unbiased-fits =
      let h = low in
      ⊎_elim
      (λ p. subst (SFits w32) (sym (sub-up (n % 4294967296) 2147483648 p)) (record { sfits = omega arith }))
      (λ q. subst (SFits w32) (sym (sub-down (n % 4294967296) 2147483648 q)) (record { sfits = omega arith }))
      (le-or-lt 2147483648 (n % 4294967296))

  pub lowered-fits : SFits w64 (to_z w64 (n % 4294967296) -ℤ pos 2147483648)
  lowered-fits = subst (SFits w64) (sym lowered) (sfits_widen tt unbiased-fits)

  pub lowered-back : to_z w64 (of_z w64 (to_z w64 (n % 4294967296) -ℤ pos 2147483648)) ≡ unbiased n
  lowered-back = to_z-of_z {w = w64} lowered-fits ∙ lowered

-- A step of the derived order of numbers is a step of cell order.
pub step_cmp : (p q : ℕ) (o : Ordering) → is_lt (ordering_then (nat_cmp p q) o) ≡ before p q (is_lt o)
step_cmp p q o = grind (arith, nat_tests)

-- The same of signed numbers and of their stored forms.
turned : (p q : ℕ) (o : Ordering) → is_lt (ordering_then (cond (nat_lt p q) Less (cond (nat_lt q p) Greater Equal)) o) ≡ before p q (is_lt o)
turned p q o = grind (arith, nat_tests)

pub step_int : (m n : ℤ) → mag m < 2147483648 → mag n < 2147483648 → (o : Ordering) → is_lt (ordering_then (int_cmp m n) o) ≡ before (biased m) (biased n) (is_lt o)
step_int m n h k o =
    (λ i. is_lt (ordering_then (cond (signed-order m n h k i) Less (cond (signed-order n m k h i) Greater Equal)) o)) ∙ turned (biased m) (biased n) o

-- The derived order of cells by their signed coordinates is cell order.
pub id_below : (a b : CellId) → Holds a → Holds b
    → is_lt (ordering_then (nat_cmp a.grid b.grid) (ordering_then (int_cmp a.coord.z b.coord.z) (ordering_then (int_cmp a.coord.y b.coord.y) (int_cmp a.coord.x b.coord.x))))
    ≡ below (stored a) (stored b)
id_below a b h k =
    step_cmp a.grid b.grid _
    ∙ ap (before a.grid b.grid) (step_int a.coord.z b.coord.z h.z k.z _
    ∙ ap (before (biased a.coord.z) (biased b.coord.z)) (step_int a.coord.y b.coord.y h.y k.y _
    ∙ ap (before (biased a.coord.y) (biased b.coord.y)) (last a.coord.x b.coord.x h.x k.x)))
  where
    last : (m n : ℤ) → mag m < 2147483648 → mag n < 2147483648 → is_lt (int_cmp m n) ≡ nat_lt (biased m) (biased n)
    last m n h k = grind (arith, nat_tests)
