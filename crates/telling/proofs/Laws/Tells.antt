-- The words that are written are those that the definitions tell.
use Prim.Native.Nat.{ℕ, ◌+◌, ◌≤◌, ◌<◌}
use Rattle.std.proofs.Common.{arith, sym, ◌∙◌, SFits, to_z, of_z, to_z-of_z, lt-ltb, le-ltb}
use Rattle.std.specs.Prelude.{◌≡◌, Bool, ℤ, length, drop}
use Rattle.std.proofs.Math.Path.{ap}
use Rattle.std.proofs.Math.Bool.{cond}
use mathlib.Core.List.{List, ◌++◌}
use Rattle.std.specs.Int.{w32}
use Rattle.table.specs.Moves.{over}
use Rattle.telling.specs.Given.{cell_of}
use Rattle.telling.specs.Words.{fronted, telling, tells, tells_filled}

-- Coordinates of 32 bits reach a function as they are.
pub cell-given : (grid : ℕ) {x y z : ℤ} → SFits w32 x → SFits w32 y → SFits w32 z
    → cell_of grid (to_z w32 (of_z w32 x)) (to_z w32 (of_z w32 y)) (to_z w32 (of_z w32 z)) ≡ cell_of grid x y z
cell-given grid p q r = λ i. cell_of grid (to_z-of_z p i) (to_z-of_z q i) (to_z-of_z r i)

-- Words written at the first place stand at the front.
pub over-front : (told words : List ℕ) → over told 0 words ≡ fronted words told
unfolding over fronted
over-front told words = let e : 0 + length words ≡ length words = omega arith in ap (λ (n : ℕ). words ++ drop n told) e

module _ {A : Type 0} (t : A → ℕ × List ℕ) (a b : A) (e : a ≡ b) (told : List ℕ) where
  -- The words of an answer are written.
  pub telling-by : (last words : List ℕ) → last ≡ fronted words told → words ≡ (t b).1 → ◌≡◌ {A = ℕ × List ℕ} ((t b).0, last) (telling (t a) told)
  telling-by last words f g =
      ap (λ (l : List ℕ). ((t b).0, l)) (f ∙ ap (λ (w : List ℕ). fronted w told) g) ∙ ap (λ (x : A). telling (t x) told) (sym e)

  -- The words of an answer are told by another function.
  pub telling-so : (p : ℕ × List ℕ) → p ≡ telling (t b) told → p ≡ telling (t a) told
  telling-so p f = f ∙ ap (λ (x : A). telling (t x) told) (sym e)

module _ (most : ℕ) (a : ℕ × List ℕ) (told : List ℕ) where
  -- A slice that is too short.
  pub tells-short : length told < most → ◌≡◌ {A = ℕ × List ℕ} (1, told) (tells most a told)
  unfolding tells
  tells-short h = ap (λ (b : Bool). cond {A = ℕ × List ℕ} b (1, told) (telling a told)) (sym (lt-ltb (length told) most h))

  -- A slice that is long enough.
  pub tells-long : most ≤ length told → (p : ℕ × List ℕ) → p ≡ telling a told → p ≡ tells most a told
  unfolding tells
  tells-long h p e = e ∙ ap (λ (b : Bool). cond {A = ℕ × List ℕ} b (1, told) (telling a told)) (sym (le-ltb (length told) most h))

module _ {A : Type 0} (most : ℕ) (t : A → ℕ × List ℕ) (a : A × List ℕ) (told answer : List ℕ) where
  -- A slice that is too short, beside one for the answer.
  pub filled-short : length told < most → ◌≡◌ {A = (ℕ × List ℕ) × List ℕ} ((1, told), answer) (tells_filled most t a told answer)
  unfolding tells_filled
  filled-short h = ap (λ (b : Bool). cond {A = (ℕ × List ℕ) × List ℕ} b ((1, told), answer) (telling (t a.0) told, a.1)) (sym (lt-ltb (length told) most h))

  -- A slice that is long enough, beside one for the answer.
  pub filled-long : most ≤ length told → (b : A) (last : List ℕ) → ◌≡◌ {A = A × List ℕ} (b, last) a → (p : ℕ × List ℕ) → p ≡ telling (t b) told
      → ◌≡◌ {A = (ℕ × List ℕ) × List ℕ} (p, last) (tells_filled most t a told answer)
  unfolding tells_filled
  filled-long h b last e p f =
      ap (λ (q : ℕ × List ℕ). (q, last)) f
      ∙ ap (λ (x : A × List ℕ). (telling (t x.0) told, x.1)) e
      ∙ ap (λ (c : Bool). cond {A = (ℕ × List ℕ) × List ℕ} c ((1, told), answer) (telling (t a.0) told, a.1)) (sym (le-ltb (length told) most h))
