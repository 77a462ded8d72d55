-- The first move that goes out of range, and the refusals of a batch with their places.
use Rattle.std.specs.Prelude.{ℕ, suc, ◌+◌, ◌*◌, ◌<◌, ◌≤◌, ◌≡◌, refl, Bool, true, false, cond, not, ◌&&◌, List, [], ◌∷◌, eqb, length, drop}
use Rattle.std.proofs.Common.{arith, sym, ◌∙◌, eqb-true}
use Rattle.std.proofs.Math.Path.{ap}
use Rattle.component.specs.Range.{stored_bad_axis}
use Rattle.refusal.specs.Forms.{Refused}
use Rattle.refusal.specs.Forms as form
use Rattle.model.specs.Lists.{all}
use Rattle.model.specs.Cells.{Cell}
use Rattle.model.specs.Occupancy.{Batch}
use Rattle.model.specs.Update.{most_events, last_next, too_many_events, out_of_range, few_ids}
use Rattle.model.proofs.Laws.Tests.{T_true, cond_no, neqb-of}
use Rattle.layout.specs.Widths.{move_width}
use Rattle.batch.specs.Words.{move_at, moves_in, batch_of, early}
use Rattle.batch.specs.Places.{ranged, first_out, batch_refusal}
use Rattle.batch.proofs.Laws.Words.{moves_left, moves-start, moves-step, moves-end, early-many, early-out, early-late, early-none}

-- The first of the moves from the i-th on that goes out of range.
module _ (b : List ℕ) (from moves : ℕ) where
  abbrev pub out_from : ℕ → Refused
  out_from i = first_out i (moves_left b from moves i)

  pub out-start : first_out 0 (moves_in moves (drop from b)) ≡ out_from 0
  out-start = ap (first_out 0) (moves-start b from moves)

  module _ (i : ℕ) (h : i < moves) where
    -- A move.
    abbrev here : ℕ × Cell
    here = move_at b (from + move_width * i)

    out_step : out_from i ≡ cond (ranged here) (out_from (i + 1)) (form.out_of_range i (stored_bad_axis here.1))
    out_step =
        ap (first_out i) (moves-step b from moves i h)
        ∙ ap (λ (n : ℕ). cond (ranged here) (first_out n (moves_left b from moves (i + 1))) (form.out_of_range i (stored_bad_axis here.1))) (let e : suc i ≡ i + 1 = omega arith in e)

    -- A move out of range is told.
    pub out-here : ranged here ≡ false → out_from i ≡ form.out_of_range i (stored_bad_axis here.1)
    out-here e = out_step ∙ ap (λ (t : Bool). cond t (out_from (i + 1)) (form.out_of_range i (stored_bad_axis here.1))) e

    -- A move in range leaves it to the others.
    pub out-behind : ranged here ≡ true → out_from i ≡ out_from (i + 1)
    out-behind e = out_step ∙ ap (λ (t : Bool). cond t (out_from (i + 1)) (form.out_of_range i (stored_bad_axis here.1))) e

  pub out-end : (i : ℕ) → moves ≤ i → out_from i ≡ form.none
  out-end i h = ap (first_out i) (moves-end b from moves i h)

-- The number of the first move that goes out of range: 4, and 0 where all are in range.
pub out-number : (n : ℕ) (ms : List (ℕ × Cell)) → (first_out n ms).number ≡ cond (all ranged ms) 0 4
out-number n [] = refl
out-number n (m ∷ ms) = go (ranged m) (out-number (suc n) ms)
  where
    go : (t : Bool) → (first_out (suc n) ms).number ≡ cond (all ranged ms) 0 4
        → (cond t (first_out (suc n) ms) (form.out_of_range n (stored_bad_axis m.1))).number ≡ cond (t && all ranged ms) 0 4
    go true e = e
    go false e = refl

-- All are in range where none is told, and not all where one is.
pub none_out : (n : ℕ) (ms : List (ℕ × Cell)) → (first_out n ms).number ≡ 0 → all ranged ms ≡ true
none_out n ms e = go (all ranged ms) (sym (out-number n ms) ∙ e)
  where
    go : (t : Bool) → cond {A = ℕ} t 0 4 ≡ 0 → t ≡ true
    go true z = refl
    go false z = absurd (omega arith)

pub one_out : (n : ℕ) (ms : List (ℕ × Cell)) → ((first_out n ms).number ≡ 0 → ⊥) → all ranged ms ≡ false
one_out n ms f = go (all ranged ms) (λ e. f (out-number n ms ∙ e))
  where
    go : (t : Bool) → (cond {A = ℕ} t 0 4 ≡ 0 → ⊥) → t ≡ false
    go true z = absurd (z refl)
    go false z = refl

-- The number stays, where 4 is given for a coordinate out of range.
pub placed-number : (b : Batch) (n : ℕ) → (n ≡ 4 → out_of_range b ≡ true) → (batch_refusal b n).number ≡ n
unfolding batch_refusal
placed-number b n f = go (eqb n 4) refl
  where
    bad : (t : Bool) → not t ≡ true → cond {A = ℕ} t 0 4 ≡ 4
    bad false e = refl
    bad true e = absurd (T_true {b = false} e)

    go : (t : Bool) → eqb n 4 ≡ t → (cond t (first_out 0 b.moves) (form.plain n)).number ≡ n
    go false e = refl
    go true e = let g : n ≡ 4 = eqb-true n 4 e in out-number 0 b.moves ∙ bad (all ranged b.moves) (f g) ∙ sym g

-- Every other number tells no place.
pub placed-plain : (b : Batch) (n : ℕ) → (n ≡ 4 → ⊥) → batch_refusal b n ≡ form.plain n
unfolding batch_refusal
placed-plain b n f = cond_no (eqb n 4) (first_out 0 b.moves) (form.plain n) (neqb-of n 4 f)

-- The refusals of a batch in their order.
module _ (next : ℕ) (s : List ℕ) (r m : ℕ) (h : r ≤ length s) where
  abbrev told : Refused
  told = batch_refusal (batch_of s r m) (early next (batch_of s r m))

  -- 3.
  pub refused-many : most_events < r + m → form.plain 3 ≡ told
  unfolding batch_refusal
  refused-many k = ap (batch_refusal (batch_of s r m)) (early-many next s r m h k)

  module _ (k : r + m ≤ most_events) (p : Refused) (e : p ≡ first_out 0 (moves_in m (drop r s))) where
    -- 4 with its place.
    pub refused-out : (p.number ≡ 0 → ⊥) → p ≡ told
    unfolding batch_refusal batch_of
    refused-out f =
        e ∙ ap (batch_refusal (batch_of s r m)) (early-out next s r m h k (one_out 0 (moves_in m (drop r s)) (λ z. f (ap (λ (q : Refused). q.number) e ∙ z))))

    module _ (z : p.number ≡ 0) where
      in-range : all ranged (moves_in m (drop r s)) ≡ true
      in-range = none_out 0 (moves_in m (drop r s)) (sym (ap (λ (q : Refused). q.number) e) ∙ z)

      -- 5.
      pub refused-late : last_next < next → form.few_ids ≡ told
      unfolding batch_refusal
      refused-late l = ap (batch_refusal (batch_of s r m)) (early-late next s r m h k in-range l)

      -- None.
      pub refused_none : next ≤ last_next → form.none ≡ told
      unfolding batch_refusal
      refused_none l = ap (batch_refusal (batch_of s r m)) (early-none next s r m h k in-range l)

-- A batch with no early number has no coordinate out of range.
pub early-in-range : (next : ℕ) (b : Batch) → early next b ≡ 0 → out_of_range b ≡ false
unfolding early
early-in-range next b = go (too_many_events b) (out_of_range b) (few_ids next)
  where
    go : (x y z : Bool) → cond {A = ℕ} x 3 (cond y 4 (cond z 5 0)) ≡ 0 → y ≡ false
    go x false z e = refl
    go true true z e = absurd (omega arith)
    go false true z e = absurd (omega arith)

-- The number of an early refusal.
pub early-number : (next : ℕ) (b : Batch) → (batch_refusal b (early next b)).number ≡ early next b
unfolding early
early-number next b = placed-number b (early next b) (go (too_many_events b) (out_of_range b) (few_ids next))
  where
    go : (x y z : Bool) → cond {A = ℕ} x 3 (cond y 4 (cond z 5 0)) ≡ 4 → y ≡ true
    go x true z e = refl
    go true false z e = absurd (omega arith)
    go false false true e = absurd (omega arith)
    go false false false e = absurd (omega arith)
