-- The ways out of an update: 1, 2, an early refusal, and the rest.
use Prim.Native.Nat.{ℕ, ◌+◌, ◌*◌, ◌≤◌}
use Rattle.std.specs.Prelude.{◌≡◌, refl, Bool, true, cond, not, ◌&&◌, ◌||◌, eqb, ltb, length}
use Rattle.std.proofs.Common.{sym, ap, ◌∙◌, eq-eqb, ne_eqb, ltb-false}
use Rattle.std.proofs.Math.Bool.{false}
use mathlib.Core.List.{List}
use Rattle.refusal.specs.Forms.{Refused}
use Rattle.refusal.specs.Forms as form
use Rattle.refusal.specs.Forms.{none, broken, plain}
use Rattle.model.specs.Occupancy.{Batch}
use Rattle.model.specs.Update.{update}
use Rattle.model.proofs.Laws.Tests.{T_true}
use Rattle.layout.specs.Widths.{move_width}
use Rattle.layout.specs.State.{decode, next_id}
use Rattle.layout.specs.Points.{long_enough, first_broken, consistent_words}
use Rattle.batch.specs.Words.{batch_of, too_short, early}
use Rattle.batch.specs.Places.{batch_refusal}
use Rattle.batch.proofs.Laws.Places.{placed-plain, early-in-range, early-number}
use Rattle.updating.specs.Done.{done}
use Rattle.updating.specs.Known.{Known}
use Rattle.updating.specs.Laws.Known.{known}
use Rattle.updating.specs.Laws.Answers.{early-answer}
use Rattle.consistent.specs.Answer.{state_refusal}
use Rattle.consistent.specs.Theorems.{consistent-exactly}
use Rattle.yard.specs.Update.{placed_in, update_of}
use Rattle.yard.specs.Laws.Numbers.{update-four}

-- What a test that fails leaves.
neither : (a b : Bool) → (not a || b) ≡ false → (a ≡ true) × (b ≡ false)
neither true b e = (refl, e)
neither false b e = absurd (T_true {b = false} (sym e))

module _ (w b : List ℕ) (r m : ℕ) where
  -- The batch.
  abbrev asked : Batch
  asked = batch_of b r m

  -- What is answered and left, by the two tests.
  abbrev answer : Bool → Bool → Refused × List ℕ
  answer short good =
      cond short (form.too_short, w) (cond (not good) (broken (first_broken w), w) (placed_in asked (done w (update (decode w) asked))))

  answer-is : (s c : Bool) → too_short w b r m ≡ s → consistent_words w ≡ c → answer s c ≡ update_of w b r m
  unfolding update_of
  answer-is s c e f = λ i. answer (sym e i) (sym f i)

  -- 1.
  pub short-answer : (t : Bool) → t ≡ too_short w b r m → t ≡ true → (form.too_short, w) ≡ update_of w b r m
  short-answer t d y = answer-is true (consistent_words w) (sym d ∙ y) refl

  module _ (t : Bool) (d : t ≡ too_short w b r m) (y : t ≡ false) where
    e : too_short w b r m ≡ false
    e = sym d ∙ y

    enough : (long_enough w ≡ true) × (ltb (length b) (r + move_width * m) ≡ false)
    unfolding too_short
    enough = neither (long_enough w) (ltb (length b) (r + move_width * m)) e

    -- The words of the batch are as many as stated.
    pub batch-fits : r + move_width * m ≤ length b
    batch-fits = ltb-false (length b) (r + move_width * m) enough.1

    module _ (p : Refused) (g : p ≡ state_refusal w) where
      tested : (t : Bool) → eqb p.number 0 ≡ t → consistent_words w ≡ t
      tested t q =
          sym (ap (λ (l : Bool). l && consistent_words w) enough.0) ∙ sym (consistent-exactly w).zero
          ∙ ap (λ (k : Refused). eqb k.number 0) (sym g) ∙ q

      -- 2 with the first broken point.
      pub wild-answer : (p.number ≡ 0 → ⊥) → (p, w) ≡ update_of w b r m
      unfolding state_refusal
      wild-answer f =
          let c = tested false (ne_eqb p.number 0 f) in
          (λ i. (g i, w))
          ∙ (λ i. (cond (not (enough.0 i)) form.too_short (cond (c i) none (broken (first_broken w))), w))
          ∙ answer-is false false e c

      module _ (z : p.number ≡ 0) where
        good : consistent_words w ≡ true
        good = tested true (eq-eqb p.number 0 z)

        -- The state is consistent.
        pub state-known : Known w
        state-known = known w good enough.0

        -- The rest of the refusals.
        rest-answer : (n : ℕ) (v : List ℕ) → (n, v) ≡ done w (update (decode w) asked) → (batch_refusal asked n, v) ≡ update_of w b r m
        rest-answer n v k = ap (placed_in asked) k ∙ answer-is false true e good

        module _ (q : Refused) (h : q ≡ batch_refusal asked (early (next_id w) asked)) where
          number_is : q.number ≡ early (next_id w) asked
          number_is = ap (λ (k : Refused). k.number) h ∙ early-number (next_id w) asked

          -- 3, 4 with its place, and 5.
          pub first-answer : (q.number ≡ 0 → ⊥) → (q, w) ≡ update_of w b r m
          first-answer f =
              (λ i. (h i, w))
              ∙ rest-answer (early (next_id w) asked) w (early-answer w state-known asked (early (next_id w) asked) refl (λ k. f (number_is ∙ k)))

          module _ (o : q.number ≡ 0) where
            -- No early refusal.
            pub early-none : early (next_id w) asked ≡ 0
            early-none = sym number_is ∙ o

            not-four : (n : ℕ) → n ≡ (update (decode w) asked).0 → n ≡ 4 → ⊥
            not-four n k l = T_true {b = false} (sym (early-in-range (next_id w) asked early-none) ∙ update-four (decode w) asked (sym k ∙ l))

            -- 6 and 7, and none.
            pub last-answer : (n : ℕ) (v : List ℕ) → (n, v) ≡ done w (update (decode w) asked) → (plain n, v) ≡ update_of w b r m
            unfolding done
            last-answer n v k =
                (λ i. (sym (placed-plain asked n (not-four n (ap (λ (p : ℕ × List ℕ). p.0) k))) i, v)) ∙ rest-answer n v k
