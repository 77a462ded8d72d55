-- The ways out of the test of a state.
use Rattle.std.specs.Prelude.{ℕ, ◌≤◌, ◌<◌, ◌≡◌, Bool, true, false, cond, not, List, eqb, length}
use Rattle.std.proofs.Math.Path.{sym}
use Rattle.std.proofs.Common.{ap, ◌∙◌, subst, le-leb}
use Rattle.std.proofs.lemmas.Bool.{lt-leb}
use Rattle.model.proofs.Laws.Tests.{cond_yes, cond_no, eqb_of, neqb-of}
use Rattle.refusal.specs.Forms.{Refused}
use Rattle.refusal.specs.Forms.{none, too_short, broken}
use Rattle.layout.specs.State.{state_len}
use Rattle.layout.specs.Points.{long_enough, first_broken}
use Rattle.consistent.specs.Answer.{state_refusal}

-- What is answered, by whether the words are long enough and by the first broken point.
abbrev by_tests : Bool → ℕ → Refused
by_tests l p = cond (not l) too_short (cond (eqb p 0) none (broken p))

module _ (w : List ℕ) where
  -- Words that are too few.
  pub too-short : long_enough w ≡ false → too_short ≡ state_refusal w
  unfolding state_refusal
  too-short l = sym (ap (λ b. by_tests b (first_broken w)) l)

  module _ (l : long_enough w ≡ true) (p : ℕ) (e : p ≡ first_broken w) where
    -- No point is broken.
    pub unbroken-way : p ≡ 0 → none ≡ state_refusal w
    unfolding state_refusal
    unbroken-way z = sym (cond_yes (eqb p 0) none (broken p) (eqb_of p 0 z)) ∙ (λ i. by_tests (sym l i) (e i))

    -- The first broken point is told.
    pub broken-way : (p ≡ 0 → ⊥) → broken p ≡ state_refusal w
    unfolding state_refusal
    broken-way z = sym (cond_no (eqb p 0) none (broken p) (neqb-of p 0 z)) ∙ (λ i. by_tests (sym l i) (e i))

-- Words shorter than a state, and words that are not.
pub short-words : (w : List ℕ) (n : ℕ) → n ≡ state_len → length w < n → long_enough w ≡ false
short-words w n e h = lt-leb state_len (length w) (subst (λ k. length w < k) e h)

pub long-words : (w : List ℕ) (n : ℕ) → n ≡ state_len → n ≤ length w → long_enough w ≡ true
long-words w n e h = le-leb state_len (length w) (subst (λ k. k ≤ length w) e h)
