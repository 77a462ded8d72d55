-- An answer fits its slice, or does not.
use Rattle.std.specs.Prelude.{ℕ, ◌+◌, ◌≤◌, ◌<◌, ◌≡◌, Bool, cond, List, [], ◌++◌}
use native.Mathlib.Omega.{arith}
use Rattle.std.proofs.Common.{sym, ◌∙◌, lt-ltb, le-ltb}
use Rattle.std.proofs.Math.Path.{ap}
use Rattle.std.proofs.Math.ListN.{length, drop}
use Rattle.table.specs.Moves.{over}
use Rattle.told.specs.Told.{Told, done, too_long, fitted}

module _ {B : Type 0} (v : B) (words answer : List ℕ) where
  -- What is told by the test of the lengths.
  by-test : Bool → Told B × List ℕ
  by-test b = cond b (too_long (length words), answer) (done v, words ++ drop (length words) answer)

  -- The answer is longer than its slice.
  pub fitted-long : length answer < length words → (too_long (length words), answer) ≡ fitted v words answer
  unfolding fitted by-test
  fitted-long h = ap by-test (sym (lt-ltb (length answer) (length words) h))

  -- The answer fits.
  pub fitted-fits : length words ≤ length answer → (done v, over answer 0 words) ≡ fitted v words answer
  unfolding fitted over by-test
  fitted-fits h =
      let n : 0 + length words ≡ length words = omega arith in
      ap (λ (m : ℕ). (done v, words ++ drop m answer)) n ∙ ap by-test (sym (le-ltb (length answer) (length words) h))

-- Nothing fits.
pub fitted_none : {B : Type 0} (v : B) (answer : List ℕ) → (done v, answer) ≡ fitted v [] answer
unfolding fitted by-test
fitted_none v answer = let z : 0 ≤ length answer = omega arith in ap (by-test v [] answer) (sym (le-ltb (length answer) 0 z))
