-- An answer that a promise allows is the only one: what is told tells which answer it was.
use Rattle.std.specs.Prelude.{ℕ, ◌≡◌, List}
use Rattle.std.proofs.Common.{sym, ap, ◌∙◌}
use Rattle.told.specs.Told.{Told}

-- Two answers that equal a third are equal.
pub one_answer : {A : Type 0} (r s a : A) → r ≡ a → s ≡ a → r ≡ s
one_answer r s a p q = p ∙ sym q

module _ {A B : Type 0} (tell : A → Told B) (back : Told B → A) (e : (a : A) → back (tell a) ≡ a) where
  -- Two answers of which the same is told are equal.
  pub one_told : (r s : A) (t : Told B) → tell r ≡ t → tell s ≡ t → r ≡ s
  one_told r s t p q = sym (e r) ∙ ap back (p ∙ sym q) ∙ e s

  -- The same of answers with their slices.
  pub one-filled : (r s : A × List ℕ) (t : Told B × List ℕ) → ◌≡◌ {A = Told B × List ℕ} (tell r.0, r.1) t → ◌≡◌ {A = Told B × List ℕ} (tell s.0, s.1) t → r ≡ s
  one-filled r s t p q =
      let u : ◌≡◌ {A = Told B × List ℕ} (tell r.0, r.1) (tell s.0, s.1) = p ∙ sym q in
      let first : r.0 ≡ s.0 = sym (e r.0) ∙ ap (λ (x : Told B × List ℕ). back x.0) u ∙ e s.0 in
      let second : r.1 ≡ s.1 = ap (λ (x : Told B × List ℕ). x.1) u in
      λ i. (first i, second i)
