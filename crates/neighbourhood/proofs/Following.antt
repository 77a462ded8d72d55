-- How far the following of a mask is.
use Prim.Native.Nat.{ℕ, ◌+◌, ◌≤◌, ◌<◌}
use native.Mathlib.Numerals.{add-one}
use native.Mathlib.Omega.{arith}
use mathlib.Core.Path.{◌≡◌, refl, sym, ◌∙◌, ap}
use mathlib.Core.List.{List, [], ◌∷◌}
use borrow.Author.Tests.{eq-eqb, ne_eqb}
use lib.ListN.{length, get_or, set, length-set}
use Rattle.neighbourhood.specs.Fronts.{Front, front, pushed}
use Rattle.neighbourhood.proofs.Laws.Pushes.{onto, pushed-old, pushed-new, pushed_none, pushed_grows}

-- From the front f₀ some of the rows L are pushed, and the rows R are left.
pub record Going (label : ℕ) (L : List ℕ) (f₀ : Front) (R : List ℕ) (f : Front) : Type 0 where
  pub left : pushed label f R ≡ pushed label f₀ L
  pub marks_kept : length f.marks ≡ length f₀.marks
  pub queue_kept : length f.queue ≡ length f₀.queue

module _ (label : ℕ) (L : List ℕ) (f₀ : Front) where
  -- At the start all are left.
  pub going_start : (R : List ℕ) → R ≡ L → Going label L f₀ R f₀
  going_start R e = record { left = ap (pushed label f₀) e; marks_kept = refl; queue_kept = refl }

  module _ (R : List ℕ) (f : Front) (g : Going label L f₀ R f) where
    -- At the end none is.
    pub going_end : R ≡ [] → f ≡ pushed label f₀ L
    going_end e = sym (pushed_none label f) ∙ ap (pushed label f) (sym e) ∙ g.left

    -- The same rows are left.
    pub going-same : (R' : List ℕ) → R ≡ R' → Going label L f₀ R' f
    going-same R' e = record { left = ap (pushed label f) (sym e) ∙ g.left; marks_kept = g.marks_kept; queue_kept = g.queue_kept }

    module _ (j : ℕ) (R' : List ℕ) (e : R ≡ j ∷ R') where
      ahead : pushed label f (j ∷ R') ≡ pushed label f₀ L
      ahead = ap (pushed label f) (sym e) ∙ g.left

      -- A marked row is passed over.
      pub going-old : (get_or f.marks j 0 ≡ 0 → ⊥) → Going label L f₀ R' f
      going-old z = record { left = sym (pushed-old label f j R' (ne_eqb (get_or f.marks j 0) 0 z)) ∙ ahead; marks_kept = g.marks_kept; queue_kept = g.queue_kept }

      module _ (z : get_or f.marks j 0 ≡ 0) where
        turned : pushed label (onto label f j) R' ≡ pushed label f₀ L
        turned = sym (pushed-new label f j R' (eq-eqb (get_or f.marks j 0) 0 z)) ∙ ahead

        -- For an unmarked row the queue has space.
        pub going-space : (pushed label f₀ L).end ≤ length f₀.queue → f.end < length f.queue
        going-space s = omega (arith, pushed_grows label R' (onto label f j), ap (λ (b : Front). b.end) turned, g.queue_kept)

        -- An unmarked row is marked and queued.
        pub going-new : Going label L f₀ R' (front (f.end + 1) (set f.marks j label) (set f.queue f.end j))
        going-new =
            record {
              left = ap (λ (m : ℕ). pushed label (front m (set f.marks j label) (set f.queue f.end j)) R') (add-one f.end) ∙ turned;
              marks_kept = length-set f.marks j label ∙ g.marks_kept;
              queue_kept = length-set f.queue f.end j ∙ g.queue_kept;
            }
