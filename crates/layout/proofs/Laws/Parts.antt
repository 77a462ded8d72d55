-- The parts of a list that stand one after the other.
use Rattle.std.specs.Prelude.{ℕ, ◌+◌, ◌≤◌, ◌≡◌, refl, List, [], ◌∷◌, ◌++◌, length, take, drop, get_or}
use Rattle.std.proofs.Common.{arith, sym, ap, ◌∙◌, append_assoc, length-append, length-drop, take-append-drop, length-take-le, take-add, take-take, drop-drop, drop_at}
use Rattle.std.proofs.Math.Seq.{slice, take-append_seam, drop-append_seam}
use Rattle.layout.specs.Widths.{spare}
use Rattle.layout.specs.Facts.{From}

-- Behind its first part a list is the others.
pub part-first : (h r : List ℕ) (f : ℕ) → length h ≡ f → From (h ++ r) f r
part-first h r f e = record { fits = omega (arith, length-append h r); rest = drop_at h r f e }

module _ {w : List ℕ} {f : ℕ} (t : ℕ) (a r : List ℕ) (here : From w f (a ++ r)) (ends : f + length a ≡ t) where
  -- The part that stands there.
  pub part-is : slice f t w ≡ a
  part-is =
      ap (λ (m : ℕ). slice f m w) (sym ends)
      ∙ ap (drop f) (take-add f (length a) w)
      ∙ drop_at (take f w) (take (length a) (drop f w)) f (length-take-le f w here.fits)
      ∙ ap (take (length a)) here.rest
      ∙ take-append_seam a r

  -- What follows it.
  pub part-next : From w t r
  part-next =
      record {
        fits = omega (arith, here.fits, ends, length-drop f w, ap length here.rest, length-append a r);
        rest =
            ap (λ (m : ℕ). drop m w) (sym ends)
            ∙ sym (drop-drop (length a) f w)
            ∙ ap (drop (length a)) here.rest
            ∙ drop-append_seam a r;
      }

-- Seven parts, the first ones together, one after the other.
pub seven-parts : (h a b c d e g : List ℕ) → (((((h ++ a) ++ b) ++ c) ++ d) ++ e) ++ g ≡ h ++ (a ++ (b ++ (c ++ (d ++ (e ++ g)))))
seven-parts h a b c d e g = simp append_assoc

-- The words up to t are those up to f and those from f to t.
pub take_more : (w : List ℕ) (f t : ℕ) → f ≤ t → take t w ≡ take f w ++ slice f t w
take_more w f t h = sym (take-append-drop f (take t w)) ∙ ap (λ (l : List ℕ). l ++ slice f t w) (take-take f t w h)

-- The words of the header that have a name, one by one.
pub first-words : (w : List ℕ) → spare ≤ length w
    → take spare w ≡ get_or w 0 0 ∷ get_or w 1 0 ∷ get_or w 2 0 ∷ get_or w 3 0 ∷ get_or w 4 0 ∷ get_or w 5 0 ∷ get_or w 6 0 ∷ get_or w 7 0 ∷ []
first-words [] h = absurd (omega arith)
first-words (a ∷ []) h = absurd (omega arith)
first-words (a ∷ b ∷ []) h = absurd (omega arith)
first-words (a ∷ b ∷ c ∷ []) h = absurd (omega arith)
first-words (a ∷ b ∷ c ∷ d ∷ []) h = absurd (omega arith)
first-words (a ∷ b ∷ c ∷ d ∷ e ∷ []) h = absurd (omega arith)
first-words (a ∷ b ∷ c ∷ d ∷ e ∷ f ∷ []) h = absurd (omega arith)
first-words (a ∷ b ∷ c ∷ d ∷ e ∷ f ∷ g ∷ []) h = absurd (omega arith)
first-words (a ∷ b ∷ c ∷ d ∷ e ∷ f ∷ g ∷ k ∷ w) h = refl
