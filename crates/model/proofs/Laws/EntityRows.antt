-- How many entities stand in some cells, with one cell more at the end.
use Rattle.std.specs.Prelude.{ℕ, ◌+◌, ◌≡◌, refl, Bool, true, false, ◌||◌, cond, T, length}
use Rattle.std.proofs.Common.{arith, sym, ◌∙◌, ap, subst}
use mathlib.Core.List.Memᴰ.{head}
use mathlib.Core.List.Memᴰ.{tail}
use mathlib.Core.List.{List, [], ◌∷◌, ◌++◌, Memᴰ as Mem}
use Rattle.model.specs.Lists.{keep, has}
use Rattle.model.specs.Cells.{Cell, same}
use Rattle.model.specs.Groups.{standing_at}
use Rattle.model.specs.Crowd.{how_many}
use Rattle.model.proofs.Laws.Tests.{T_true, same_test}
use Rattle.model.proofs.Laws.Orders.{cells, same_of}
use Rattle.model.proofs.Laws.Members.{keep-ext, of-has}

module _ {A : Type 0} (p q : A → Bool) where
  -- Tests that no member passes both of count what passes either.
  count-either : (l : List A) → ((x : A) → Mem x l → T (p x) → T (q x) → ⊥) → length (keep (λ x. p x || q x) l) ≡ length (keep p l) + length (keep q l)
  count-either [] f = omega arith
  count-either (x ∷ l) f = go (p x) (q x) refl refl (count-either l (λ y m. f y (tail m)))
    where
      go : (a b : Bool) → p x ≡ a → q x ≡ b → length (keep (λ x. p x || q x) l) ≡ length (keep p l) + length (keep q l) →
          length (cond (a || b) (x ∷ keep (λ x. p x || q x) l) (keep (λ x. p x || q x) l)) ≡ length (cond a (x ∷ keep p l) (keep p l)) + length (cond b (x ∷ keep q l) (keep q l))
      go true true d e r = absurd (f x (head refl) (T_true d) (T_true e))
      go true false d e r = omega arith
      go false true d e r = omega arith
      go false false d e r = omega arith

-- A cell is in a list with one more at the end if it is in the list or is that one.
has_last : (cs : List Cell) (c x : Cell) → has same (cs ++ (c ∷ [])) x ≡ (has same cs x || same c x)
has_last [] c x = go (same x c) ∙ same-turned x c
  where
    go : (b : Bool) → (b || false) ≡ b
    go true = refl
    go false = refl

    same-turned : (a b : Cell) → same a b ≡ same b a
    same-turned a b = same_test (same a b) (same b a) (λ u. same_of cells (sym (cells.same-eq a b u))) (λ u. same_of cells (sym (cells.same-eq b a u)))
has_last (d ∷ cs) c x = go (same x d) (has_last cs c x)
  where
    go : (b : Bool) → has same (cs ++ (c ∷ [])) x ≡ (has same cs x || same c x) → (b || has same (cs ++ (c ∷ [])) x) ≡ ((b || has same cs x) || same c x)
    go true e = refl
    go false e = e

-- The entities of cells and of one more at the end.
pub standing-last : (t : List (ℕ × Cell)) (cs : List Cell) (c : Cell) → (Mem c cs → ⊥) → standing_at t (cs ++ (c ∷ [])) ≡ standing_at t cs + how_many t c
unfolding how_many
standing-last t cs c n =
    ap length (keep-ext (λ (p : ℕ × Cell). has same (cs ++ (c ∷ [])) p.1) (λ (p : ℕ × Cell). has same cs p.1 || same c p.1) t (λ p m. has_last cs c p.1))
    ∙ count-either (λ (p : ℕ × Cell). has same cs p.1) (λ (p : ℕ × Cell). same c p.1) t
    (λ p m u v. n (subst (λ x. Mem x cs) (sym (cells.same-eq c p.1 v)) (of-has cells cs u)))
