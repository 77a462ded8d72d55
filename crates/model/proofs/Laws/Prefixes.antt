-- Prefixes of lists: `take` and `whilst`.
use Rattle.std.specs.Prelude.{ℕ, ◌≡◌, refl, Bool, true, false, cond, not, T, take, drop}
use Rattle.std.proofs.Common.{sym, ap, subst, take-append-drop}
use mathlib.Core.List.Memᴰ.{append_left}
use mathlib.Core.List.Memᴰ.{head}
use mathlib.Core.List.Memᴰ.{not-nil as mem-nil}
use mathlib.Core.List.{List, [], ◌∷◌, ◌++◌, Memᴰ as Mem}
use Rattle.model.specs.Lists.{whilst}
use Rattle.model.proofs.Laws.Tests.{T_false}
use Rattle.model.proofs.Laws.Members.{Once, once-nil, once-cons, once-head, once-tail}

module _ {A : Type 0} where
  -- What is taken is a member.
  pub take_out : (n : ℕ) (l : List A) {a : A} → Mem a (take n l) → Mem a l
  take_out n l {a} m = subst (λ k. Mem a k) (take-append-drop n l) (append_left (drop n l) m)

  -- If no member of a list comes twice, none comes twice in what the list begins with.
  pub once-prefix : (l m : List A) → Once (l ++ m) → Once l
  once-prefix [] m o = once-nil
  once-prefix (x ∷ l) m o = once-cons (λ k. once-head o (append_left m k)) (once-prefix l m (once-tail o))

  -- The members up to the first that fails, and then the others, of which the first fails.
  pub whilst-split : (p : A → Bool) (l : List A) → (rest : List A) × (whilst p l ++ rest ≡ l) × ((x : A) (xs : List A) → rest ≡ x ∷ xs → T (not (p x)))
  whilst-split p [] = ([], refl, λ x xs e. absurd (mem-nil (subst (λ k. Mem x k) (sym e) (head refl))))
  whilst-split p (y ∷ l) = go (p y) refl (whilst-split p l)
    where
      go : (b : Bool) → p y ≡ b → (rest : List A) × (whilst p l ++ rest ≡ l) × ((x : A) (xs : List A) → rest ≡ x ∷ xs → T (not (p x))) → (rest : List A) × (cond b (y ∷ whilst p l) [] ++ rest ≡ y ∷ l) × ((x : A) (xs : List A) → rest ≡ x ∷ xs → T (not (p x)))
      go true e r = (r.0, ap (λ k. y ∷ k) r.1, r.2)
      go false e r = (y ∷ l, refl, λ x xs f. subst (λ z. T (not (p z))) (cc) (T_false e))
