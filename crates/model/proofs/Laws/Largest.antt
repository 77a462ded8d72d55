-- The largest of some groups, among equals the earliest.
use Rattle.std.specs.Prelude.{ℕ, ◌≤◌, ◌<◌, ◌≡◌, refl, ◌⊎◌, Bool, true, false, cond, not, T, eqb, ltb}
use Rattle.std.proofs.Common.{arith, sym, ap, subst, inl, inr, ⊎_elim, ltb→lt, nltb→le}
use mathlib.Core.List.Memᴰ.{cases_cons as mem-cons}
use mathlib.Core.List.Memᴰ.{head}
use mathlib.Core.List.Memᴰ.{not-nil as mem-nil}
use mathlib.Core.List.Memᴰ.{tail}
use mathlib.Core.List.{List, [], ◌∷◌, Memᴰ as Mem}
use Rattle.model.specs.Lists.{whilst}
use Rattle.model.specs.Groups.{Ids, largest_group, size}
use Rattle.model.proofs.Laws.Tests.{decided, T_true, T_false, cond_yes, cond_no, neqb→ne}

-- The largest group is one of them.
pub largest-in : (ids : Ids) (g : ℕ) (gs : List ℕ) → Mem (largest_group ids g gs) (g ∷ gs)
largest-in ids g [] = head refl
largest-in ids g (h ∷ hs) = go (ltb (size ids g) (size ids h)) (largest-in ids (cond (ltb (size ids g) (size ids h)) h g) hs)
  where
    go : (b : Bool) → Mem (largest_group ids (cond b h g) hs) (cond b h g ∷ hs) → Mem (largest_group ids (cond b h g) hs) (g ∷ h ∷ hs)
    go true m = tail m
    go false m = ⊎_elim (λ e. head e) (λ k. tail (tail k)) (mem-cons m)

-- No group has more cells than the largest.
pub largest-most : (ids : Ids) (g : ℕ) (gs : List ℕ) {h : ℕ} → Mem h (g ∷ gs) → size ids h ≤ size ids (largest_group ids g gs)
largest-most ids g [] {h} m = ⊎_elim (λ e. let d : size ids h ≡ size ids g = ap (size ids) e in omega arith) (λ k. absurd (mem-nil k)) (mem-cons m)
largest-most ids g (x ∷ xs) {h} m = go (ltb (size ids g) (size ids x)) refl (λ y k n. largest-most ids y xs n) (mem-cons m)
  where
    go : (b : Bool) → ltb (size ids g) (size ids x) ≡ b → ((y k : ℕ) → Mem k (y ∷ xs) → size ids k ≤ size ids (largest_group ids y xs)) → (h ≡ g) ⊎ Mem h (x ∷ xs) → size ids h ≤ size ids (largest_group ids (cond b x g) xs)
    go true e rec (inl d) = let j : size ids h ≡ size ids g = ap (size ids) d in omega (arith, ltb→lt (size ids g) (size ids x) (T_true e), rec x x (head refl))
    go true e rec (inr k) = rec x h k
    go false e rec (inl d) = rec g h (head d)
    go false e rec (inr k) =
        ⊎_elim (λ d. let j : size ids h ≡ size ids x = ap (size ids) d in omega (arith, nltb→le (size ids g) (size ids x) (T_false e), rec g g (head refl))) (λ j. rec g h (tail j)) (mem-cons k)

-- A member before the first that fails: the first passes, and it is the first or one of the others before the first that fails.
whilst-cases : {A : Type 0} (p : A → Bool) (x : A) (l : List A) {a : A} → Mem a (whilst p (x ∷ l)) → T (p x) × ((a ≡ x) ⊎ Mem a (whilst p l))
whilst-cases p x l {a} m =
    ⊎_elim (λ t. (t, mem-cons (subst (λ k. Mem a k) (cond_yes (p x) (x ∷ whilst p l) [] t) m)))
    (λ t. absurd (mem-nil (subst (λ k. Mem a k) (cond_no (p x) (x ∷ whilst p l) [] t) m))) (decided (p x))

-- The groups found before the largest have fewer cells.
pub largest-earliest : (ids : Ids) (g : ℕ) (gs : List ℕ) (w : ℕ) → w ≡ largest_group ids g gs → {h : ℕ} → Mem h (whilst (λ k. not (eqb w k)) (g ∷ gs)) → size ids h < size ids w
largest-earliest ids g [] w is m = absurd (neqb→ne w g (whilst-cases (λ k. not (eqb w k)) g [] m).0 is)
largest-earliest ids g (x ∷ xs) w is {h} m = go (ltb (size ids g) (size ids x)) refl is (λ y d k n. largest-earliest ids y xs w d n) (whilst-cases (λ k. not (eqb w k)) g (x ∷ xs) m)
  where
    go : (b : Bool) → ltb (size ids g) (size ids x) ≡ b → w ≡ largest_group ids (cond b x g) xs →
        ((y : ℕ) → w ≡ largest_group ids y xs → (k : ℕ) → Mem k (whilst (λ k. not (eqb w k)) (y ∷ xs)) → size ids k < size ids w) →
        T (not (eqb w g)) × ((h ≡ g) ⊎ Mem h (whilst (λ k. not (eqb w k)) (x ∷ xs))) → size ids h < size ids w
    go true e i rec r =
        ⊎_elim (λ d. let j : size ids h ≡ size ids g = ap (size ids) d in let n : size ids w ≡ size ids (largest_group ids x xs) = ap (size ids) i in omega (arith, ltb→lt (size ids g) (size ids x) (T_true e), largest-most ids x xs (head refl)))
        (λ k. rec x i h k) r.1
    go false e i rec r =
        let before : (k : ℕ) → Mem k (g ∷ whilst (λ k. not (eqb w k)) xs) → size ids k < size ids w =
        λ k n. rec g i k (subst (λ l. Mem k l) (sym (cond_yes (not (eqb w g)) (g ∷ whilst (λ k. not (eqb w k)) xs) [] r.0)) n) in
        ⊎_elim (λ d. before h (head d))
        (λ k. ⊎_elim (λ d. let j : size ids h ≡ size ids x = ap (size ids) d in omega (arith, nltb→le (size ids g) (size ids x) (T_false e), before g (head refl))) (λ n. before h (tail n))
        (whilst-cases (λ k. not (eqb w k)) x xs k).1) r.1
