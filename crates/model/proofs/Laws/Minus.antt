-- The members of one list that are not members of another.
use Rattle.std.specs.Prelude.{◌≡◌, Bool, not, T}
use Rattle.std.proofs.Common.{sym, ⊎_elim}
use mathlib.Core.List.Memᴰ.{cast as mem-cast}
use mathlib.Core.List.{List, [], Memᴰ as Mem}
use Rattle.std.proofs.Math.Dec.{not_T}
use Rattle.model.specs.Facts.{Asc, minus}
use Rattle.model.specs.Lists.{has, without, add}
use Rattle.model.proofs.Laws.Tests.{same_test}
use Rattle.model.proofs.Laws.Orders.{Ordered, is-or}
use Rattle.model.proofs.Laws.Members.{keep-in, keep_out, keep-ext, keep-none, keep-swap, hasnt-of, of-hasnt, without_in, without-out}
use Rattle.model.proofs.Laws.Sorted.{keep-asc, add-in, add-out, add-self, add-asc, asc-equal, keep-add-yes, keep-add-no}

module _ {K : Type 0} {eq lt : K → K → Bool} (laws : Ordered eq lt) where
  -- A member of l that is not in m stays.
  pub minus-in : (m : List K) {a : K} {l : List K} → Mem a l → (Mem a m → ⊥) → Mem a (minus eq l m)
  minus-in m {a} k n = keep-in (λ b. not (has eq m b)) k (hasnt-of laws a m n)

  -- What stays is a member of l and not in m.
  pub minus-out : (l m : List K) {a : K} → Mem a (minus eq l m) → Mem a l × (Mem a m → ⊥)
  minus-out l m {a} k = let r : Mem a l × T (not (has eq m a)) = keep_out (λ b. not (has eq m b)) l k in (r.0, of-hasnt laws m r.1)

  -- A list less itself is empty.
  pub minus-self : (l : List K) → minus eq l l ≡ []
  minus-self l = keep-none _ l (λ a k. not_T (not (has eq l a)) (λ t. of-hasnt laws l t k))

  -- Of the taken lists only the members matter.
  pub minus-ext : (l m m' : List K) → ((a : K) → Mem a l → Mem a m → Mem a m') → ((a : K) → Mem a l → Mem a m' → Mem a m) → minus eq l m ≡ minus eq l m'
  minus-ext l m m' f g =
      keep-ext (λ b. not (has eq m b)) (λ b. not (has eq m' b)) l
      (λ a k. same_test (not (has eq m a)) (not (has eq m' a)) (λ t. hasnt-of laws a m' (λ j. of-hasnt laws m t (g a k j))) (λ t. hasnt-of laws a m (λ j. of-hasnt laws m' t (f a k j))))

  module _ (x : K) (l m : List K) where
    -- To take one member more is to leave it out.
    pub minus-add : Asc lt l → minus eq l (add lt x m) ≡ without eq x (minus eq l m)
    minus-add s =
        asc-equal laws _ _ (keep-asc _ l s) (keep-asc _ _ (keep-asc _ l s))
        (λ a k. let r : Mem a l × (Mem a (add lt x m) → ⊥) = minus-out l (add lt x m) k in without_in laws x (minus-in m r.0 (λ j. r.1 (add-in laws x m j))) (λ e. r.1 (add-self laws x m e)))
        (λ a k. let r : Mem a (minus eq l m) × (a ≡ x → ⊥) = without-out laws x (minus eq l m) k in let q : Mem a l × (Mem a m → ⊥) = minus-out l m r.0 in minus-in (add lt x m) q.0 (λ j. ⊎_elim r.1 q.1 (add-out laws x m j)))

    -- To take without x, where x is no member, is to take all the same.
    pub minus-without-other : (Mem x l → ⊥) → minus eq l (without eq x m) ≡ minus eq l m
    minus-without-other n = minus-ext l (without eq x m) m (λ a k j. (without-out laws x m j).0) (λ a k j. without_in laws x j (λ e. n (mem-cast (sym e) k)))

    -- To take without x, where x is a member, is to add it.
    pub minus-without : Asc lt l → Mem x l → minus eq l (without eq x m) ≡ add lt x (minus eq l m)
    minus-without s h =
        asc-equal laws _ _ (keep-asc _ l s) (add-asc laws x _ (keep-asc _ l s))
        (λ a k. let r : Mem a l × (Mem a (without eq x m) → ⊥) = minus-out l (without eq x m) k in
        ⊎_elim (λ e. add-self laws x (minus eq l m) e) (λ n. add-in laws x (minus eq l m) (minus-in m r.0 (λ j. r.1 (without_in laws x j n)))) (is-or laws a x))
        (λ a k. ⊎_elim (λ e. minus-in (without eq x m) (mem-cast e h) (λ j. (without-out laws x m j).1 e))
        (λ j. let r : Mem a l × (Mem a m → ⊥) = minus-out l m j in minus-in (without eq x m) r.0 (λ i. r.1 (without-out laws x m i).0)) (add-out laws x (minus eq l m) k))

    -- An added member that is taken again.
    pub add-minus-old : Mem x m → minus eq (add lt x l) m ≡ minus eq l m
    add-minus-old k = keep-add-no laws (λ b. not (has eq m b)) x l (not_T (not (has eq m x)) (λ t. of-hasnt laws m t k))

    -- An added member that is not taken.
    pub add-minus-new : Asc lt l → (Mem x m → ⊥) → minus eq (add lt x l) m ≡ add lt x (minus eq l m)
    add-minus-new s n = keep-add-yes laws (λ b. not (has eq m b)) x l s (hasnt-of laws x m n)

    -- A member left out before or after.
    pub without-minus : minus eq (without eq x l) m ≡ without eq x (minus eq l m)
    without-minus = keep-swap (λ b. not (has eq m b)) (λ b. not (eq x b)) l
