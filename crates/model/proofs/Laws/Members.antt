-- Which members the list operations leave, and in which number.
use Rattle.std.specs.Prelude.{ℕ, zero, suc, ◌+◌, ◌≤◌, ◌<◌, ◌≡◌, refl, ◌⊎◌, Bool, true, false, cond, ◌&&◌, not, T, length}
use Rattle.std.proofs.Common.{arith, sym, ◌∙◌, ap, subst, inl, inr, ⊎_elim, T_not}
use mathlib.Core.List.Memᴰ.{append_cases}
use mathlib.Core.List.Memᴰ.{cases_cons as mem-cons}
use mathlib.Core.List.Memᴰ.{cast as mem-cast}
use mathlib.Core.List.Memᴰ.{head}
use mathlib.Core.List.Memᴰ.{not-nil as mem-nil}
use mathlib.Core.List.Memᴰ.{tail}
use mathlib.Core.List.{List, [], ◌∷◌, ◌++◌, append_assoc, Memᴰ as Mem}
use Rattle.std.proofs.Math.Dec.{not_T}
use Rattle.model.specs.Lists.{keep, any, all, has, without, equal, whilst, each, gather, run, keys, count}
use Rattle.model.proofs.Laws.Tests.{and-fst, and-snd, and_both, or_cases, or_left, or_right, decided, cond_yes, cond_no}
use Rattle.model.proofs.Laws.Orders.{Ordered, is-or, differ, differs, numbers}

-- What one test leaves of a list.
module _ {A : Type 0} (p : A → Bool) where
  -- A first member that passes stays.
  pub keep-yes : (x : A) (l : List A) → T (p x) → keep p (x ∷ l) ≡ x ∷ keep p l
  keep-yes x l t = cond_yes (p x) _ _ t

  -- A first member that fails goes.
  pub keep-no : (x : A) (l : List A) → T (not (p x)) → keep p (x ∷ l) ≡ keep p l
  keep-no x l t = cond_no (p x) _ _ t

  -- A member that passes stays.
  pub keep-in : {a : A} {l : List A} → Mem a l → T (p a) → Mem a (keep p l)
  keep-in {a} (head {x} {xs} e) t = go (p x) (subst (λ y. T (p y)) e t)
    where
      go : (b : Bool) → T b → Mem a (cond b (x ∷ keep p xs) (keep p xs))
      go true u = head e
      go false u = absurd u
  keep-in {a} (tail {x} {xs} m) t = go (p x) (keep-in m t)
    where
      go : (b : Bool) → Mem a (keep p xs) → Mem a (cond b (x ∷ keep p xs) (keep p xs))
      go true k = tail k
      go false k = k

  -- What stays is a member that passes.
  pub keep_out : {a : A} (l : List A) → Mem a (keep p l) → Mem a l × T (p a)
  keep_out [] m = absurd (mem-nil m)
  keep_out {a} (x ∷ xs) m =
      let rec : Mem a (keep p xs) → Mem a (x ∷ xs) × T (p a) = λ k. (tail (keep_out xs k).0, (keep_out xs k).1) in
      ⊎_elim (λ t. ⊎_elim (λ h. (head h, subst (λ y. T (p y)) (sym h) t)) rec (mem-cons (subst (λ l. Mem a l) (keep-yes x xs t) m)))
      (λ t. rec (subst (λ l. Mem a l) (keep-no x xs t) m)) (decided (p x))

  -- The members that pass and those that fail are all the members.
  pub keep-length : (l : List A) → length (keep p l) + length (keep (λ a. not (p a)) l) ≡ length l
  keep-length [] = refl
  keep-length (x ∷ xs) = go (p x) (keep-length xs)
    where
      go : (b : Bool) → length (keep p xs) + length (keep (λ a. not (p a)) xs) ≡ length xs → length (cond b (x ∷ keep p xs) (keep p xs)) + length (cond (not b) (x ∷ keep (λ a. not (p a)) xs) (keep (λ a. not (p a)) xs)) ≡ suc (length xs)
      go true e = omega arith
      go false e = omega arith

  -- A test makes no list longer.
  pub keep-shorter : (l : List A) → length (keep p l) ≤ length l
  keep-shorter l = omega (arith, keep-length l)

  -- If all members pass, all stay.
  pub keep_all : (l : List A) → ((a : A) → Mem a l → T (p a)) → keep p l ≡ l
  keep_all [] f = refl
  keep_all (x ∷ xs) f = keep-yes x xs (f x (head refl)) ∙ ap (λ l. x ∷ l) (keep_all xs (λ a m. f a (tail m)))

  -- If no member passes, none stays.
  pub keep-none : (l : List A) → ((a : A) → Mem a l → T (not (p a))) → keep p l ≡ []
  keep-none [] f = refl
  keep-none (x ∷ xs) f = keep-no x xs (f x (head refl)) ∙ keep-none xs (λ a m. f a (tail m))

  -- The test goes through an append.
  pub keep_append : (l m : List A) → keep p (l ++ m) ≡ keep p l ++ keep p m
  keep_append [] m = refl
  keep_append (x ∷ l) m = go (p x) (keep_append l m)
    where
      go : (b : Bool) → keep p (l ++ m) ≡ keep p l ++ keep p m → cond b (x ∷ keep p (l ++ m)) (keep p (l ++ m)) ≡ cond b (x ∷ keep p l) (keep p l) ++ keep p m
      go true e = ap (λ k. x ∷ k) e
      go false e = e

  -- If a member passes, some member passes.
  pub any-in : {a : A} {l : List A} → Mem a l → T (p a) → T (any p l)
  any-in (head {x} e) t = or_left (p x) _ (subst (λ y. T (p y)) e t)
  any-in (tail {x} m) t = or_right (p x) _ (any-in m t)

  -- If some member passes, here is one.
  pub any_out : (l : List A) → T (any p l) → (a : A) × Mem a l × T (p a)
  any_out [] t = absurd t
  any_out (x ∷ xs) t =
      ⊎_elim (λ u. (x, head refl, u))
      (λ u. let r : (a : A) × Mem a xs × T (p a) = any_out xs u in (r.0, tail r.1, r.2)) (or_cases (p x) _ t)

  -- If each member passes, all pass.
  pub all-in : (l : List A) → ((a : A) → Mem a l → T (p a)) → T (all p l)
  all-in [] f = tt
  all-in (x ∷ xs) f = and_both (p x) _ (f x (head refl)) (all-in xs (λ a m. f a (tail m)))

  -- If all pass, each member passes.
  pub all-out : {a : A} (l : List A) → T (all p l) → Mem a l → T (p a)
  all-out [] t m = absurd (mem-nil m)
  all-out {a} (x ∷ xs) t m = ⊎_elim (λ e. subst (λ y. T (p y)) (sym e) (and-fst (p x) _ t)) (λ k. all-out xs (and-snd (p x) _ t) k) (mem-cons m)

  -- The members up to the first that fails are members that pass.
  pub whilst-out : {a : A} (l : List A) → Mem a (whilst p l) → Mem a l × T (p a)
  whilst-out [] m = absurd (mem-nil m)
  whilst-out {a} (x ∷ xs) m =
      ⊎_elim (λ t. ⊎_elim (λ h. (head h, subst (λ y. T (p y)) (sym h) t)) (λ k. (tail (whilst-out xs k).0, (whilst-out xs k).1)) (mem-cons (subst (λ l. Mem a l) (cond_yes (p x) _ _ t) m)))
      (λ t. absurd (mem-nil (subst (λ l. Mem a l) (cond_no (p x) (x ∷ whilst p xs) [] t) m))) (decided (p x))

-- What two tests leave of a list.
module _ {A : Type 0} (p q : A → Bool) where
  -- Two tests that agree on all members leave the same.
  pub keep-ext : (l : List A) → ((a : A) → Mem a l → p a ≡ q a) → keep p l ≡ keep q l
  keep-ext [] f = refl
  keep-ext (x ∷ xs) f = rw (f x (head refl), keep-ext xs (λ a m. f a (tail m)))

  -- Two tests one after the other are their conjunction.
  pub keep-keep : (l : List A) → keep p (keep q l) ≡ keep (λ a. q a && p a) l
  keep-keep [] = refl
  keep-keep (x ∷ xs) = go (q x) (keep-keep xs)
    where
      go : (b : Bool) → keep p (keep q xs) ≡ keep (λ a. q a && p a) xs → keep p (cond b (x ∷ keep q xs) (keep q xs)) ≡ cond (b && p x) (x ∷ keep (λ a. q a && p a) xs) (keep (λ a. q a && p a) xs)
      go true e = ap (λ l. cond (p x) (x ∷ l) l) e
      go false e = e

-- A conjunction in the other order.
and-swap : (a b : Bool) → (a && b) ≡ (b && a)
and-swap true true = refl
and-swap true false = refl
and-swap false true = refl
and-swap false false = refl

-- The order of two tests does not matter.
pub keep-swap : {A : Type 0} (p q : A → Bool) (l : List A) → keep p (keep q l) ≡ keep q (keep p l)
keep-swap p q l = keep-keep p q l ∙ keep-ext (λ a. q a && p a) (λ a. p a && q a) l (λ a m. and-swap (q a) (p a)) ∙ sym (keep-keep q p l)

module _ {A B : Type 0} (f : A → B) where
  -- What f gives for a member is a member.
  pub each_in : {a : A} {l : List A} → Mem a l → Mem (f a) (each f l)
  each_in (head e) = head (ap f e)
  each_in (tail m) = tail (each_in m)

  -- A member is what f gives for a member.
  pub each-out : {b : B} (l : List A) → Mem b (each f l) → (a : A) × Mem a l × (b ≡ f a)
  each-out [] m = absurd (mem-nil m)
  each-out {b} (x ∷ xs) m =
      ⊎_elim (λ e. (x, head refl, e))
      (λ k. let r : (a : A) × Mem a xs × (b ≡ f a) = each-out xs k in (r.0, tail r.1, r.2)) (mem-cons m)

  -- `each` goes through an append.
  pub each_append : (l m : List A) → each f (l ++ m) ≡ each f l ++ each f m
  each_append [] m = refl
  each_append (x ∷ l) m = ap (λ k. f x ∷ k) (each_append l m)

  -- `each` keeps the length.
  pub each-length : (l : List A) → length (each f l) ≡ length l
  each-length [] = refl
  each-length (x ∷ l) = ap suc (each-length l)

  -- A test after `each` is a test before it.
  pub keep-each : (p : B → Bool) (l : List A) → keep p (each f l) ≡ each f (keep (λ a. p (f a)) l)
  keep-each p [] = refl
  keep-each p (x ∷ l) = go (p (f x)) (keep-each p l)
    where
      go : (b : Bool) → keep p (each f l) ≡ each f (keep (λ a. p (f a)) l) → cond b (f x ∷ keep p (each f l)) (keep p (each f l)) ≡ each f (cond b (x ∷ keep (λ a. p (f a)) l) (keep (λ a. p (f a)) l))
      go true e = ap (λ k. f x ∷ k) e
      go false e = e

-- Two rules that agree on all members give the same.
pub each-ext : {A B : Type 0} (f g : A → B) (l : List A) → ((a : A) → Mem a l → f a ≡ g a) → each f l ≡ each g l
each-ext f g [] h = refl
each-ext f g (x ∷ l) h = let e : f x ≡ g x = h x (head refl) in let r : each f l ≡ each g l = each-ext f g l (λ a m. h a (tail m)) in λ i. e i ∷ r i

-- One rule after another is one rule.
pub each-each : {A B C : Type 0} (f : B → C) (g : A → B) (l : List A) → each f (each g l) ≡ each (λ a. f (g a)) l
each-each f g [] = refl
each-each f g (x ∷ l) = ap (λ k. f (g x) ∷ k) (each-each f g l)

-- A rule that changes no member changes nothing.
pub each_same : {A : Type 0} (f : A → A) (l : List A) → ((a : A) → Mem a l → f a ≡ a) → each f l ≡ l
each_same f [] h = refl
each_same f (x ∷ l) h = let e : f x ≡ x = h x (head refl) in let r : each f l ≡ l = each_same f l (λ a m. h a (tail m)) in λ i. e i ∷ r i

module _ {A B : Type 0} (f : A → List B) where
  -- What is there is given by f for a member.
  pub gather-out : {b : B} (l : List A) → Mem b (gather f l) → (a : A) × Mem a l × Mem b (f a)
  gather-out [] m = absurd (mem-nil m)
  gather-out {b} (x ∷ xs) m =
      ⊎_elim (λ k. (x, head refl, k))
      (λ k. let r : (a : A) × Mem a xs × Mem b (f a) = gather-out xs k in (r.0, tail r.1, r.2)) (append_cases (f x) m)

  -- `gather` goes through an append.
  pub gather_append : (l m : List A) → gather f (l ++ m) ≡ gather f l ++ gather f m
  gather_append [] m = refl
  gather_append (x ∷ l) m = ap (λ k. f x ++ k) (gather_append l m) ∙ sym (append_assoc (f x) _ _)

-- Members taken from two lists are taken from the first and then from the second.
pub run-append : {A B : Type 0} (f : B → A → B) (b : B) (l m : List A) → run f b (l ++ m) ≡ run f (run f b l) m
run-append f b [] m = refl
run-append f b (x ∷ l) m = run-append f (f b x) l m

module _ {K W : Type 0} where
  -- The key of a row is a key.
  pub key_in : {q : K × W} {l : List (K × W)} → Mem q l → Mem q.0 (keys l)
  key_in m = each_in (λ (p : K × W). p.0) m

  -- A key is the key of a row.
  pub key-out : {k : K} (l : List (K × W)) → Mem k (keys l) → (q : K × W) × Mem q l × (k ≡ q.0)
  key-out l m = each-out (λ (p : K × W). p.0) l m

-- n numbers are counted.
pub count-length : (k n : ℕ) → length (count k n) ≡ n
count-length k zero = refl
count-length k (suc n) = ap suc (count-length (suc k) n)

-- The numbers from k to below k + n are counted.
pub count-in : (k n : ℕ) {i : ℕ} → k ≤ i → i < k + n → Mem i (count k n)
count-in k zero h j = absurd (omega arith)
count-in k (suc n) {i} h j = ⊎_elim (λ e. head (sym e)) (λ d. tail (count-in (suc k) n (omega arith) (omega arith))) (is-or numbers k i)

-- What is counted is at least k and below k + n.
pub count-out : (k n : ℕ) {i : ℕ} → Mem i (count k n) → (k ≤ i) × (i < k + n)
count-out k zero m = absurd (mem-nil m)
count-out k (suc n) {i} m =
    ⊎_elim (λ e. (omega arith, omega arith))
    (λ j. let r : (suc k ≤ i) × (i < suc k + n) = count-out (suc k) n j in (omega arith, omega arith)) (mem-cons m)

-- No member comes twice.
pub data Once {A : Type 0} : List A → Type 0 where
  once-nil : Once []
  once-cons : {a : A} {l : List A} → (Mem a l → ⊥) → Once l → Once (a ∷ l)

module _ {A : Type 0} where
  -- The first member does not come again.
  pub once-head : {a : A} {l : List A} → Once (a ∷ l) → Mem a l → ⊥
  once-head (once-cons n o) = n

  -- The other members come once.
  pub once-tail : {a : A} {l : List A} → Once (a ∷ l) → Once l
  once-tail (once-cons n o) = o

  -- The members that pass a test come once.
  pub once-keep : (p : A → Bool) (l : List A) → Once l → Once (keep p l)
  once-keep p [] o = o
  once-keep p (x ∷ l) o = go (p x) (once-keep p l (once-tail o))
    where
      go : (b : Bool) → Once (keep p l) → Once (cond b (x ∷ keep p l) (keep p l))
      go true k = once-cons (λ m. once-head o (keep_out p l m).0) k
      go false k = k

  -- Two lists with no member in common, one after the other.
  pub once-append : (l m : List A) → Once l → Once m → ((a : A) → Mem a l → Mem a m → ⊥) → Once (l ++ m)
  once-append [] m o u f = u
  once-append (x ∷ l) m o u f = once-cons (λ k. ⊎_elim (once-head o) (f x (head refl)) (append_cases l k)) (once-append l m (once-tail o) u (λ a k j. f a (tail k) j))

  -- A place of a member is left out: one member fewer, and nothing else is lost.
  take_out : {a : A} {m : List A} → Mem a m → (r : List A) × (length m ≡ suc (length r)) × ((b : A) → Mem b m → (b ≡ a) ⊎ Mem b r)
  take_out (head {x} {xs} e) = (xs, refl, λ b k. ⊎_elim (λ h. inl (h ∙ sym e)) inr (mem-cons k))
  take_out {a} (tail {x} {xs} m) =
      let r : (r : List A) × (length xs ≡ suc (length r)) × ((b : A) → Mem b xs → (b ≡ a) ⊎ Mem b r) = take_out m in
      (x ∷ r.0, ap suc r.1, λ b k. ⊎_elim (λ h. inr (head h)) (λ j. ⊎_elim inl (λ i. inr (tail i)) (r.2 b j)) (mem-cons k))

  -- A list whose members come once and are all in another is no longer than that.
  pub once-shorter : {l : List A} → Once l → (m : List A) → ((a : A) → Mem a l → Mem a m) → length l ≤ length m
  once-shorter once-nil m f = omega arith
  once-shorter (once-cons {a} {l} n o) m f =
      let r : (r : List A) × (length m ≡ suc (length r)) × ((b : A) → Mem b m → (b ≡ a) ⊎ Mem b r) = take_out (f a (head refl)) in
      let h : length l ≤ length r.0 = once-shorter o r.0 (λ b k. ⊎_elim (λ e. absurd (n (mem-cast (sym e) k))) (λ j. j) (r.2 b (f b (tail k)))) in
      let e : length m ≡ suc (length r.0) = r.1 in omega arith

-- A rule that gives different things for different members leaves them once.
pub once-each : {A B : Type 0} (f : A → B) (l : List A) → ((a b : A) → Mem a l → Mem b l → f a ≡ f b → a ≡ b) → Once l → Once (each f l)
once-each f [] g o = once-nil
once-each f (x ∷ l) g o =
    once-cons (λ m. let r = each-out f l m in once-head o (mem-cast (g x r.0 (head refl) (tail r.1) r.2) r.1))
    (once-each f l (λ a b m k. g a b (tail m) (tail k)) (once-tail o))

module _ {A : Type 0} (eq : A → A → Bool) (sound : (a b : A) → T (eq a b) → a ≡ b) where
  -- Lists that pass the test of equality are equal.
  pub equal-out : (l m : List A) → T (equal eq l m) → l ≡ m
  equal-out [] [] t = refl
  equal-out [] (y ∷ m) t = absurd t
  equal-out (x ∷ l) [] t = absurd t
  equal-out (x ∷ l) (y ∷ m) t =
      let e : x ≡ y = sound x y (and-fst (eq x y) _ t) in
      let r : l ≡ m = equal-out l m (and-snd (eq x y) _ t) in
      λ i. e i ∷ r i

-- A list passes the test of equality with itself.
pub equal-self : {A : Type 0} (eq : A → A → Bool) → ((a : A) → T (eq a a)) → (l : List A) → T (equal eq l l)
equal-self eq self [] = tt
equal-self eq self (x ∷ l) = and_both (eq x x) _ (self x) (equal-self eq self l)

-- Equal lists pass the test of equality.
pub equal-in : {A : Type 0} (eq : A → A → Bool) → ((a : A) → T (eq a a)) → {l m : List A} → l ≡ m → T (equal eq l m)
equal-in eq self {l} e = subst (λ m. T (equal eq l m)) e (equal-self eq self l)

module _ {K : Type 0} {eq lt : K → K → Bool} (laws : Ordered eq lt) where
  -- A member passes the test of membership.
  pub has_of : {a : K} {l : List K} → Mem a l → T (has eq l a)
  has_of {a} m = any-in (eq a) m (laws.same_self a)

  -- What passes the test of membership is a member.
  pub of-has : {a : K} (l : List K) → T (has eq l a) → Mem a l
  of-has {a} l t = let r : (b : K) × Mem b l × T (eq a b) = any_out (eq a) l t in mem-cast (laws.same-eq a r.0 r.2) r.1

  -- What is no member fails the test of membership.
  pub hasnt-of : (a : K) (l : List K) → (Mem a l → ⊥) → T (not (has eq l a))
  hasnt-of a l n = not_T (has eq l a) (λ t. n (of-has l t))

  -- What fails the test of membership is no member.
  pub of-hasnt : {a : K} (l : List K) → T (not (has eq l a)) → Mem a l → ⊥
  of-hasnt {a} l t m = T_not (has eq l a) t (has_of m)

  -- A thing is a member or not.
  pub mem-or : (a : K) (l : List K) → Mem a l ⊎ (Mem a l → ⊥)
  mem-or a l = ⊎_elim (λ t. inl (of-has l t)) (λ t. inr (of-hasnt l t)) (decided (has eq l a))

  -- The other members stay.
  pub without_in : (x : K) {a : K} {l : List K} → Mem a l → (a ≡ x → ⊥) → Mem a (without eq x l)
  without_in x m n = keep-in (λ b. not (eq x b)) m (differ laws (λ e. n (sym e)))

  -- What stays is another member.
  pub without-out : (x : K) {a : K} (l : List K) → Mem a (without eq x l) → Mem a l × (a ≡ x → ⊥)
  without-out x {a} l m = let r : Mem a l × T (not (eq x a)) = keep_out (λ b. not (eq x b)) l m in (r.0, λ e. differs laws x a r.1 (sym e))

  -- To leave out what is no member changes nothing.
  pub without-none : (x : K) (l : List K) → (Mem x l → ⊥) → without eq x l ≡ l
  without-none x l n = keep_all (λ b. not (eq x b)) l (λ a m. differ laws (λ e. n (mem-cast e m)))

  -- To leave out one of members that come once leaves one fewer.
  pub without-length : {x : K} {l : List K} → Once l → Mem x l → suc (length (without eq x l)) ≡ length l
  without-length {x} (once-cons {a} {l} n o) m =
      ⊎_elim (λ e. ap (λ k. suc (length k)) (keep-no (λ b. not (eq x b)) a l (not_T (not (eq x a)) (λ t. differs laws x a t e)) ∙ without-none x l (λ k. n (mem-cast (sym e) k))))
      (λ k. ap (λ j. suc (length j)) (keep-yes (λ b. not (eq x b)) a l (differ laws (λ e. n (mem-cast (sym e) k)))) ∙ ap suc (without-length o k)) (mem-cons m)
  without-length once-nil m = absurd (mem-nil m)
