-- Tables: what stands under a key after each operation, and which rows there are.
use Rattle.std.specs.Prelude.{ℕ, suc, ◌≡◌, refl, ◌⊎◌, Bool, true, false, cond, not, T, length}
use Rattle.std.proofs.Common.{arith, sym, ◌∙◌, ap, subst, inl, inr, ⊎_elim, T_not}
use mathlib.Core.List.Memᴰ.{cases_cons as mem-cons}
use mathlib.Core.List.Memᴰ.{head}
use mathlib.Core.List.Memᴰ.{not-nil as mem-nil}
use mathlib.Core.List.Memᴰ.{tail}
use mathlib.Core.List.{List, [], ◌∷◌, Memᴰ as Mem}
use Rattle.std.proofs.Math.Option.{Option, none, some}
use Rattle.std.proofs.Math.Dec.{not_T}
use Rattle.model.specs.Facts.{Asc, At, Fair, Free, In}
use Rattle.model.specs.Lists.{keep, without, add, keys, get, put, only, drop_key, change}
use Rattle.model.proofs.Laws.Tests.{T_true, T_false, true_of, false_of}
use Rattle.model.proofs.Laws.Orders.{Ordered, same_of, differ, differs, is-or, lt-differ, asym}
use Rattle.model.proofs.Laws.Members.{keep_out, keep-no, keep_all, keep-each, each-out, each-ext, each-each, each_same, each-length, key_in, without-length}
use Rattle.model.proofs.Laws.Sorted.{asc-head, asc-tail, asc-once, keep-asc, add-asc, add-old, add-length-new}

module _ {K W : Type 0} {eq : K → K → Bool} where
  -- One value stands under a key.
  pub at_once : {t : List (K × W)} {a : K} {v w : W} → At eq t a v → At eq t a w → v ≡ w
  at_once p q = let e = p.is in let f = q.is in cc

  -- Nothing stands in the empty table.
  pub at-nil : {a : K} {v : W} → At eq [] a v → ⊥
  at-nil p = let e = p.is in let z : ◌≡◌ {A = ℕ} 0 1 = cc in omega arith

  -- A key at which nothing is found is free.
  pub free_of : (t : List (K × W)) (a : K) → get eq t a ≡ none → Free eq t a
  free_of t a e v p = let f = p.is in let z : ◌≡◌ {A = ℕ} 0 1 = cc in omega arith

  -- Something stands under a key, or it is free.
  pub at-or : (t : List (K × W)) (a : K) → In eq t a ⊎ Free eq t a
  at-or t a = go (get eq t a) refl
    where
      go : (o : Option W) → get eq t a ≡ o → In eq t a ⊎ Free eq t a
      go none e = inr (free_of t a e)
      go (some v) e = inl (v, record { is = e })

  -- At a free key nothing is found.
  pub of-free : (t : List (K × W)) (a : K) → Free eq t a → get eq t a ≡ none
  of-free t a n = go (get eq t a) refl
    where
      go : (o : Option W) → get eq t a ≡ o → get eq t a ≡ none
      go none e = e
      go (some v) e = absurd (n v (record { is = e }))

  -- Two tables in which the same stands under two keys give the same for them.
  pub get-same : (t u : List (K × W)) (a b : K) → ((v : W) → At eq t a v → At eq u b v) → ((v : W) → At eq u b v → At eq t a v) → get eq t a ≡ get eq u b
  get-same t u a b f g = ⊎_elim (λ r. r.1.is ∙ sym (f r.0 r.1).is) (λ n. of-free t a n ∙ sym (of-free u b (λ v p. n v (g v p)))) (at-or t a)

module _ {K W : Type 0} {eq lt : K → K → Bool} (laws : Ordered eq lt) where
  -- The first row is found by its key.
  pub at_head : {a b : K} {v : W} (t : List (K × W)) → a ≡ b → At eq ((b, v) ∷ t) a v
  at_head {a} {b} {v} t e = record { is = ap (λ c. cond c (some v) (get eq t a)) (true_of (eq a b) (same_of laws e)) }

  -- The first row is found by a key and with a value equal to its own.
  pub at_first : (q : K × W) (t : List (K × W)) {a : K} {v : W} → a ≡ q.0 → v ≡ q.1 → At eq (q ∷ t) a v
  at_first q t {a} e f = subst (λ w. At eq (q ∷ t) a w) (sym f) (at_head t e)

  -- A row is found past a row of another key.
  pub at_tail : {a : K} {v : W} {t : List (K × W)} (q : K × W) → T (not (eq a q.0)) → At eq t a v → At eq (q ∷ t) a v
  at_tail {a} {v} {t} q n p = record { is = ap (λ c. cond c (some q.1) (get eq t a)) (false_of (eq a q.0) n) ∙ p.is }

  -- What is found is the first row or is found past it.
  pub at-cases : {a : K} {v : W} (q : K × W) (t : List (K × W)) → At eq (q ∷ t) a v → ((a ≡ q.0) × (v ≡ q.1)) ⊎ (T (not (eq a q.0)) × At eq t a v)
  at-cases {a} {v} q t p = go (eq a q.0) refl p.is
    where
      go : (b : Bool) → eq a q.0 ≡ b → cond b (some q.1) (get eq t a) ≡ some v → ((a ≡ q.0) × (v ≡ q.1)) ⊎ (T (not (eq a q.0)) × At eq t a v)
      go true e f = inl (laws.same-eq a q.0 (T_true e), cc)
      go false e f = inr (T_false e, record { is = f })

  -- What is found is a row.
  pub at_mem : {a : K} {v : W} (t : List (K × W)) → At eq t a v → Mem (a, v) t
  at_mem [] p = absurd (at-nil p)
  at_mem (q ∷ t) p = ⊎_elim (λ e. head (λ i. (e.0 i, e.1 i))) (λ r. tail (at_mem t r.1)) (at-cases q t p)

  -- The key of what is found is a key.
  pub at_key : {a : K} {v : W} (t : List (K × W)) → At eq t a v → Mem a (keys t)
  at_key t p = key_in (at_mem t p)

  -- Something stands under each key.
  pub key-at : {a : K} (t : List (K × W)) → Mem a (keys t) → In eq t a
  key-at [] m = absurd (mem-nil m)
  key-at {a} (q ∷ t) m =
      ⊎_elim (λ e. (q.1, at_head t e))
      (λ n. ⊎_elim (λ e. absurd (n e)) (λ k. let r : In eq t a = key-at t k in (r.0, at_tail q (differ laws n) r.1)) (mem-cons m)) (is-or laws a q.0)

  -- What is no key is free.
  pub free-key : {a : K} (t : List (K × W)) → (Mem a (keys t) → ⊥) → Free eq t a
  free-key t n v p = n (at_key t p)

  -- A free key is no key.
  pub key-free : {a : K} (t : List (K × W)) → Free eq t a → Mem a (keys t) → ⊥
  key-free {a} t n m = let r : In eq t a = key-at t m in n r.0 r.1

  -- The value that is put in is found.
  pub at-put-self : (t : List (K × W)) (c : K) (v : W) → At eq (put lt c v t) c v
  at-put-self [] c v = at_head [] refl
  at-put-self (q ∷ t) c v = go (at-put-self t c v) (lt c q.0) (lt q.0 c) refl
    where
      go : At eq (put lt c v t) c v → (s u : Bool) → lt q.0 c ≡ u → At eq (cond s ((c, v) ∷ q ∷ t) (cond u (q ∷ put lt c v t) ((c, v) ∷ t))) c v
      go rec true u e = at_head _ refl
      go rec false true e = at_tail q (differ laws (λ d. lt-differ laws q.0 c (T_true e) (sym d))) rec
      go rec false false e = at_head _ refl

  -- Under another key stands what stood there.
  pub at-put-other : (t : List (K × W)) (c : K) (v : W) {a : K} {w : W} → (a ≡ c → ⊥) → At eq t a w → At eq (put lt c v t) a w
  at-put-other [] c v n p = absurd (at-nil p)
  at-put-other (q ∷ t) c v {a} {w} n p = go (λ r. at-put-other t c v n r) (lt c q.0) (lt q.0 c) refl refl
    where
      go : (At eq t a w → At eq (put lt c v t) a w) → (s u : Bool) → lt c q.0 ≡ s → lt q.0 c ≡ u → At eq (cond s ((c, v) ∷ q ∷ t) (cond u (q ∷ put lt c v t) ((c, v) ∷ t))) a w
      go rec true u d e = at_tail (c, v) (differ laws n) p
      go rec false true d e = ⊎_elim (λ k. at_first q _ k.0 k.1) (λ k. at_tail q k.0 (rec k.1)) (at-cases q t p)
      go rec false false d e =
          ⊎_elim (λ k. absurd (n (k.0 ∙ sym (laws.tri c q.0 (T_false d) (T_false e)))))
          (λ k. at_tail (c, v) (differ laws n) k.1) (at-cases q t p)

  -- What is found after a value is put in is that value or stood there.
  pub at-put-cases : (t : List (K × W)) (c : K) (v : W) {a : K} {w : W} → At eq (put lt c v t) a w → ((a ≡ c) × (w ≡ v)) ⊎ At eq t a w
  at-put-cases [] c v p = ⊎_elim (λ k. inl k) (λ k. absurd (at-nil k.1)) (at-cases (c, v) [] p)
  at-put-cases (q ∷ t) c v {a} {w} p = go (λ r. at-put-cases t c v r) (lt c q.0) (lt q.0 c) refl refl p
    where
      go : (At eq (put lt c v t) a w → ((a ≡ c) × (w ≡ v)) ⊎ At eq t a w) → (s u : Bool) → lt c q.0 ≡ s → lt q.0 c ≡ u → At eq (cond s ((c, v) ∷ q ∷ t) (cond u (q ∷ put lt c v t) ((c, v) ∷ t))) a w → ((a ≡ c) × (w ≡ v)) ⊎ At eq (q ∷ t) a w
      go rec true u d e r = ⊎_elim (λ k. inl k) (λ k. inr k.1) (at-cases (c, v) (q ∷ t) r)
      go rec false true d e r =
          ⊎_elim (λ k. inr (at_first q t k.0 k.1))
          (λ k. ⊎_elim (λ j. inl j) (λ j. inr (at_tail q k.0 j)) (rec k.1)) (at-cases q (put lt c v t) r)
      go rec false false d e r =
          ⊎_elim (λ k. inl k)
          (λ k. inr (at_tail q (subst (λ x. T (not (eq a x))) (laws.tri c q.0 (T_false d) (T_false e)) k.0) k.1)) (at-cases (c, v) t r)

  -- What is found after a value is put in is that value, or stands under another key.
  pub at-put-split : (t : List (K × W)) (c : K) (v : W) {a : K} {w : W} → At eq (put lt c v t) a w → ((a ≡ c) × (w ≡ v)) ⊎ ((a ≡ c → ⊥) × At eq t a w)
  at-put-split t c v {a} {w} p =
      ⊎_elim (λ e. inl (e, at_once (subst (λ b. At eq (put lt c v t) b w) e p) (at-put-self t c v)))
      (λ n. ⊎_elim (λ k. absurd (n k.0)) (λ k. inr (n, k)) (at-put-cases t c v p)) (is-or laws a c)

  -- The lookup of the key that is put in.
  pub get-put-self : (t : List (K × W)) (c : K) (v : W) → get eq (put lt c v t) c ≡ some v
  get-put-self t c v = (at-put-self t c v).is

  -- The lookup of another key.
  pub get-put-other : (t : List (K × W)) (c : K) (v : W) (a : K) → (a ≡ c → ⊥) → get eq (put lt c v t) a ≡ get eq t a
  get-put-other t c v a n = get-same (put lt c v t) t a a (λ w p. ⊎_elim (λ k. absurd (n k.0)) (λ k. k) (at-put-cases t c v p)) (λ w p. at-put-other t c v n p)

  -- A row after a value is put in is that one or an old one.
  pub put-out : (t : List (K × W)) (c : K) (v : W) {q : K × W} → Mem q (put lt c v t) → (q ≡ (c, v)) ⊎ Mem q t
  put-out [] c v m = mem-cons m
  put-out (p ∷ t) c v {q} m = go (λ k. put-out t c v k) (lt c p.0) (lt p.0 c) m
    where
      go : (Mem q (put lt c v t) → (q ≡ (c, v)) ⊎ Mem q t) → (s u : Bool) → Mem q (cond s ((c, v) ∷ p ∷ t) (cond u (p ∷ put lt c v t) ((c, v) ∷ t))) → (q ≡ (c, v)) ⊎ Mem q (p ∷ t)
      go rec true u k = mem-cons k
      go rec false true k = ⊎_elim (λ e. inr (head e)) (λ j. ⊎_elim (λ e. inl e) (λ i. inr (tail i)) (rec j)) (mem-cons k)
      go rec false false k = ⊎_elim (λ e. inl e) (λ j. inr (tail j)) (mem-cons k)

  -- The row that is put in is there.
  pub put_self : (t : List (K × W)) (c : K) (v : W) → Mem (c, v) (put lt c v t)
  put_self t c v = at_mem (put lt c v t) (at-put-self t c v)

  -- A row of another key stays.
  pub put_in : (t : List (K × W)) (c : K) (v : W) {q : K × W} → (q.0 ≡ c → ⊥) → Mem q t → Mem q (put lt c v t)
  put_in [] c v n m = absurd (mem-nil m)
  put_in (p ∷ t) c v {q} n m = go (λ k. put_in t c v n k) (lt c p.0) (lt p.0 c) refl refl (mem-cons m)
    where
      go : (Mem q t → Mem q (put lt c v t)) → (s u : Bool) → lt c p.0 ≡ s → lt p.0 c ≡ u → (q ≡ p) ⊎ Mem q t → Mem q (cond s ((c, v) ∷ p ∷ t) (cond u (p ∷ put lt c v t) ((c, v) ∷ t)))
      go rec true u d e k = tail m
      go rec false true d e (inl k) = head k
      go rec false true d e (inr k) = tail (rec k)
      go rec false false d e (inl k) = absurd (n (ap (λ (r : K × W). r.0) k ∙ sym (laws.tri c p.0 (T_false d) (T_false e))))
      go rec false false d e (inr k) = tail k

  -- The keys after a value is put in.
  pub keys-put : (t : List (K × W)) (c : K) (v : W) → keys (put lt c v t) ≡ add lt c (keys t)
  keys-put [] c v = refl
  keys-put (q ∷ t) c v = go (lt c q.0) (lt q.0 c) refl refl (keys-put t c v)
    where
      go : (s u : Bool) → lt c q.0 ≡ s → lt q.0 c ≡ u → keys (put lt c v t) ≡ add lt c (keys t) → keys (cond s ((c, v) ∷ q ∷ t) (cond u (q ∷ put lt c v t) ((c, v) ∷ t))) ≡ cond s (c ∷ q.0 ∷ keys t) (cond u (q.0 ∷ add lt c (keys t)) (q.0 ∷ keys t))
      go true u d e r = refl
      go false true d e r = ap (λ l. q.0 ∷ l) r
      go false false d e r = ap (λ k. k ∷ keys t) (laws.tri c q.0 (T_false d) (T_false e))

  -- A value that is put in under a free key makes a fair table.
  pub fair-put : (t : List (K × W)) (c : K) (v : W) → Fair eq t → Free eq t c → Fair eq (put lt c v t)
  fair-put t c v fair free q m =
      ⊎_elim (λ e. subst (λ (p : K × W). At eq (put lt c v t) p.0 p.1) (sym e) (at-put-self t c v))
      (λ k. at-put-other t c v (λ e. free q.1 (subst (λ a. At eq t a q.1) e (fair q k))) (fair q k)) (put-out t c v m)

  -- A changed value is found.
  pub at-change : (f : K → W → W) {a : K} {v : W} (t : List (K × W)) → At eq t a v → At eq (change f t) a (f a v)
  at-change f [] p = absurd (at-nil p)
  at-change f (q ∷ t) p =
      ⊎_elim (λ e. at_first (q.0, f q.0 q.1) _ e.0 (λ i. f (e.0 i) (e.1 i)))
      (λ r. at_tail (q.0, f q.0 q.1) r.0 (at-change f t r.1)) (at-cases q t p)

  -- What is found after a change is a changed value.
  pub at-unchange : (f : K → W → W) {a : K} {v : W} (t : List (K × W)) → At eq (change f t) a v → (w : W) × At eq t a w × (v ≡ f a w)
  at-unchange f [] p = absurd (at-nil p)
  at-unchange f {a} {v} (q ∷ t) p =
      ⊎_elim (λ e. (q.1, at_head t e.0, e.1 ∙ ap (λ x. f x q.1) (sym e.0)))
      (λ r. let k : (w : W) × At eq t a w × (v ≡ f a w) = at-unchange f t r.1 in (k.0, at_tail q r.0 k.1, k.2))
      (at-cases (q.0, f q.0 q.1) (change f t) p)

  -- A changed table is fair.
  pub fair-change : (f : K → W → W) (t : List (K × W)) → Fair eq t → Fair eq (change f t)
  fair-change f t fair q m =
      let r : (p : K × W) × Mem p t × (q ≡ (p.0, f p.0 p.1)) = each-out (λ (p : K × W). (p.0, f p.0 p.1)) t m in
      subst (λ (p : K × W). At eq (change f t) p.0 p.1) (sym r.2) (at-change f t (fair r.0 r.1))

  -- What stands under a key that passes the test stays.
  pub at_only : (p : K → Bool) {a : K} {v : W} (t : List (K × W)) → At eq t a v → T (p a) → At eq (only p t) a v
  at_only p [] d u = absurd (at-nil d)
  at_only p {a} {v} (q ∷ t) d u = go (λ r. at_only p t r u) (p q.0) refl (at-cases q t d)
    where
      go : (At eq t a v → At eq (only p t) a v) → (b : Bool) → p q.0 ≡ b → ((a ≡ q.0) × (v ≡ q.1)) ⊎ (T (not (eq a q.0)) × At eq t a v) → At eq (cond b (q ∷ only p t) (only p t)) a v
      go rec true e (inl k) = at_first q _ k.0 k.1
      go rec true e (inr k) = at_tail q k.0 (rec k.1)
      go rec false e (inl k) = absurd (subst T (ap p k.0 ∙ e) u)
      go rec false e (inr k) = rec k.1

  -- What stays stood under a key that passes the test.
  pub at-of-only : (p : K → Bool) {a : K} {v : W} (t : List (K × W)) → At eq (only p t) a v → At eq t a v × T (p a)
  at-of-only p [] d = absurd (at-nil d)
  at-of-only p {a} {v} (q ∷ t) d = go (λ r. at-of-only p t r) (p q.0) refl d
    where
      go : (At eq (only p t) a v → At eq t a v × T (p a)) → (b : Bool) → p q.0 ≡ b → At eq (cond b (q ∷ only p t) (only p t)) a v → At eq (q ∷ t) a v × T (p a)
      go rec true e r =
          ⊎_elim (λ k. (at_first q t k.0 k.1, subst (λ x. T (p x)) (sym k.0) (T_true e)))
          (λ k. let j : At eq t a v × T (p a) = rec k.1 in (at_tail q k.0 j.0, j.1)) (at-cases q (only p t) r)
      go rec false e r =
          let j : At eq t a v × T (p a) = rec r in
          (at_tail q (differ laws (λ d. T_not (p q.0) (T_false e) (subst (λ x. T (p x)) d j.1))) j.0, j.1)

  -- The rows whose keys pass a test make a fair table.
  pub fair-only : (p : K → Bool) (t : List (K × W)) → Fair eq t → Fair eq (only p t)
  fair-only p t fair q m = let r : Mem q t × T (p q.0) = keep_out (λ (q : K × W). p q.0) t m in at_only p t (fair q r.0) r.1

  -- The lookup of a key that passes the test.
  pub get-only-yes : (p : K → Bool) (t : List (K × W)) (a : K) → T (p a) → get eq (only p t) a ≡ get eq t a
  get-only-yes p t a u = get-same (only p t) t a a (λ v d. (at-of-only p t d).0) (λ v d. at_only p t d u)

  -- The lookup of a key that fails the test.
  pub get-only-no : (p : K → Bool) (t : List (K × W)) (a : K) → T (not (p a)) → get eq (only p t) a ≡ none
  get-only-no p t a u = of-free (only p t) a (λ v d. T_not (p a) u (at-of-only p t d).1)

  -- The key that is left out is free.
  pub get-drop-self : (t : List (K × W)) (c : K) → get eq (drop_key eq c t) c ≡ none
  get-drop-self t c = get-only-no (λ a. not (eq c a)) t c (not_T (not (eq c c)) (λ u. T_not (eq c c) u (laws.same_self c)))

  -- The lookup of another key than the one left out.
  pub get-drop-other : (t : List (K × W)) (c a : K) → (a ≡ c → ⊥) → get eq (drop_key eq c t) a ≡ get eq t a
  get-drop-other t c a n = get-only-yes (λ b. not (eq c b)) t a (differ laws (λ e. n (sym e)))

  -- What stands after a key is left out stood there, under another key.
  pub at-of-drop : (c : K) {a : K} {v : W} (t : List (K × W)) → At eq (drop_key eq c t) a v → At eq t a v × (a ≡ c → ⊥)
  at-of-drop c {a} {v} t d = let r : At eq t a v × T (not (eq c a)) = at-of-only (λ b. not (eq c b)) t d in (r.0, λ e. differs laws c a r.1 (sym e))

  -- To leave out a free key changes nothing in a fair table.
  pub drop-free : (t : List (K × W)) (c : K) → Fair eq t → Free eq t c → drop_key eq c t ≡ t
  drop-free t c fair free = keep_all (λ (q : K × W). not (eq c q.0)) t (λ q m. differ laws (λ e. free q.1 (subst (λ a. At eq t a q.1) (sym e) (fair q m))))

  -- The rows that a test by the key leaves, after a row whose key fails is put in.
  pub only-put-no : (p : K → Bool) (t : List (K × W)) (c : K) (v : W) → T (not (p c)) → only p (put lt c v t) ≡ only p t
  only-put-no p [] c v u = keep-no (λ (q : K × W). p q.0) (c, v) [] u
  only-put-no p (q ∷ t) c v u = go (lt c q.0) (lt q.0 c) refl refl (only-put-no p t c v u)
    where
      go : (s r : Bool) → lt c q.0 ≡ s → lt q.0 c ≡ r → only p (put lt c v t) ≡ only p t → only p (cond s ((c, v) ∷ q ∷ t) (cond r (q ∷ put lt c v t) ((c, v) ∷ t))) ≡ only p (q ∷ t)
      go true r d e h = keep-no (λ (q : K × W). p q.0) (c, v) (q ∷ t) u
      go false true d e h = ap (λ k. cond (p q.0) (q ∷ k) k) h
      go false false d e h =
          keep-no (λ (q : K × W). p q.0) (c, v) t u
          ∙ sym (keep-no (λ (q : K × W). p q.0) q t (subst (λ x. T (not (p x))) (laws.tri c q.0 (T_false d) (T_false e)) u))

  -- A table with ascending keys is fair.
  pub asc-fair : (t : List (K × W)) → Asc lt (keys t) → Fair eq t
  asc-fair [] s q m = absurd (mem-nil m)
  asc-fair (p ∷ t) s q m =
      ⊎_elim (λ e. at_first p t (ap (λ (r : K × W). r.0) e) (ap (λ (r : K × W). r.1) e))
      (λ k. at_tail p (differ laws (λ e. lt-differ laws p.0 q.0 (asc-head s q.0 (key_in k)) (sym e))) (asc-fair t (asc-tail s) q k)) (mem-cons m)

  -- In a table with ascending keys a row is found by its key.
  pub asc-mem-at : {a : K} {v : W} (t : List (K × W)) → Asc lt (keys t) → Mem (a, v) t → At eq t a v
  asc-mem-at {a} {v} t s m = asc-fair t s (a, v) m

  -- In a table with ascending keys a key has one row.
  pub asc-one-row : {a : K} {v w : W} (t : List (K × W)) → Asc lt (keys t) → Mem (a, v) t → Mem (a, w) t → v ≡ w
  asc-one-row t s m k = at_once (asc-mem-at t s m) (asc-mem-at t s k)

  -- The keys are ascending after a value is put in.
  pub put-asc : (t : List (K × W)) (c : K) (v : W) → Asc lt (keys t) → Asc lt (keys (put lt c v t))
  put-asc t c v s = subst (λ l. Asc lt l) (sym (keys-put t c v)) (add-asc laws c (keys t) s)

  -- The rows of a table with ascending keys after a value is put in.
  pub mem-put-out : (t : List (K × W)) (c : K) (v : W) {q : K × W} → Asc lt (keys t) → Mem q (put lt c v t) → (q ≡ (c, v)) ⊎ (Mem q t × (q.0 ≡ c → ⊥))
  mem-put-out t c v {q} s m =
      ⊎_elim (λ k. inl (λ i. (k.0 i, k.1 i))) (λ k. inr (at_mem t k.1, k.0)) (at-put-split t c v (asc-fair (put lt c v t) (put-asc t c v s) q m))

  -- Two tables with ascending keys and the same rows are equal.
  pub table-equal : (t u : List (K × W)) → Asc lt (keys t) → Asc lt (keys u) → ((q : K × W) → Mem q t → Mem q u) → ((q : K × W) → Mem q u → Mem q t) → t ≡ u
  table-equal [] [] s r f g = refl
  table-equal [] (y ∷ u) s r f g = absurd (mem-nil (g y (head refl)))
  table-equal (x ∷ t) [] s r f g = absurd (mem-nil (f x (head refl)))
  table-equal (x ∷ t) (y ∷ u) s r f g = let tl : t ≡ u = table-equal t u (asc-tail s) (asc-tail r) down up in λ i. hd i ∷ tl i
    where
      hd : x ≡ y
      hd = ⊎_elim (λ e. e) (λ k. ⊎_elim (λ e. sym e) (λ j. absurd (asym laws x.0 y.0 (asc-head s y.0 (key_in j)) (asc-head r x.0 (key_in k)))) (mem-cons (g y (head refl)))) (mem-cons (f x (head refl)))

      down : (q : K × W) → Mem q t → Mem q u
      down q k = ⊎_elim (λ e. absurd (lt-differ laws x.0 q.0 (asc-head s q.0 (key_in k)) (ap (λ (p : K × W). p.0) (hd ∙ sym e)))) (λ j. j) (mem-cons (f q (tail k)))

      up : (q : K × W) → Mem q u → Mem q t
      up q k = ⊎_elim (λ e. absurd (lt-differ laws y.0 q.0 (asc-head r q.0 (key_in k)) (ap (λ (p : K × W). p.0) (sym hd ∙ sym e)))) (λ j. j) (mem-cons (g q (tail k)))

  -- Two tables with ascending keys that give the same for every key are equal.
  pub table_same : (t u : List (K × W)) → Asc lt (keys t) → Asc lt (keys u) → ((a : K) → get eq t a ≡ get eq u a) → t ≡ u
  table_same t u s r f =
      table-equal t u s r (λ q m. at_mem u (record { is = sym (f q.0) ∙ (asc-fair t s q m).is })) (λ q m. at_mem t (record { is = f q.0 ∙ (asc-fair u r q m).is }))

-- There are as many keys as rows.
pub keys_length : {K W : Type 0} (t : List (K × W)) → length (keys t) ≡ length t
keys_length {K} {W} t = each-length (λ (q : K × W). q.0) t

-- The keys after the values are changed.
pub keys-change : {K W : Type 0} (f : K → W → W) (t : List (K × W)) → keys (change f t) ≡ keys t
keys-change f [] = refl
keys-change f (q ∷ t) = ap (λ l. q.0 ∷ l) (keys-change f t)

-- The keys of the rows whose keys pass a test.
pub keys-only : {K W : Type 0} (p : K → Bool) (t : List (K × W)) → keys (only p t) ≡ keep p (keys t)
keys-only {K} {W} p t = sym (keep-each (λ (q : K × W). q.0) p t)

-- The keys after one is left out.
pub keys-drop : {K W : Type 0} (eq : K → K → Bool) (c : K) (t : List (K × W)) → keys (drop_key eq c t) ≡ without eq c (keys t)
keys-drop eq c t = keys-only (λ a. not (eq c a)) t

-- A test by the key goes through a change.
pub only-change : {K W : Type 0} (p : K → Bool) (f : K → W → W) (t : List (K × W)) → only p (change f t) ≡ change f (only p t)
only-change {K} {W} p f t = keep-each (λ (q : K × W). (q.0, f q.0 q.1)) (λ (q : K × W). p q.0) t

-- Two changes that agree on all rows give the same.
pub change-ext : {K W : Type 0} (f g : K → W → W) (t : List (K × W)) → ((q : K × W) → Mem q t → f q.0 q.1 ≡ g q.0 q.1) → change f t ≡ change g t
change-ext {K} {W} f g t h = each-ext (λ (q : K × W). (q.0, f q.0 q.1)) (λ (q : K × W). (q.0, g q.0 q.1)) t (λ q m. ap (λ w. (q.0, w)) (h q m))

-- A change that changes no row changes nothing.
pub change-same : {K W : Type 0} (f : K → W → W) (t : List (K × W)) → ((q : K × W) → Mem q t → f q.0 q.1 ≡ q.1) → change f t ≡ t
change-same {K} {W} f t h = each_same (λ (q : K × W). (q.0, f q.0 q.1)) t (λ q m. ap (λ w. (q.0, w)) (h q m))

-- One change after another is one change.
pub change-change : {K W : Type 0} (f g : K → W → W) (t : List (K × W)) → change f (change g t) ≡ change (λ k v. f k (g k v)) t
change-change {K} {W} f g t = each-each (λ (q : K × W). (q.0, f q.0 q.1)) (λ (q : K × W). (q.0, g q.0 q.1)) t

module _ {K W : Type 0} {eq lt : K → K → Bool} (laws : Ordered eq lt) where
  -- The keys are ascending after the values are changed.
  pub change-asc : (f : K → W → W) (t : List (K × W)) → Asc lt (keys t) → Asc lt (keys (change f t))
  change-asc f t s = subst (λ l. Asc lt l) (sym (keys-change f t)) s

  -- The keys that pass a test are ascending.
  pub only-asc : (p : K → Bool) (t : List (K × W)) → Asc lt (keys t) → Asc lt (keys (only p t))
  only-asc p t s = subst (λ l. Asc lt l) (sym (keys-only p t)) (keep-asc p (keys t) s)

  -- The keys are ascending after one is left out.
  pub drop-asc : (c : K) (t : List (K × W)) → Asc lt (keys t) → Asc lt (keys (drop_key eq c t))
  drop-asc c t s = only-asc (λ a. not (eq c a)) t s

  -- The rows that a test by the key leaves, after a row whose key passes is put in.
  pub only-put-yes : (p : K → Bool) (t : List (K × W)) (c : K) (v : W) → Asc lt (keys t) → T (p c) → only p (put lt c v t) ≡ put lt c v (only p t)
  only-put-yes p t c v s u =
      table_same laws (only p (put lt c v t)) (put lt c v (only p t)) (only-asc p (put lt c v t) (put-asc laws t c v s)) (put-asc laws (only p t) c v (only-asc p t s))
      (λ a. get-same (only p (put lt c v t)) (put lt c v (only p t)) a a (λ w d. there d) (λ w d. back d))
    where
      there : {a : K} {w : W} → At eq (only p (put lt c v t)) a w → At eq (put lt c v (only p t)) a w
      there {a} {w} d =
          let r : At eq (put lt c v t) a w × T (p a) = at-of-only laws p (put lt c v t) d in
          ⊎_elim (λ k. record { is = ap (λ b. get eq (put lt c v (only p t)) b) k.0 ∙ get-put-self laws (only p t) c v ∙ ap some (sym k.1) })
          (λ k. at-put-other laws (only p t) c v k.0 (at_only laws p t k.1 r.1)) (at-put-split laws t c v r.0)

      back : {a : K} {w : W} → At eq (put lt c v (only p t)) a w → At eq (only p (put lt c v t)) a w
      back {a} {w} d =
          ⊎_elim (λ k. at_only laws p (put lt c v t) (record { is = ap (λ b. get eq (put lt c v t) b) k.0 ∙ get-put-self laws t c v ∙ ap some (sym k.1) }) (subst (λ b. T (p b)) (sym k.0) u))
          (λ k. let r : At eq t a w × T (p a) = at-of-only laws p t k.1 in at_only laws p (put lt c v t) (at-put-other laws t c v k.0 r.0) r.1)
          (at-put-split laws (only p t) c v d)

  -- To put in what stands there changes nothing.
  pub put-old : (t : List (K × W)) (c : K) (v : W) → Asc lt (keys t) → At eq t c v → put lt c v t ≡ t
  put-old t c v s d =
      table_same laws (put lt c v t) t (put-asc laws t c v s) s
      (λ a. ⊎_elim (λ e. ap (λ b. get eq (put lt c v t) b) e ∙ get-put-self laws t c v ∙ sym d.is ∙ ap (λ b. get eq t b) (sym e)) (λ n. get-put-other laws t c v a n) (is-or laws a c))

  -- A value under a free key makes one row more.
  pub put-length-new : (t : List (K × W)) (c : K) (v : W) → Free eq t c → length (put lt c v t) ≡ suc (length t)
  put-length-new t c v free =
      sym (keys_length (put lt c v t)) ∙ ap length (keys-put laws t c v)
      ∙ add-length-new laws c (keys t) (key-free laws t free) ∙ ap suc (keys_length t)

  -- A value in place of another leaves as many rows.
  pub put-length-old : (t : List (K × W)) (c : K) (v : W) → Asc lt (keys t) → In eq t c → length (put lt c v t) ≡ length t
  put-length-old t c v s d =
      sym (keys_length (put lt c v t)) ∙ ap length (keys-put laws t c v ∙ add-old laws s (at_key laws t d.1))
      ∙ keys_length t

  -- A key left out leaves one row fewer.
  pub drop-length : (t : List (K × W)) (c : K) → Asc lt (keys t) → In eq t c → suc (length (drop_key eq c t)) ≡ length t
  drop-length t c s d =
      ap suc (sym (keys_length (drop_key eq c t)) ∙ ap length (keys-drop eq c t))
      ∙ without-length laws (asc-once laws s) (at_key laws t d.1) ∙ keys_length t
