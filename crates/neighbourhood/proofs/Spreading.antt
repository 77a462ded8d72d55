-- The marks of a flood: along the queue they never fall, the last is at most a step above the head's, and each row that is done has its
-- neighbours marked with at most its mark and a step.
use Prim.Native.Nat.{ℕ, suc, ◌+◌, ◌*◌, ◌≤◌, ◌<◌}
use native.Mathlib.Nat.{mul-le-mul_left, zero-mul}
use native.Mathlib.Omega.{arith}
use mathlib.Core.Path.{◌≡◌, refl, sym, ◌∙◌, ap, subst}
use mathlib.Core.Logic.{◌⊎◌, inl, inr, ⊎_elim}
use mathlib.Core.List.Memᴰ.{append_cases}
use mathlib.Core.List.Memᴰ.{append_left}
use mathlib.Core.List.Memᴰ.{append_right}
use mathlib.Core.List.Memᴰ.{cases_cons as mem-cons}
use mathlib.Core.List.Memᴰ.{cast as mem-cast}
use mathlib.Core.List.Memᴰ.{eq_of_singleton as mem-one}
use mathlib.Core.List.Memᴰ.{head}
use mathlib.Core.List.Memᴰ.{not-nil as mem-nil}
use mathlib.Core.List.Memᴰ.{tail}
use mathlib.Core.List.{List, [], ◌∷◌, ◌++◌, append_assoc, append-nil, Memᴰ as Mem}
use lib.ListN.{length, get_or, length-append}
use Rattle.model.proofs.Laws.Orders.{numbers}
use Rattle.model.proofs.Laws.Members.{mem-or}
use Rattle.neighbourhood.specs.Rows.{onward}
use Rattle.neighbourhood.specs.Standing.{Levels}

-- Along some rows the marks never fall, and none is more than a step above another.
pub data Even (m : ℕ → ℕ) (step : ℕ) : List ℕ → Type 0 where
  even-nil : Even m step []
  even-cons : {x : ℕ} {l : List ℕ} → ((y : ℕ) → Mem y l → (m x ≤ m y) × (m y ≤ m x + step)) → Even m step l → Even m step (x ∷ l)

module _ (m : ℕ → ℕ) (step : ℕ) where
  even-head : {x : ℕ} {l : List ℕ} → Even m step (x ∷ l) → (y : ℕ) → Mem y l → (m x ≤ m y) × (m y ≤ m x + step)
  even-head (even-cons h e) = h

  even-tail : {x : ℕ} {l : List ℕ} → Even m step (x ∷ l) → Even m step l
  even-tail (even-cons h e) = e

  -- Rows with one mark.
  even-flat : (v : ℕ) (l : List ℕ) → ((j : ℕ) → Mem j l → m j ≡ v) → Even m step l
  even-flat v [] f = even-nil
  even-flat v (x ∷ l) f = even-cons {x = x} (λ y k. let a = f x (head refl) in let b = f y (tail k) in (omega arith, omega arith)) (even-flat v l (λ j k. f j (tail k)))

  -- Rows behind others.
  even-append : (l r : List ℕ) → Even m step l → Even m step r → ((a b : ℕ) → Mem a l → Mem b r → (m a ≤ m b) × (m b ≤ m a + step)) → Even m step (l ++ r)
  even-append [] r e d f = d
  even-append (x ∷ l) r e d f =
      even-cons (λ y k. ⊎_elim (even-head e y) (f x y (head refl)) (append_cases l k)) (even-append l r (even-tail e) d (λ a b k. f a b (tail k)))

  -- The same marks.
  even-same : (m' : ℕ → ℕ) (l : List ℕ) → ((j : ℕ) → Mem j l → m' j ≡ m j) → Even m step l → Even m' step l
  even-same m' [] f e = even-nil
  even-same m' (x ∷ l) f e =
      even-cons {x = x} (λ y k. let a = f x (head refl) in let b = f y (tail k) in let r = even-head e y k in (omega arith, omega arith)) (even-same m' l (λ j k. f j (tail k)) (even-tail e))

-- The rows D are done and the rows W wait; `near` tells the rows that a row leads to, `m` the marks, and `was` those of the rows that are not queued.
pub record Spread (near : ℕ → List ℕ) (seed label step : ℕ) (was : ℕ → ℕ) (D W : List ℕ) (m : ℕ → ℕ) : Type 0 where
  pub seeded : Mem seed (D ++ W)
  pub first : m seed ≡ label
  pub origin : (j : ℕ) → Mem j (D ++ W) → (j ≡ seed) ⊎ ((i : ℕ) × Mem i D × Mem j (near i) × (m j ≡ m i + step))
  pub shut : (i j : ℕ) → Mem i D → Mem j (near i) → m j ≡ 0 → ⊥
  pub close : (i j : ℕ) → Mem i D → Mem j (near i) → Mem j (D ++ W) → m j ≤ m i + step
  pub even : Even m step W
  pub past : (i j : ℕ) → Mem i D → Mem j W → m i ≤ m j
  pub high : (j : ℕ) → Mem j (D ++ W) → label ≤ m j
  pub low : (j : ℕ) → Mem j (D ++ W) → m j + step ≤ label + step * length (D ++ W)
  pub kept : (j : ℕ) → (Mem j (D ++ W) → ⊥) → m j ≡ was j

-- A list with a member is not empty.
pub mem-some : {j : ℕ} (l : List ℕ) → Mem j l → 0 < length l
mem-some [] k = absurd (mem-nil k)
mem-some (x ∷ l) k = omega arith

-- The first of the waiting rows becomes the last that is done, and the rows R come behind.
pub queue-more : (D W R : List ℕ) (i : ℕ) → (D ++ (i ∷ [])) ++ (W ++ R) ≡ (D ++ (i ∷ W)) ++ R
queue-more D W R i = append_assoc D (i ∷ []) (W ++ R) ∙ sym (append_assoc D (i ∷ W) R)

module _ (near : ℕ → List ℕ) (seed label step : ℕ) (was : ℕ → ℕ) where
  -- The seed waits, and nothing else is queued.
  pub spread-start : was seed ≡ label → Spread near seed label step was [] (seed ∷ []) was
  spread-start e =
      record {
        seeded = head refl;
        first = e;
        origin = λ j k. inl (mem-one k);
        shut = λ i j k. absurd (mem-nil k);
        close = λ i j k. absurd (mem-nil k);
        even = even-cons (λ y k. absurd (mem-nil k)) even-nil;
        past = λ i j k l. absurd (mem-nil k);
        high = λ j k. let u : was j ≡ label = ap was (mem-one k) ∙ e in omega arith;
        low = λ j k. let u : was j ≡ label = ap was (mem-one k) ∙ e in omega arith;
        kept = λ j k. refl;
      }

  -- With no step all marks of the flood are the label.
  pub spread-flat : step ≡ 0 → (D W : List ℕ) (m : ℕ → ℕ) → Spread near seed label step was D W m → (j : ℕ) → Mem j (D ++ W) → m j ≡ label
  spread-flat z D W m s j k =
      let e : step * length (D ++ W) ≡ 0 = ap (λ v. v * length (D ++ W)) z ∙ zero-mul (length (D ++ W)) in
      let a = s.high j k in
      let b = s.low j k in
      omega arith

  module _ (D W R : List ℕ) (i : ℕ) (m m' : ℕ → ℕ) (some : label ≡ 0 → ⊥) (s : Spread near seed label step was D (i ∷ W) m)
      (new : (j : ℕ) → Mem j R → Mem j (near i) × (m j ≡ 0) × (m' j ≡ m i + step)) (old : (j : ℕ) → (Mem j R → ⊥) → m' j ≡ m j)
      (all : (j : ℕ) → Mem j (near i) → m j ≡ 0 → Mem j R) where
    abbrev Q : List ℕ
    Q = D ++ (i ∷ W)

    abbrev Q' : List ℕ
    Q' = (D ++ (i ∷ [])) ++ (W ++ R)

    more : Q' ≡ Q ++ R
    more = queue-more D W R i

    long : length Q' ≡ length Q + length R
    long = ap length more ∙ length-append Q R

    here : Mem i Q
    here = append_right D (head refl)

    -- The mark of a row that is queued stays.
    stays : (j : ℕ) → Mem j Q → m' j ≡ m j
    stays j k = old j (λ r. let z = (new j r).1 in let h = s.high j k in some (omega arith))

    was-queued : (j : ℕ) → Mem j Q' → Mem j Q ⊎ Mem j R
    was-queued j k = append_cases Q (subst (λ l. Mem j l) more k)

    was-done : (j : ℕ) → Mem j (D ++ (i ∷ [])) → Mem j D ⊎ (j ≡ i)
    was-done j k = ⊎_elim inl (λ u. inr (mem-one u)) (append_cases D k)

    -- An unmarked row that the row leads to is marked then.
    lit : (j : ℕ) → (m j ≡ 0 → Mem j R) → m' j ≡ 0 → ⊥
    lit j f z =
        ⊎_elim (λ r. let a = (new j r).2 in let b = s.high i here in some (omega arith))
        (λ r. r (f (sym (old j r) ∙ z))) (mem-or numbers j R)

    -- What is queued already is at most a step above the row.
    above : (j : ℕ) → Mem j Q → m j ≤ m i + step
    above j k =
        ⊎_elim (λ d. let a = s.past j i d (head refl) in omega arith)
        (λ w. ⊎_elim (λ e. let a : m j ≡ m i = ap m e in omega arith) (λ v. (even-head m step s.even j v).1) (mem-cons w)) (append_cases D k)

    -- The first of the waiting rows is done: those that it leads to and that are unmarked come to wait behind the others.
    pub spread-step : Spread near seed label step was (D ++ (i ∷ [])) (W ++ R) m'
    spread-step =
        record {
          seeded = subst (λ l. Mem seed l) (sym more) (append_left R s.seeded);
          first = stays seed s.seeded ∙ s.first;
          origin = λ j k. ⊎_elim
              (λ q. ⊎_elim inl (λ r. inr (r.0, append_left (i ∷ []) r.1, r.2, stays j q ∙ r.3 ∙ ap (λ v. v + step) (sym (stays r.0 (append_left (i ∷ W) r.1))))) (s.origin j q))
              (λ r. inr (i, append_right D (head refl), (new j r).0, (new j r).2 ∙ ap (λ v. v + step) (sym (stays i here)))) (was-queued j k);
          shut = λ a j k n. ⊎_elim (λ d. lit j (λ z. absurd (s.shut a j d n z))) (λ e. lit j (all j (subst (λ v. Mem j (near v)) e n))) (was-done a k);
          close = λ a j k n q. ⊎_elim
              (λ d. let f = stays a (append_left (i ∷ W) d) in ⊎_elim (λ u. let g = stays j u in let h = s.close a j d n u in omega arith) (λ r. absurd (s.shut a j d n (new j r).1)) (was-queued j q))
              (λ e. let f : m' a ≡ m i = ap m' e ∙ stays i here in ⊎_elim (λ u. let g = stays j u in let h = above j u in omega arith) (λ r. let g = (new j r).2 in omega arith) (was-queued j q))
              (was-done a k);
          even =
              even-append m' step W R (even-same m step m' W (λ j k. stays j (append_right D (tail k))) (even-tail m step s.even)) (even-flat m' step (m i + step) R (λ j r. (new j r).2))
              (λ a b k r. let f = stays a (append_right D (tail k)) in let g = (new b r).2 in let h = even-head m step s.even a k in (omega arith, omega arith));
          past = λ a b k l. let g = stays i here in ⊎_elim
              (λ d. let f = stays a (append_left (i ∷ W) d) in ⊎_elim
              (λ u. let e = stays b (append_right D (tail u)) in let h = s.past a b d (tail u) in omega arith)
              (λ r. let e = (new b r).2 in let h = s.past a i d (head refl) in omega arith) (append_cases W l))
              (λ v. let f : m' a ≡ m i = ap m' v ∙ g in ⊎_elim
              (λ u. let e = stays b (append_right D (tail u)) in let h = (even-head m step s.even b u).0 in omega arith)
              (λ r. let e = (new b r).2 in omega arith) (append_cases W l))
              (was-done a k);
          high = λ j k. ⊎_elim (λ q. let e = stays j q in let h = s.high j q in omega arith) (λ r. let e = (new j r).2 in let h = s.high i here in omega arith) (was-queued j k);
          low = λ j k. ⊎_elim
              (λ q. let e = stays j q in let h = s.low j q in let u : length Q ≤ length Q' = omega (arith, long) in omega (arith, mul-le-mul_left step u))
              (λ r. let e = (new j r).2 in let h = s.low i here in let u : suc (length Q) ≤ length Q' = omega (arith, long, mem-some R r) in omega (arith, mul-le-mul_left step u))
              (was-queued j k);
          kept = λ j n. old j (λ r. n (subst (λ l. Mem j l) (sym more) (append_right Q r))) ∙ s.kept j (λ q. n (subst (λ l. Mem j l) (sym more) (append_left R q)));
        }

-- From 1 by steps of 1 over unmarked rows, the marks tell the distances once all rows that are queued are done.
module _ (words : List ℕ) (n seed : ℕ) (was : ℕ → ℕ) (D : List ℕ) (marks : List ℕ) (s : Spread (onward words n) seed 1 1 was D [] (λ j. get_or marks j 0))
    (back : (i j : ℕ) → i < n → Mem j (onward words n i) → Mem i (onward words n j)) (there : (i j : ℕ) → i < n → Mem j (onward words n i) → j < n)
    (under : (j : ℕ) → Mem j (D ++ []) → j < n) (fewer : length (D ++ []) ≤ n) (clear : (j : ℕ) → j < n → (j ≡ seed → ⊥) → was j ≡ 0) where
  abbrev m : ℕ → ℕ
  m j = get_or marks j 0

  -- A marked row is queued.
  marked-in : (j : ℕ) → j < n → (m j ≡ 0 → ⊥) → Mem j (D ++ [])
  marked-in j h f =
      ⊎_elim (λ k. k) (λ k. absurd (f (s.kept j k ∙ clear j h (λ e. k (mem-cast e s.seeded))))) (mem-or numbers j (D ++ []))

  in-done : (j : ℕ) → Mem j (D ++ []) → Mem j D
  in-done j k = subst (λ l. Mem j l) (append-nil D) k

  pub spread-levels : Levels words n seed marks
  spread-levels =
      record {
        first = s.first;
        alone = λ j h e. ⊎_elim (λ u. u) (λ r. let a = r.3 in let b = s.high r.0 (append_left [] r.1) in absurd (omega arith)) (s.origin j (marked-in j h (λ z. omega arith)));
        back = λ j d h e. ⊎_elim (λ u. let a : m j ≡ 1 = ap m u ∙ s.first in absurd (omega arith))
            (λ r. let a = r.3 in let i-under = under r.0 (append_left [] r.1) in (r.0, i-under, back r.0 j i-under r.2, omega arith)) (s.origin j (marked-in j h (λ z. omega arith)));
        close = λ i j h k f.
            let d = in-done i (marked-in i h f) in
            let f' = s.shut i j d k in
            (f', let a = s.close i j d k (marked-in j (there i j h k) f') in omega arith);
        few = λ j h. ⊎_elim (λ k. let a = s.low j k in omega arith) (λ k. let e = s.kept j k ∙ clear j h (λ e. k (mem-cast e s.seeded)) in omega arith) (mem-or numbers j (D ++ []));
      }
