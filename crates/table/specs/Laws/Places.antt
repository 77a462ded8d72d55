-- What a table's operations do at the place of a key.
use Rattle.std.specs.Prelude.{ℕ, zero, suc, ◌≤◌, ◌<◌, ◌≡◌, refl, Bool, true, false, cond, not, T, ltb, leb, length, take, drop, get_or}
use Rattle.std.proofs.Common.{le_of_suc-le-suc, not-suc-le-zero, arith, sym, ap, ◌∙◌, subst, ⊎_elim, T_not, ltb→lt, lt→ltb, leb→le, le→leb, take-append-drop}
use mathlib.Core.List.Memᴰ.{append_right}
use mathlib.Core.List.Memᴰ.{cases_cons as mem-cons}
use mathlib.Core.List.Memᴰ.{head}
use mathlib.Core.List.Memᴰ.{tail}
use mathlib.Core.List.{List, [], ◌∷◌, ◌++◌, Memᴰ as Mem}
use Rattle.std.proofs.Math.Option.{none, some}
use Rattle.model.specs.Facts.{Asc}
use Rattle.model.specs.Lists.{has, keys, get, put, drop_key}
use Rattle.model.proofs.Laws.Tests.{T_true, T_false, true_of, false_of, or-neither}
use Rattle.model.proofs.Laws.Orders.{Ordered, same_of, differ, lt-differ, asym}
use Rattle.model.proofs.Laws.Members.{keep-yes, keep-no, has_of, hasnt-of, of-hasnt}
use Rattle.model.proofs.Laws.Sorted.{asc-head, asc-tail}
use Rattle.model.proofs.Laws.Tables.{of-free, free-key, drop-free, asc-fair, asc-mem-at}
use Rattle.std.specs.Prelude.{Result, Ok, Err}
use Rattle.table.specs.Rows.{is_found, further, place_of}

-- What stands at a number is a member.
pub get_d-mem : {A : Type 0} (l : List A) (i : ℕ) (d : A) → i < length l → Mem (get_or l i d) l
get_d-mem [] i d h = absurd (not-suc-le-zero h)
get_d-mem (x ∷ l) zero d h = head refl
get_d-mem (x ∷ l) (suc i) d h = tail (get_d-mem l i d (le_of_suc-le-suc h))

-- Whether a place is among n rows, or at their end.
abbrev pub is_within : Result ℕ ℕ → ℕ → Bool
is_within (Ok i) n = ltb i n
is_within (Err i) n = leb i n

within-further : (p : Result ℕ ℕ) (n : ℕ) → T (is_within p n) → T (is_within (further p) (suc n))
within-further (Ok i) n t = lt→ltb (suc i) (suc n) (omega (arith, ltb→lt i n t))
within-further (Err i) n t = le→leb (suc i) (suc n) (omega (arith, leb→le i n t))

module _ {K : Type 0} (lt : K → K → Bool) (k : K) where
  -- The place of a key is among the keys, or at their end.
  pub place-within : (l : List K) → T (is_within (place_of lt l k) (length l))
  place-within [] = le→leb 0 0 (omega arith)
  place-within (a ∷ l) = go (lt k a) (lt a k) (place-within l)
    where
      go : (b c : Bool) → T (is_within (place_of lt l k) (length l)) → T (is_within (cond b (Err zero) (cond c (further (place_of lt l k)) (Ok zero))) (suc (length l)))
      go true c t = le→leb 0 (suc (length l)) (omega arith)
      go false true t = within-further (place_of lt l k) (length l) t
      go false false t = lt→ltb 0 (suc (length l)) (omega arith)

  -- A key that is found stands before the end.
  pub found_within : (l : List K) (i : ℕ) → Ok i ≡ place_of lt l k → i < length l
  found_within l i e = ltb→lt i (length l) (subst (λ p. T (is_within p (length l))) (sym e) (place-within l))

  -- A key that is missing goes in before the end or at it.
  pub missing-within : (l : List K) (i : ℕ) → Err i ≡ place_of lt l k → i ≤ length l
  missing-within l i e = leb→le i (length l) (subst (λ p. T (is_within p (length l))) (sym e) (place-within l))

module _ {K W : Type 0} where
  -- A row put at a place.
  abbrev pub put_at : Result ℕ ℕ → K × W → List (K × W) → List (K × W)
  put_at (Ok i) r t = take i t ++ (r ∷ drop (suc i) t)
  put_at (Err i) r t = take i t ++ (r ∷ drop i t)

  -- The table without the row of a place.
  abbrev pub drop_at : Result ℕ ℕ → List (K × W) → List (K × W)
  drop_at (Ok i) t = take i t ++ drop (suc i) t
  drop_at (Err i) t = t

  put-further : (q : Result ℕ ℕ) (r p : K × W) (t : List (K × W)) → p ∷ put_at q r t ≡ put_at (further q) r (p ∷ t)
  put-further (Ok i) r p t = refl
  put-further (Err i) r p t = refl

  drop-further : (q : Result ℕ ℕ) (p : K × W) (t : List (K × W)) → p ∷ drop_at q t ≡ drop_at (further q) (p ∷ t)
  drop-further (Ok i) p t = refl
  drop-further (Err i) p t = refl

  -- To put under a key is to put at its place.
  pub put-place : (lt : K → K → Bool) (k : K) (v : W) (t : List (K × W)) → put lt k v t ≡ put_at (place_of lt (keys t) k) (k, v) t
  put-place lt k v [] = refl
  put-place lt k v (p ∷ t) = go (lt k p.0) (lt p.0 k) (put-place lt k v t)
    where
      go : (b c : Bool) → put lt k v t ≡ put_at (place_of lt (keys t) k) (k, v) t
          → cond b ((k, v) ∷ p ∷ t) (cond c (p ∷ put lt k v t) ((k, v) ∷ t))
          ≡ put_at (cond b (Err zero) (cond c (further (place_of lt (keys t) k)) (Ok zero))) (k, v) (p ∷ t)
      go true c e = refl
      go false true e = ap (λ (l : List (K × W)). p ∷ l) e ∙ put-further (place_of lt (keys t) k) (k, v) p t
      go false false e = refl

module _ {K : Type 0} {eq lt : K → K → Bool} (laws : Ordered eq lt) (k : K) where
  abbrev key_or : K → Result ℕ ℕ → List K → K
  key_or d (Ok i) l = get_or l i d
  key_or d (Err i) l = k

  key-further : (d : K) (q : Result ℕ ℕ) (a : K) (l : List K) → key_or d (further q) (a ∷ l) ≡ key_or d q l
  key-further d (Ok i) a l = refl
  key-further d (Err i) a l = refl

  key-there : (d : K) (l : List K) → key_or d (place_of lt l k) l ≡ k
  key-there d [] = refl
  key-there d (a ∷ l) = go (lt k a) (lt a k) refl refl (key-there d l)
    where
      go : (b c : Bool) → lt k a ≡ b → lt a k ≡ c → key_or d (place_of lt l k) l ≡ k
          → key_or d (cond b (Err zero) (cond c (further (place_of lt l k)) (Ok zero))) (a ∷ l) ≡ k
      go true c e f h = refl
      go false true e f h = key-further d (place_of lt l k) a l ∙ h
      go false false e f h = laws.tri a k (T_false f) (T_false e)

  -- What is found is the key.
  pub found-key : (d : K) (l : List K) (i : ℕ) → Ok i ≡ place_of lt l k → get_or l i d ≡ k
  found-key d l i e = ap (λ (p : Result ℕ ℕ). key_or d p l) e ∙ key-there d l

  abbrev lacks : Result ℕ ℕ → List K → Bool
  lacks (Ok i) l = true
  lacks (Err i) l = not (has eq l k)

  lacks-further : (q : Result ℕ ℕ) (a : K) (l : List K) → T (not (eq k a)) → T (lacks q l) → T (lacks (further q) (a ∷ l))
  lacks-further (Ok i) a l n t = tt
  lacks-further (Err i) a l n t = or-neither (eq k a) (has eq l k) n t

  -- A key below the first is none of the keys.
  less-absent : (a : K) (l : List K) → Asc lt (a ∷ l) → T (lt k a) → Mem k (a ∷ l) → ⊥
  less-absent a l s t m = ⊎_elim (λ e. lt-differ laws k a t e) (λ j. asym laws k a t (asc-head s k j)) (mem-cons m)

  key-lacks : (l : List K) → Asc lt l → T (lacks (place_of lt l k) l)
  key-lacks [] s = tt
  key-lacks (a ∷ l) s = go (lt k a) (lt a k) refl refl (key-lacks l (asc-tail s))
    where
      go : (b c : Bool) → lt k a ≡ b → lt a k ≡ c → T (lacks (place_of lt l k) l) → T (lacks (cond b (Err zero) (cond c (further (place_of lt l k)) (Ok zero))) (a ∷ l))
      go true c e f h = hasnt-of laws k (a ∷ l) (less-absent a l s (T_true e))
      go false true e f h = lacks-further (place_of lt l k) a l (differ laws (λ g. lt-differ laws a k (T_true f) (sym g))) h
      go false false e f h = tt

  -- A key that is missing is none of the keys.
  pub missing-key : (l : List K) (i : ℕ) → Asc lt l → Err i ≡ place_of lt l k → Mem k l → ⊥
  missing-key l i s e = of-hasnt laws l (subst (λ p. T (lacks p l)) (sym e) (key-lacks l s))

  -- A key is found exactly if it is one of the keys.
  pub found-test : (l : List K) → Asc lt l → is_found (place_of lt l k) ≡ has eq l k
  found-test l s = go (place_of lt l k) refl
    where
      go : (p : Result ℕ ℕ) → p ≡ place_of lt l k → is_found p ≡ has eq l k
      go (Ok i) e = sym (true_of (has eq l k) (has_of laws (subst (λ a. Mem a l) (found-key k l i e) (get_d-mem l i k (found_within lt k l i e)))))
      go (Err i) e = sym (false_of (has eq l k) (hasnt-of laws k l (missing-key l i s e)))

  module _ {W : Type 0} where
    without-key : (t : List (K × W)) → Asc lt (keys t) → (Mem k (keys t) → ⊥) → drop_key eq k t ≡ t
    without-key t s n = drop-free laws t k (asc-fair laws t s) (free-key laws t n)

    -- To take a key out is to take the row of its place out.
    pub drop-place : (t : List (K × W)) → Asc lt (keys t) → drop_key eq k t ≡ drop_at (place_of lt (keys t) k) t
    drop-place [] s = refl
    drop-place (p ∷ t) s = go (lt k p.0) (lt p.0 k) refl refl (drop-place t (asc-tail s))
      where
        go : (b c : Bool) → lt k p.0 ≡ b → lt p.0 k ≡ c → drop_key eq k t ≡ drop_at (place_of lt (keys t) k) t
            → drop_key eq k (p ∷ t) ≡ drop_at (cond b (Err zero) (cond c (further (place_of lt (keys t) k)) (Ok zero))) (p ∷ t)
        go true c e f h = without-key (p ∷ t) s (less-absent p.0 (keys t) s (T_true e))
        go false true e f h =
            keep-yes (λ (q : K × W). not (eq k q.0)) p t (differ laws (λ g. lt-differ laws p.0 k (T_true f) (sym g)))
            ∙ ap (λ (l : List (K × W)). p ∷ l) h ∙ drop-further (place_of lt (keys t) k) p t
        go false false e f h =
            keep-no (λ (q : K × W). not (eq k q.0)) p t (T_false (ap not (true_of (eq k p.0) (same_of laws (laws.tri k p.0 (T_false e) (T_false f))))))
            ∙ without-key t (asc-tail s) (λ m. T_not (lt p.0 k) (T_false f) (asc-head s k m))

    -- Under a key that is missing nothing stands.
    pub missing-get : (t : List (K × W)) (i : ℕ) → Asc lt (keys t) → Err i ≡ place_of lt (keys t) k → get eq t k ≡ none
    missing-get t i s e = of-free t k (free-key laws t (missing-key (keys t) i s e))

    -- Under a key that is found stands what its row has.
    pub found_get : (t : List (K × W)) (i : ℕ) (p : K × W) (u : List (K × W)) → Asc lt (keys t) → drop i t ≡ p ∷ u → p.0 ≡ k → get eq t k ≡ some p.1
    found_get t i p u s d e =
        let m : Mem p t = subst (λ l. Mem p l) (take-append-drop i t) (append_right (take i t) (subst (λ l. Mem p l) (sym d) (head refl))) in
        (asc-mem-at laws t s (subst (λ c. Mem (c, p.1) t) e m)).is
