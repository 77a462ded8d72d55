-- A change of one row, and of the rows one after the other.
use Prim.Native.Nat.{ℕ, zero, suc, ◌+◌, ◌-◌, ◌^◌, ◌≤◌, ◌<◌}
use Rattle.std.proofs.Common.{add-one, arith, ◌∙◌, subst, eqb→eq, lt→ltb, le-ltb}
use Rattle.std.specs.Prelude.{◌≡◌, Bool, ◌&&◌, ◌||◌, ltb}
use Rattle.std.proofs.Math.Path.{refl, sym, ap}
use Rattle.std.proofs.Math.Logic.{⊎_elim}
use Rattle.std.proofs.Math.Bool.{true, false, cond, not}
use mathlib.Core.List.{List, Memᴰ as Mem}
use Rattle.std.proofs.Math.Option.{some}
use Rattle.std.proofs.Math.Dec.{T, eqb, ltb→lt}
use Rattle.std.proofs.Math.Pow.{lt_of_le_ones}
use Rattle.component.specs.Order.{same}
use Rattle.component.specs.declared.Cell.{Cell}
use Rattle.model.specs.Lists.{has, keys, get, put, change}
use Rattle.model.specs.Masks.{bit, with_bit}
use Rattle.model.proofs.Laws.Bits.{bit-zero, bit-with, with-few}
use Rattle.model.proofs.Laws.Tests.{cond_yes, cond_no, T_true, and-fst, and-snd, and_both, or_cases, or_left, or_right, eqb_of, same_test}
use Rattle.model.proofs.Laws.Orders.{Ordered, differ, is-or, numbers}
use Rattle.model.proofs.Laws.Members.{key_in}
use Rattle.model.specs.Facts.{Asc, At}
use Rattle.model.proofs.Laws.Tables.{at-change, at-unchange, get-same, get-put-self, get-put-other, put-asc, change-asc, table_same, change-same, change-change}
use Rattle.map.specs.Told.{told_one, told, noted}

module _ {K W : Type 0} {eq lt : K → K → Bool} (laws : Ordered eq lt) (k : K) (f : W → W) where
  abbrev at : K → W → W
  at a v = cond (eq k a) (f v) v

  at_self : (v : W) → at k v ≡ f v
  at_self v = cond_yes (eq k k) (f v) v (laws.same_self k)

  at_other : (a : K) (v : W) → (a ≡ k → ⊥) → at a v ≡ v
  at_other a v n = cond_no (eq k a) (f v) v (differ laws (λ e. n (sym e)))

  -- To put what a rule makes of the value of a key is to change the table at that key.
  pub put-is-change : (t : List (K × W)) (v : W) → Asc lt (keys t) → At eq t k v → put lt k (f v) t ≡ change (λ a w. cond (eq k a) (f w) w) t
  put-is-change t v s p =
      table_same laws (put lt k (f v) t) (change at t) (put-asc laws t k (f v) s) (change-asc laws at t s)
      (λ a. ⊎_elim
      (λ e. ap (get eq (put lt k (f v) t)) e ∙ get-put-self laws t k (f v) ∙ ap some (sym (at_self v)) ∙ sym (at-change laws at t p).is ∙ ap (get eq (change at t)) (sym e))
      (λ n. get-put-other laws t k (f v) a n ∙ get-same t (change at t) a a
      (λ w q. subst (At eq (change at t) a) (at_other a w n) (at-change laws at t q))
      (λ w q. let r = at-unchange laws at t q in subst (At eq t a) (sym (r.2 ∙ at_other a r.0 n)) r.1))
      (is-or laws a k))

  -- A change at a key that is not there changes nothing.
  pub change-missing : (t : List (K × W)) → (Mem k (keys t) → ⊥) → change (λ a w. cond (eq k a) (f w) w) t ≡ t
  change-missing t n = change-same at t (λ q m. at_other q.0 q.1 (λ e. n (subst (λ a. Mem a (keys t)) e (key_in m))))

module _ (wanted : ℕ → Bool) (joins : Bool) (near : ℕ → Cell) where
  -- The rows once the cell near suc k is told, if it is wanted.
  abbrev told_if : Bool → ℕ → List (Cell × List ℕ) → List (Cell × List ℕ)
  told_if b k t = change (λ e ws. cond b (told_one joins (near (suc k)) (26 - suc k) e (told wanted joins near k e ws)) (told wanted joins near k e ws)) t

  -- One more cell is told.
  pub told_more : (k : ℕ) (t : List (Cell × List ℕ)) → wanted k ≡ true → change (told_one joins (near (k + 1)) (26 - (k + 1))) (change (told wanted joins near k) t) ≡ change (told wanted joins near (k + 1)) t
  unfolding told
  told_more k t w =
      ap (λ (n : ℕ). change (told_one joins (near n) (26 - n)) (change (told wanted joins near k) t)) (add-one k)
      ∙ change-change (told_one joins (near (suc k)) (26 - suc k)) (told wanted joins near k) t
      ∙ ap (λ (b : Bool). told_if b k t) (sym w)
      ∙ ap (λ (n : ℕ). change (told wanted joins near n) t) (sym (add-one k))

  -- One that is not wanted is passed.
  pub told-skip : (k : ℕ) (t : List (Cell × List ℕ)) → wanted k ≡ false → change (told wanted joins near k) t ≡ change (told wanted joins near (k + 1)) t
  unfolding told
  told-skip k t w = ap (λ (b : Bool). told_if b k t) (sym w) ∙ ap (λ (n : ℕ). change (told wanted joins near n) t) (sym (add-one k))

  -- Before any is told, nothing changes.
  pub told_none : (t : List (Cell × List ℕ)) → t ≡ change (told wanted joins near 0) t
  unfolding told
  told_none t = sym (change-same (λ e ws. ws) t (λ q m. refl))

-- A bit of a number in which one is set or not.
chosen : (b : Bool) (n k j : ℕ) → bit (cond b (with_bit n k) n) j ≡ bit n j || (b && eqb j k)
chosen true n k j = bit-with n k j
chosen false n k j = sym (or_no (bit n j))
  where
    or_no : (b : Bool) → b || false ≡ b
    or_no true = refl
    or_no false = refl

module _ (wanted : ℕ → Bool) (among : List Cell) (near : ℕ → Cell) where
  -- Whether the cell near suc k is to be noted.
  abbrev there : ℕ → Bool
  there k = wanted k && has same among (near (suc k))

  -- No bit is noted yet.
  pub note-none : 0 ≡ noted wanted among near 0
  unfolding noted
  note-none = refl

  module _ (k m : ℕ) (e : m ≡ noted wanted among near k) where
    -- One more bit is noted.
    pub note-yes : wanted k ≡ true → has same among (near (k + 1)) ≡ true → (r : ℕ) → r ≡ with_bit m k → r ≡ noted wanted among near (k + 1)
    unfolding noted
    note-yes w t r q =
        q ∙ ap (λ (n : ℕ). with_bit n k) e
        ∙ sym (ap (noted wanted among near) (add-one k) ∙ cond_yes (there k) (with_bit (noted wanted among near k) k) (noted wanted among near k) (T_true (λ i. w i && (ap (λ (n : ℕ). has same among (near n)) (sym (add-one k)) ∙ t) i)))

    -- One more bit is passed.
    pub note-no : wanted k ≡ true → has same among (near (k + 1)) ≡ false → m ≡ noted wanted among near (k + 1)
    unfolding noted
    note-no w t =
        e ∙ sym (ap (noted wanted among near) (add-one k) ∙ cond_no (there k) (with_bit (noted wanted among near k) k) (noted wanted among near k) (T_true (λ i. not (w i && (ap (λ (n : ℕ). has same among (near n)) (sym (add-one k)) ∙ t) i))))

    -- One that is not wanted is passed.
    pub note-skip : wanted k ≡ false → m ≡ noted wanted among near (k + 1)
    unfolding noted
    note-skip w =
        e ∙ sym (ap (noted wanted among near) (add-one k) ∙ cond_no (there k) (with_bit (noted wanted among near k) k) (noted wanted among near k) (T_true (ap (λ (b : Bool). not (b && has same among (near (suc k)))) w)))

  -- The bits that are noted.
  pub noted-bit : (k j : ℕ) → bit (noted wanted among near k) j ≡ ltb j k && (wanted j && has same among (near (suc j)))
  unfolding noted
  noted-bit zero j = bit-zero j ∙ ap (λ b. b && there j) (sym (le-ltb j 0 (omega arith)))
  noted-bit (suc k) j =
      chosen (there k) (noted wanted among near k) k j
      ∙ ap (λ b. b || (there k && eqb j k)) (noted-bit k j)
      ∙ same_test ((ltb j k && there j) || (there k && eqb j k)) (ltb j (suc k) && there j)
      (λ t. ⊎_elim
      (λ u. and_both (ltb j (suc k)) _ (lt→ltb j (suc k) (omega (arith, ltb→lt j k (and-fst (ltb j k) _ u)))) (and-snd (ltb j k) _ u))
      (λ u. let e : k ≡ j = sym (eqb→eq j k (and-snd (there k) _ u)) in
      and_both (ltb j (suc k)) _ (lt→ltb j (suc k) (omega (arith, e))) (subst (λ (n : ℕ). T (there n)) e (and-fst (there k) _ u)))
      (or_cases (ltb j k && there j) _ t))
      (λ t.
      let h = ltb→lt j (suc k) (and-fst (ltb j (suc k)) _ t) in
      let u = and-snd (ltb j (suc k)) _ t in
      ⊎_elim
      (λ e. or_right (ltb j k && there j) _ (and_both (there k) _ (subst (λ (n : ℕ). T (there n)) e u) (eqb_of j k e)))
      (λ n. or_left (ltb j k && there j) _ (and_both (ltb j k) _ (lt→ltb j k (omega (arith, h, n))) u))
      (is-or numbers j k))

  -- As many bits as are tried.
  pub noted-few : (w k : ℕ) → k ≤ w → noted wanted among near k < 2 ^ w
  unfolding noted
  noted-few w zero h = lt_of_le_ones w (omega arith)
  noted-few w (suc k) h = go (there k) (noted-few w k (omega arith))
    where
      go : (b : Bool) → noted wanted among near k < 2 ^ w → cond b (with_bit (noted wanted among near k) k) (noted wanted among near k) < 2 ^ w
      go true l = with-few w (noted wanted among near k) k l (omega arith)
      go false l = l
