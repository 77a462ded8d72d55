-- The quotient rounded down, over the whole numbers: it holds the number, it alone does, and what is left is below the divisor.
use Rattle.std.specs.Prelude.{◌≡◌, refl, ℕ, zero, suc, ◌+◌, ◌-◌, ◌*◌, ◌/◌, ◌≤◌, ◌<◌, Bool, true, false, cond, T, ltb, ℤ, pos, negsuc, neg_ℤ, ◌+ℤ◌, ◌-ℤ◌, ◌*ℤ◌, ◌≤ℤ◌, ◌<ℤ◌}
use Rattle.std.proofs.Common.{sym, ap, ◌∙◌, subst, suc-mul, zero-mul, div-mul-le_self, add-one, arith, ltb→lt, lt→ltb, leb→le, le→leb}
use Rattle.std.proofs.Math.Nat.{lt-div-mul-add, div-eq_of_lt-le}
use Rattle.std.proofs.Math.IntN.{neg_ℤ-neg_ℤ, suc_ℤ, +ℤ_one}
use Rattle.std.specs.Int.Signed.{lt_z, le_z, shr_z}
use Rattle.exact.specs.Laws.Round.{apart}

-- One more than -1 - q is -q.
up_one : (q : ℕ) → negsuc q +ℤ pos 1 ≡ neg_ℤ (pos q)
up_one q = +ℤ_one (negsuc q) ∙ go q
  where
    go : (q : ℕ) → suc_ℤ (negsuc q) ≡ neg_ℤ (pos q)
    go zero = refl
    go (suc q) = refl

neg-times : (q e : ℕ) → neg_ℤ (pos q) *ℤ pos e ≡ neg_ℤ (pos (q * e))
neg-times zero e = ap pos (zero-mul e) ∙ sym (ap (λ (n : ℕ). neg_ℤ (pos n)) (zero-mul e))
neg-times (suc q) e = refl

-- the upper side of a cell below zero
upper : (q e : ℕ) → (negsuc q +ℤ pos 1) *ℤ pos e ≡ neg_ℤ (pos (q * e))
upper q e = ap (λ (z : ℤ). z *ℤ pos e) (up_one q) ∙ neg-times q e

-- -n against -1 - a
low_of : (n a : ℕ) → a < n → T (le_z (neg_ℤ (pos n)) (negsuc a))
low_of zero a h = absurd (no a h)
  where
    no : (a : ℕ) → a < 0 → ⊥
    no a h = omega arith
low_of (suc n) a h = le→leb a n (under a n h)
  where
    under : (a n : ℕ) → a < suc n → a ≤ n
    under a n h = omega arith

of_low : (n a : ℕ) → T (le_z (neg_ℤ (pos n)) (negsuc a)) → a < n
of_low zero a h = absurd h
of_low (suc n) a h = over a n (leb→le a n h)
  where
    over : (a n : ℕ) → a ≤ n → a < suc n
    over a n h = omega arith

high-of : (n a : ℕ) → n ≤ a → T (lt_z (negsuc a) (neg_ℤ (pos n)))
high-of zero a h = tt
high-of (suc n) a h = lt→ltb n a h

of-high : (n a : ℕ) → T (lt_z (negsuc a) (neg_ℤ (pos n))) → n ≤ a
of-high zero a h = zero-le a
  where
    zero-le : (a : ℕ) → 0 ≤ a
    zero-le a = omega arith
of-high (suc n) a h = ltb→lt n a h

not-under : (a n : ℕ) → T (lt_z (pos a) (neg_ℤ (pos n))) → ⊥
not-under a zero h = no a (ltb→lt a 0 h)
  where
    no : (a : ℕ) → a < 0 → ⊥
    no a h = omega arith
not-under a (suc n) h = h

next : (q e : ℕ) → (q + 1) * e ≡ q * e + e
next q e = ap (λ (x : ℕ). x * e) (add-one q) ∙ suc-mul q e

-- ---- it holds the number
pub floor-low : (z : ℤ) (e : ℕ) → 0 < e → (shr_z z e *ℤ pos e) ≤ℤ z
floor-low (pos a) e E = record { le = le→leb (a / e * e) a (div-mul-le_self a e) }
floor-low (negsuc a) e E = record { le = low_of (suc (a / e) * e) a (subst (λ (x : ℕ). a < x) (sym (suc-mul (a / e) e)) (lt-div-mul-add E)) }

pub floor-high : (z : ℤ) (e : ℕ) → 0 < e → z <ℤ ((shr_z z e +ℤ pos 1) *ℤ pos e)
floor-high (pos a) e E = record { lt = lt→ltb a ((a / e + 1) * e) (subst (λ (x : ℕ). a < x) (sym (next (a / e) e)) (lt-div-mul-add E)) }
floor-high (negsuc a) e E = record { lt = subst (λ (z : ℤ). T (lt_z (negsuc a) z)) (sym (upper (a / e) e)) (high-of (a / e * e) a (div-mul-le_self a e)) }

-- ---- it alone does
pub floor-only : (c z : ℤ) (e : ℕ) → (c *ℤ pos e) ≤ℤ z → z <ℤ ((c +ℤ pos 1) *ℤ pos e) → c ≡ shr_z z e
floor-only (pos q) (pos a) e l h = ap pos (sym (div-eq_of_lt-le e (leb→le (q * e) a l.le) (ltb→lt a ((q + 1) * e) h.lt)))
floor-only (pos q) (negsuc a) e l h = absurd l.le
floor-only (negsuc q) (pos a) e l h = absurd (not-under a (q * e) (subst (λ (z : ℤ). T (lt_z (pos a) z)) (upper q e) h.lt))
floor-only (negsuc q) (negsuc a) e l h =
    ap negsuc
    (sym (div-eq_of_lt-le e (of-high (q * e) a (subst (λ (z : ℤ). T (lt_z (negsuc a) z)) (upper q e) h.lt))
    (subst (λ (x : ℕ). a < x) (ap (λ (x : ℕ). x * e) (sym (add-one q))) (of_low (suc q * e) a l.le))))

-- ---- what is left
left-of : (a w : ℕ) → w ≤ a → pos a +ℤ neg_ℤ (pos w) ≡ pos (a - w)
left-of a w h = apart a w ∙ go (ltb a w) (ltb→lt a w)
  where
    no : (a w : ℕ) → w ≤ a → a < w → ⊥
    no a w h k = omega arith

    go : (t : Bool) → (T t → a < w) → cond t (neg_ℤ (pos (w - a))) (pos (a - w)) ≡ pos (a - w)
    go true k = absurd (no a w h (k tt))
    go false k = refl

short : (a w e : ℕ) → w ≤ a → a < w + e → a - w < e
short a w e l h = omega arith

pub left : (z : ℤ) (e : ℕ) → 0 < e → (r : ℕ) × (z -ℤ shr_z z e *ℤ pos e ≡ pos r) × (r < e)
left (pos a) e E = (a - a / e * e, left-of a (a / e * e) (div-mul-le_self a e), short a (a / e * e) e (div-mul-le_self a e) (lt-div-mul-add E))
left (negsuc a) e E =
    let w = suc (a / e) * e in
    let l : suc a ≤ w = subst (λ (x : ℕ). a < x) (sym (suc-mul (a / e) e)) (lt-div-mul-add E) in (
      w - suc a,
      ap (λ (z : ℤ). negsuc a +ℤ z) (neg_ℤ-neg_ℤ (pos w)) ∙ turned w a ∙ left-of w (suc a) l,
      short w (suc a) e l (subst (λ (x : ℕ). x < suc a + e) (sym (suc-mul (a / e) e)) (near (a / e * e) a e (div-mul-le_self a e))),
    )
  where
    near : (v a e : ℕ) → v ≤ a → v + e < suc a + e
    near v a e h = omega arith

    turned : (w a : ℕ) → negsuc a +ℤ pos w ≡ pos w +ℤ neg_ℤ (pos (suc a))
    turned w a = refl
