-- The laws of cell order and of equality of cells.
use Rattle.std.specs.Prelude.{◌≡◌, ℕ, ◌<◌, Bool, true, false, not, ◌&&◌, ◌||◌, T, ◌==◌, ◌≢◌, nat_lt, refl}
use Rattle.std.proofs.Common.{arith, sym, ap, ◌∙◌, subst, ⊎_elim, le-ltb, eq-eqb, ne_eqb, eqb→eq, ltb→lt, lt→ltb, nltb→le}
use Rattle.std.proofs.Math.Dec.{eqb_refl}
use Rattle.component.specs.Order.{same, before, below}
use Rattle.component.specs.Laws.Tests.{and-fst, and-snd, and_both, or_cases, or_left, or_right, or-not, and-not}
use Rattle.component.specs.declared.Cell.{Cell}

eqb_of : {m n : ℕ} → m ≡ n → T (m == n)
eqb_of {m} e = subst (λ k. T (m == k)) e (eqb_refl m)

before_self : (m : ℕ) (r : Bool) → T (before m m r) → T r
before_self m r t = ⊎_elim (λ u. absurd (omega (arith, ltb→lt m m u))) (λ u. and-snd (m == m) r u) (or_cases (nat_lt m m) _ t)

-- By the first number where the two differ.
pub before-apart : (m n : ℕ) (r : Bool) → (m ≢ n) → nat_lt m n ≡ before m n r
before-apart m n r f = or-false (nat_lt m n) ∙ ap (λ t. nat_lt m n || (t && r)) (sym (ne_eqb m n f))
  where
    or-false : (b : Bool) → b ≡ (b || false)
    or-false true = refl
    or-false false = refl

-- By what follows where they are equal.
pub before-equal : (m n : ℕ) (r : Bool) → m ≡ n → r ≡ before m n r
before-equal m n r e = λ i. sym (le-ltb m n (omega arith)) i || (sym (eq-eqb m n e) i && r)

-- No cell comes before itself.
pub below_irrefl : (a : Cell) → T (below a a) → ⊥
below_irrefl a t =
    let u : T (nat_lt a.x a.x) = before_self a.y _ (before_self a.z _ (before_self a.grid _ t)) in
    omega (arith, ltb→lt a.x a.x u)

before-trans : (l m n : ℕ) (r r' r'' : Bool) → (T r → T r' → T r'') → T (before l m r) → T (before m n r') → T (before l n r'')
before-trans l m n r r' r'' f s t =
    ⊎_elim
    (λ u. ⊎_elim
    (λ v. less (omega (arith, ltb→lt l m u, ltb→lt m n v)))
    (λ v. less (omega (arith, ltb→lt l m u, equal m n r' v)))
    (or_cases (nat_lt m n) _ t))
    (λ u. ⊎_elim
    (λ v. less (omega (arith, equal l m r u, ltb→lt m n v)))
    (λ v. level (equal l m r u ∙ equal m n r' v) (f (and-snd (l == m) r u) (and-snd (m == n) r' v)))
    (or_cases (nat_lt m n) _ t))
    (or_cases (nat_lt l m) _ s)
  where
    equal : (a b : ℕ) (t : Bool) → T (a == b && t) → a ≡ b
    equal a b t u = eqb→eq a b (and-fst (a == b) t u)

    less : l < n → T (before l n r'')
    less h = or_left (nat_lt l n) _ (lt→ltb l n h)

    level : l ≡ n → T r'' → T (before l n r'')
    level e u = or_right (nat_lt l n) _ (and_both (l == n) r'' (eqb_of e) u)

-- What comes before a cell comes before all that the cell comes before.
pub below-trans : (a b c : Cell) → T (below a b) → T (below b c) → T (below a c)
below-trans a b c =
    before-trans a.grid b.grid c.grid _ _ _
    (before-trans a.z b.z c.z _ _ _
    (before-trans a.y b.y c.y (nat_lt a.x b.x) (nat_lt b.x c.x) (nat_lt a.x c.x)
    (λ s t. lt→ltb a.x c.x (omega (arith, ltb→lt a.x b.x s, ltb→lt b.x c.x t)))))

tri : (m n : ℕ) (r r' : Bool) → T (not (before m n r)) → T (not (before n m r')) → (m ≡ n) × T (not r) × T (not r')
tri m n r r' s t = (e, and-not (m == n) r (eqb_of e) s'.1, and-not (n == m) r' (eqb_of (sym e)) t'.1)
  where
    s' : T (not (nat_lt m n)) × T (not (m == n && r))
    s' = or-not (nat_lt m n) _ s

    t' : T (not (nat_lt n m)) × T (not (n == m && r'))
    t' = or-not (nat_lt n m) _ t

    e : m ≡ n
    e = omega (arith, nltb→le m n s'.0, nltb→le n m t'.0)

-- Two cells of which neither comes before the other are equal.
pub below-tri : (a b : Cell) → T (not (below a b)) → T (not (below b a)) → a ≡ b
below-tri a b s t =
    let g = tri a.grid b.grid _ _ s t in
    let z = tri a.z b.z _ _ g.1 g.2 in
    let y = tri a.y b.y _ _ z.1 z.2 in
    let x : a.x ≡ b.x = omega (arith, nltb→le a.x b.x y.1, nltb→le b.x a.x y.2) in
    λ i. record { grid = g.0 i; x = x i; y = y.0 i; z = z.0 i }

-- The test of equality holds of equal cells alone.
pub same-eq : (a b : Cell) → T (same a b) → a ≡ b
same-eq a b t = λ i. record { grid = g i; x = x i; y = y i; z = z i }
  where
    t1 : T (a.z == b.z && (a.y == b.y && a.x == b.x))
    t1 = and-snd (a.grid == b.grid) _ t

    t2 : T (a.y == b.y && a.x == b.x)
    t2 = and-snd (a.z == b.z) _ t1

    g : a.grid ≡ b.grid
    g = eqb→eq _ _ (and-fst (a.grid == b.grid) _ t)

    z : a.z ≡ b.z
    z = eqb→eq _ _ (and-fst (a.z == b.z) _ t1)

    y : a.y ≡ b.y
    y = eqb→eq _ _ (and-fst (a.y == b.y) _ t2)

    x : a.x ≡ b.x
    x = eqb→eq _ _ (and-snd (a.y == b.y) _ t2)

-- And it holds of a cell and itself.
pub same_self : (a : Cell) → T (same a a)
same_self a =
    and_both (a.grid == a.grid) _ (eqb_refl a.grid)
    (and_both (a.z == a.z) _ (eqb_refl a.z) (and_both (a.y == a.y) _ (eqb_refl a.y) (eqb_refl a.x)))
