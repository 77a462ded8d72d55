-- Laws of the table: what is noted is found again.
use Rattle.std.specs.Prelude.{ℕ, zero, suc, ◌+◌, ◌*◌, ◌/◌, ◌%◌, ◌<◌, ◌≤◌, ◌≡◌, refl, Bool, true, false, cond, ◌⊎◌, List, length, get_or, set, replicate, eqb}
use Rattle.std.proofs.Common.{arith, mod-lt, sym, ap, ◌∙◌, subst, inl, inr, eqb-true, eq-eqb, ne_eqb, length-set, get_or-set_same, get_or-set_other}
use Rattle.std.proofs.lemmas.Bool.{eqb-false}
use Rattle.component.specs.Laws.Tests.{le-or-lt}
use Rattle.settings.specs.Table.{places_of, mark_at, grid_at, home_of, noted, Probed, Known}

-- Two numbers are equal or not.
same_or_not : (i j : ℕ) → (i ≡ j) ⊎ (i ≡ j → ⊥)
same_or_not i j = go (eqb i j) refl
  where
    go : (t : Bool) → eqb i j ≡ t → (i ≡ j) ⊎ (i ≡ j → ⊥)
    go true e = inl (eqb-true i j e)
    go false e = inr (eqb-false i j e)

pub home-within : (g n : ℕ) → home_of g n ≤ n
unfolding home_of
home-within g n =
    let m = n / 16 * 15 + 1 in
    let x = g % 4294967291 * 2654435761 / 65536 in
    let h : x % m < m = mod-lt x (omega arith) in
    omega arith

-- One place more is passed.
pub passed-more : (t : List ℕ) (g k : ℕ) → ((i : ℕ) → home_of g (places_of t) ≤ i → i < k → (0 < mark_at t i) × (grid_at t i ≡ g → ⊥))
    → 0 < mark_at t k → (grid_at t k ≡ g → ⊥) → (i : ℕ) → home_of g (places_of t) ≤ i → i < k + 1 → (0 < mark_at t i) × (grid_at t i ≡ g → ⊥)
passed-more t g k p m n i l h = go (same_or_not i k)
  where
    go : (i ≡ k) ⊎ (i ≡ k → ⊥) → (0 < mark_at t i) × (grid_at t i ≡ g → ⊥)
    go (inl e) = subst (λ (j : ℕ). (0 < mark_at t j) × (grid_at t j ≡ g → ⊥)) (sym e) (m, n)
    go (inr d) = p i l (omega arith)

-- The words of place k are a mark and a grid.
abbrev pub placed : List ℕ → ℕ → ℕ → ℕ → List ℕ
placed t k m g = set (set t (2 * k) m) (2 * k + 1) g

module _ (t : List ℕ) (k m g : ℕ) (room : k < places_of t) where
  mark-here : mark_at (placed t k m g) k ≡ m
  mark-here = get_or-set_other (set t (2 * k) m) (2 * k + 1) (2 * k) g 0 (λ e. absurd (omega arith)) ∙ get_or-set_same t (2 * k) m 0 (omega arith)

  grid-here : grid_at (placed t k m g) k ≡ g
  grid-here = let l = length-set t (2 * k) m in get_or-set_same (set t (2 * k) m) (2 * k + 1) g 0 (omega arith)

  mark-there : (j : ℕ) → (j ≡ k → ⊥) → mark_at (placed t k m g) j ≡ mark_at t j
  mark-there j n = get_or-set_other (set t (2 * k) m) (2 * k + 1) (2 * j) g 0 (λ e. absurd (omega arith)) ∙ get_or-set_other t (2 * k) (2 * j) m 0 (λ e. n (omega arith))

  grid-there : (j : ℕ) → (j ≡ k → ⊥) → grid_at (placed t k m g) j ≡ grid_at t j
  grid-there j n = get_or-set_other (set t (2 * k) m) (2 * k + 1) (2 * j + 1) g 0 (λ e. n (omega arith)) ∙ get_or-set_other t (2 * k) (2 * j + 1) m 0 (λ e. absurd (omega arith))

-- In a table of zeros all places are free, so it knows any marks.
zeros-at : (n i : ℕ) → ◌≡◌ {A = ℕ} (get_or (replicate n 0) i 0) 0
zeros-at zero i = refl
zeros-at (suc n) zero = refl
zeros-at (suc n) (suc i) = zeros-at n i

no-mark : {A : Type 0} (n j : ℕ) → 0 < mark_at (replicate n 0) j → A
no-mark n j h = let z = zeros-at n (2 * j) in absurd (omega arith)

pub known-zeros : (f : ℕ → ℕ) (n : ℕ) → Known f (replicate n 0)
known-zeros f n =
    record {
      inside = λ j h. no-mark n j h;
      home = λ j h. no-mark n j h;
      reach = λ j i h a b. no-mark n j h;
      says = λ j h. no-mark n j h;
      once = λ i j h k e. no-mark n i h;
    }

-- It knows the same marks by another name.
pub known_same : {f h : ℕ → ℕ} {t : List ℕ} → ((g : ℕ) → f g ≡ h g) → Known f t → Known h t
known_same {f} {h} {t} e k = record { inside = k.inside; home = k.home; reach = k.reach; says = λ j m. k.says j m ∙ e (grid_at t j); once = k.once }

module _ {f : ℕ → ℕ} {t : List ℕ} {g k : ℕ} (known : Known f t) (p : Probed t g k) where
  -- No other place than k has the grid: none before it was passed, and behind it none with k taken by the grid.
  only-there : (j : ℕ) → 0 < mark_at t j → (j ≡ k → ⊥) → grid_at t j ≡ g → ⊥
  only-there j m n e = go (le-or-lt k j)
    where
      low : home_of g (places_of t) ≤ j
      low = subst (λ (x : ℕ). home_of x (places_of t) ≤ j) e (known.home j m)

      taken : k < j → 0 < mark_at t k
      taken h = known.reach j k m (subst (λ (x : ℕ). home_of x (places_of t) ≤ k) (sym e) p.from) h

      behind : k < j → ⊥
      behind h = let i = known.inside j m in n (known.once j k m (taken h) (e ∙ sym (p.stands (omega arith) (taken h))))

      go : (k ≤ j) ⊎ (j < k) → ⊥
      go (inr h) = (p.passed j low h).1 e
      go (inl h) = go_on (same_or_not j k)
        where
          go_on : (j ≡ k) ⊎ (j ≡ k → ⊥) → ⊥
          go_on (inl s) = n s
          go_on (inr s) = behind (omega arith)

  -- The mark at the place, if it is taken, is the grid's.
  pub known-mark : k < places_of t → 0 < mark_at t k → mark_at t k ≡ f g
  known-mark h m = known.says k m ∙ ap f (p.stands h m)

  -- Where there is no place for the grid, the table has it nowhere, so it knows any mark of it.
  pub known-full : (m : ℕ) → places_of t ≤ k → Known (noted g m f) t
  known-full m h =
      record {
        inside = known.inside;
        home = known.home;
        reach = known.reach;
        says = λ j q. known.says j q ∙ sym (ap (λ (b : Bool). cond b m (f (grid_at t j))) (ne_eqb g (grid_at t j) (λ d. only-there j q (λ e. let i = known.inside j q in absurd (omega arith)) (sym d))));
        once = known.once;
      }

  -- Else it is noted at the place.
  module _ (m : ℕ) (some : 0 < m) (room : k < places_of t) where
    abbrev u : List ℕ
    u = placed t k m g

    length-u : length u ≡ length t
    length-u = length-set (set t (2 * k) m) (2 * k + 1) g ∙ length-set t (2 * k) m

    places : places_of u ≡ places_of t
    places = ap (λ (n : ℕ). n / 2) length-u

    -- Place j is another, with the same words before and after.
    record Other (j : ℕ) : Type 0 where
      pub not-here : j ≡ k → ⊥
      pub mark : mark_at u j ≡ mark_at t j
      pub grid : grid_at u j ≡ grid_at t j

    here-or-other : (j : ℕ) → (j ≡ k) ⊎ Other j
    here-or-other j = go (same_or_not j k)
      where
        go : (j ≡ k) ⊎ (j ≡ k → ⊥) → (j ≡ k) ⊎ Other j
        go (inl e) = inl e
        go (inr n) = inr (record { not-here = n; mark = mark-there t k m g room j n; grid = grid-there t k m g room j n })

    marked : mark_at u k ≡ m
    marked = mark-here t k m g room

    here : {j : ℕ} → j ≡ k → (mark_at u j ≡ m) × (grid_at u j ≡ g)
    here e = (ap (mark_at u) e ∙ marked, ap (grid_at u) e ∙ grid-here t k m g room)

    inside-after : (j : ℕ) → 0 < mark_at u j → (j ≡ k) ⊎ Other j → j < places_of u
    inside-after j q (inl e) = let n = places in omega arith
    inside-after j q (inr o) = let n = places in let e = o.mark in let i = known.inside j (omega arith) in omega arith

    home_after : (j : ℕ) → 0 < mark_at u j → (j ≡ k) ⊎ Other j → home_of (grid_at u j) (places_of u) ≤ j
    home_after j q (inl e) =
        let n = ap (λ (x : ℕ). home_of x (places_of u)) (here e).1 ∙ ap (home_of g) places in
        let l = p.from in omega arith
    home_after j q (inr o) =
        let n = ap (λ (x : ℕ). home_of x (places_of u)) o.grid ∙ ap (home_of (grid_at t j)) places in
        let e = o.mark in
        let l = known.home j (omega arith) in omega arith

    -- A place that was taken is taken.
    still : (i : ℕ) → 0 < mark_at t i → (i ≡ k) ⊎ Other i → 0 < mark_at u i
    still i q (inl e) = let h = (here e).0 in omega arith
    still i q (inr o) = let e = o.mark in omega arith

    reach-after : (j i : ℕ) → 0 < mark_at u j → home_of (grid_at u j) (places_of u) ≤ i → i < j → (j ≡ k) ⊎ Other j → 0 < mark_at u i
    reach-after j i q l h (inl e) =
        let n = ap (λ (x : ℕ). home_of x (places_of u)) (here e).1 ∙ ap (home_of g) places in
        still i (p.passed i (omega arith) (omega arith)).0 (here-or-other i)
    reach-after j i q l h (inr o) =
        let n = ap (λ (x : ℕ). home_of x (places_of u)) o.grid ∙ ap (home_of (grid_at t j)) places in
        let e = o.mark in
        still i (known.reach j i (omega arith) (omega arith) h) (here-or-other i)

    says-after : (j : ℕ) → 0 < mark_at u j → (j ≡ k) ⊎ Other j → mark_at u j ≡ noted g m f (grid_at u j)
    says-after j q (inl e) = (here e).0 ∙ sym (ap (λ (b : Bool). cond b m (f (grid_at u j))) (eq-eqb g (grid_at u j) (sym (here e).1)))
    says-after j q (inr o) =
        let e = o.mark in
        let s : 0 < mark_at t j = omega arith in
        o.mark ∙ known.says j s ∙ ap f (sym o.grid)
        ∙ sym (ap (λ (b : Bool). cond b m (f (grid_at u j))) (ne_eqb g (grid_at u j) (λ d. only-there j s o.not-here (sym o.grid ∙ sym d))))

    once_after : (i j : ℕ) → 0 < mark_at u i → 0 < mark_at u j → grid_at u i ≡ grid_at u j → (i ≡ k) ⊎ Other i → (j ≡ k) ⊎ Other j → i ≡ j
    once_after i j q r e (inl a) (inl b) = a ∙ sym b
    once_after i j q r e (inl a) (inr o) = let d = o.mark in absurd (only-there j (omega arith) o.not-here (sym o.grid ∙ sym e ∙ (here a).1))
    once_after i j q r e (inr o) (inl b) = let d = o.mark in absurd (only-there i (omega arith) o.not-here (sym o.grid ∙ e ∙ (here b).1))
    once_after i j q r e (inr o) (inr a) =
        let d = o.mark in
        let c = a.mark in
        known.once i j (omega arith) (omega arith) (sym o.grid ∙ e ∙ a.grid)

    pub known-noted : Known (noted g m f) u
    known-noted =
        record {
          inside = λ j q. inside-after j q (here-or-other j);
          home = λ j q. home_after j q (here-or-other j);
          reach = λ j i q l h. reach-after j i q l h (here-or-other j);
          says = λ j q. says-after j q (here-or-other j);
          once = λ i j q r e. once_after i j q r e (here-or-other i) (here-or-other j);
        }
