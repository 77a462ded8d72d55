-- Touching by a set of offsets: symmetric, within one grid, never of a cell and itself; and the neighbours in order.
use Rattle.std.specs.Prelude.{ℕ, suc, ◌+◌, ◌-◌, ◌≤◌, ◌<◌, ◌≡◌, Bool, ◌&&◌, ◌||◌, not, T, eqb, leb, ltb}
use Rattle.std.proofs.Common.{arith, sym, subst, ⊎_elim, T_not, eqb→eq, leb→le, le→leb, ltb→lt, lt→ltb}
use mathlib.Core.List.{List, Memᴰ as Mem}
use Rattle.std.proofs.Math.Dec.{not_T, eqb_refl}
use Rattle.component.specs.Order.{before}
use Rattle.component.specs.Touch.{close, touches}
use Rattle.model.specs.Facts.{Asc}
use Rattle.model.specs.Lists.{keep, any, all, has, count}
use Rattle.model.specs.Cells.{Cell, same, below, Offset, Offsets, moves, offsets26, all26, opposite, holds_opposites, leads, touch_by, shift, neighbours}
use Rattle.model.proofs.Laws.Tests.{and-fst, and-snd, and_both, or_cases, or_left, or_right, eqb_of, same_test}
use Rattle.model.proofs.Laws.Orders.{cells, differ}
use Rattle.model.proofs.Laws.Members.{count-in, any-in, any_out, all-out, keep-in, keep_out, each_in, each-out, has_of, of-has}
use Rattle.model.proofs.Laws.Sorted.{each-asc, keep-asc, is_ascending-out, asc-equal}

-- What every theorem asks of touching.
pub record Touching (touch : Cell → Cell → Bool) : Type 0 where
  pub flip : (a b : Cell) → T (touch a b) → T (touch b a)
  pub apart : (a : Cell) → T (touch a a) → ⊥
  pub one-grid : (a b : Cell) → T (touch a b) → a.grid ≡ b.grid

-- Whether two offsets are the same.
abbrev pub same_offset : Offset → Offset → Bool
same_offset o p = eqb o.dx p.dx && (eqb o.dy p.dy && eqb o.dz p.dz)

pub offset-eq : (o p : Offset) → T (same_offset o p) → o ≡ p
offset-eq o p t =
    let x : o.dx ≡ p.dx = eqb→eq _ _ (and-fst (eqb o.dx p.dx) _ t) in
    let r : T (eqb o.dy p.dy && eqb o.dz p.dz) = and-snd (eqb o.dx p.dx) _ t in
    let y : o.dy ≡ p.dy = eqb→eq _ _ (and-fst (eqb o.dy p.dy) _ r) in
    let z : o.dz ≡ p.dz = eqb→eq _ _ (and-snd (eqb o.dy p.dy) _ r) in
    λ i. record { dx = x i; dy = y i; dz = z i }

-- A step is at most 2 on each axis.
abbrev small : Offset → Bool
small o = leb o.dx 2 && (leb o.dy 2 && leb o.dz 2)

-- Each of the 26 is small, moves, and has its opposite among them.
abbrev fair : Offset → Bool
fair o = small o && (not (same_offset o (record { dx = 1; dy = 1; dz = 1 })) && any (same_offset (opposite o)) offsets26)

all_fair : T (all fair offsets26)
all_fair = tt

axis : (a b d : ℕ) → T (leb d 2) → T (eqb (a + d) (suc b)) → T (eqb (b + (2 - d)) (suc a))
axis a b d l t =
    let h = leb→le d 2 l in let j = eqb→eq (a + d) (suc b) t in
    let k : b + (2 - d) ≡ suc a = omega arith in eqb_of _ _ k

-- The step back leads back.
back-leads : (a b : Cell) (o : Offset) → T (small o) → T (leads a b o) → T (leads b a (opposite o))
back-leads a b o s t =
    and_both (eqb (b.x + (2 - o.dx)) (suc a.x)) _ (axis a.x b.x o.dx (and-fst (leb o.dx 2) _ s) (and-fst (eqb (a.x + o.dx) (suc b.x)) _ t))
    (and_both (eqb (b.y + (2 - o.dy)) (suc a.y)) _ (axis a.y b.y o.dy (and-fst (leb o.dy 2) _ s1) (and-fst (eqb (a.y + o.dy) (suc b.y)) _ t1))
    (axis a.z b.z o.dz (and-snd (leb o.dy 2) _ s1) (and-snd (eqb (a.y + o.dy) (suc b.y)) _ t1)))
  where
    s1 : T (leb o.dy 2 && leb o.dz 2)
    s1 = and-snd (leb o.dx 2) _ s

    t1 : T (eqb (a.y + o.dy) (suc b.y) && eqb (a.z + o.dz) (suc b.z))
    t1 = and-snd (eqb (a.x + o.dx) (suc b.x)) _ t

-- Only the step that stays leads from a cell to itself.
stay : (n d : ℕ) → T (eqb (n + d) (suc n)) → T (eqb d 1)
stay n d t = let j = eqb→eq (n + d) (suc n) t in let k : d ≡ 1 = omega arith in eqb_of _ _ k

leads-self : (a : Cell) (o : Offset) → T (leads a a o) → T (same_offset o (record { dx = 1; dy = 1; dz = 1 }))
leads-self a o t =
    let r : T (eqb (a.y + o.dy) (suc a.y) && eqb (a.z + o.dz) (suc a.z)) = and-snd (eqb (a.x + o.dx) (suc a.x)) _ t in
    and_both (eqb o.dx 1) _ (stay a.x o.dx (and-fst (eqb (a.x + o.dx) (suc a.x)) _ t))
    (and_both (eqb o.dy 1) _ (stay a.y o.dy (and-fst (eqb (a.y + o.dy) (suc a.y)) _ r)) (stay a.z o.dz (and-snd (eqb (a.y + o.dy) (suc a.y)) _ r)))

-- The step that leads from a cell to one that touches it.
pub step_of : (s : Offsets) (a b : Cell) → T (touch_by s a b) → (o : Offset) × Mem o offsets26 × T (s o) × T (leads a b o)
step_of s a b t =
    let r : (o : Offset) × Mem o offsets26 × T (s o && leads a b o) = any_out (λ o. s o && leads a b o) offsets26 (and-snd (eqb a.grid b.grid) _ t) in
    (r.0, r.1, and-fst (s r.0) _ r.2, and-snd (s r.0) _ r.2)

-- Touching by a set that holds the opposite of each of its members.
pub touching-by : (s : Offsets) → T (holds_opposites s) → Touching (touch_by s)
touching-by s ok =
    record {
      flip = λ a b t.
          let r = step_of s a b t in
          let f : T (fair r.0) = all-out fair offsets26 all_fair r.1 in
          let q : T (small r.0) = and-fst (small r.0) _ f in
          let p = any_out (same_offset (opposite r.0)) offsets26 (and-snd (not (same_offset r.0 (record { dx = 1; dy = 1; dz = 1 }))) _ (and-snd (small r.0) _ f)) in
          let e : opposite r.0 ≡ p.0 = offset-eq (opposite r.0) p.0 p.2 in
          let h : T (s (opposite r.0)) = ⊎_elim (λ n. absurd (T_not (s r.0) n r.2)) (λ u. u) (or_cases (not (s r.0)) _ (all-out (λ o. not (s o) || s (opposite o)) offsets26 ok r.1)) in
          and_both (eqb b.grid a.grid) _ (eqb_of b.grid a.grid (sym (eqb→eq a.grid b.grid (and-fst (eqb a.grid b.grid) _ t))))
          (any-in (λ o. s o && leads b a o) p.1
          (subst (λ o. T (s o && leads b a o)) e (and_both (s (opposite r.0)) _ h (back-leads a b r.0 q r.3))));
      apart = λ a t.
          let r = step_of s a a t in
          let f : T (fair r.0) = all-out fair offsets26 all_fair r.1 in
          T_not (same_offset r.0 (record { dx = 1; dy = 1; dz = 1 })) (and-fst (not (same_offset r.0 (record { dx = 1; dy = 1; dz = 1 }))) _ (and-snd (small r.0) _ f)) (leads-self a r.0 r.3);
      one-grid = λ a b t. eqb→eq _ _ (and-fst (eqb a.grid b.grid) _ t);
    }

-- Touching by all 26.
pub touching-26 : Touching (touch_by all26)
touching-26 = touching-by all26 tt

-- A cell above zero on each axis, as every cell in range is, has all its neighbours.
pub record AboveZero (c : Cell) : Type 0 where
  pub x : 0 < c.x
  pub y : 0 < c.y
  pub z : 0 < c.z

-- The order of offsets is the order of the cells that they lead to.
abbrev pub offset_below : Offset → Offset → Bool
offset_below o p = before o.dz p.dz (before o.dy p.dy (ltb o.dx p.dx))

pub offsets-asc : Asc offset_below offsets26
offsets-asc = is_ascending-out offsets26 tt

before-map : (m n m' n' : ℕ) (r r' : Bool) → (m < n → m' < n') → (m ≡ n → m' ≡ n') → (T r → T r') → T (before m n r) → T (before m' n' r')
before-map m n m' n' r r' f g h t =
    ⊎_elim (λ u. or_left (ltb m' n') _ (lt→ltb m' n' (f (ltb→lt m n u))))
    (λ u. or_right (ltb m' n') _ (and_both (eqb m' n') r' (eqb_of _ _ (g (eqb→eq m n (and-fst (eqb m n) r u)))) (h (and-snd (eqb m n) r u))))
    (or_cases (ltb m n) _ t)

-- Steps in order, the first of which stays above zero, shift to cells in order.
pub shift-mono : (c : Cell) (o p : Offset) → 0 < c.x + o.dx → 0 < c.y + o.dy → 0 < c.z + o.dz → T (offset_below o p) → T (below (shift c o) (shift c p))
shift-mono c o p hx hy hz t =
    or_right (ltb c.grid c.grid) _ (and_both (eqb c.grid c.grid) _ (eqb_refl c.grid)
    (before-map o.dz p.dz (c.z + o.dz - 1) (c.z + p.dz - 1) _ _ (λ h. omega arith) (λ h. omega arith)
    (before-map o.dy p.dy (c.y + o.dy - 1) (c.y + p.dy - 1) (ltb o.dx p.dx) _ (λ h. omega arith) (λ h. omega arith)
    (λ u. lt→ltb (c.x + o.dx - 1) (c.x + p.dx - 1) (omega (arith, ltb→lt o.dx p.dx u)))) t))

-- A step leads to no other cell than the one that it shifts to.
pub shift-leads : (c d : Cell) (o : Offset) → c.grid ≡ d.grid → T (leads c d o) → d ≡ shift c o
shift-leads c d o g t =
    let r : T (eqb (c.y + o.dy) (suc d.y) && eqb (c.z + o.dz) (suc d.z)) = and-snd (eqb (c.x + o.dx) (suc d.x)) _ t in
    let ex : c.x + o.dx ≡ suc d.x = eqb→eq _ _ (and-fst (eqb (c.x + o.dx) (suc d.x)) _ t) in
    let ey : c.y + o.dy ≡ suc d.y = eqb→eq _ _ (and-fst (eqb (c.y + o.dy) (suc d.y)) _ r) in
    let ez : c.z + o.dz ≡ suc d.z = eqb→eq _ _ (and-snd (eqb (c.y + o.dy) (suc d.y)) _ r) in
    let hx : d.x ≡ c.x + o.dx - 1 = omega arith in
    let hy : d.y ≡ c.y + o.dy - 1 = omega arith in
    let hz : d.z ≡ c.z + o.dz - 1 = omega arith in
    λ i. record { grid = sym g i; z = hz i; y = hy i; x = hx i }

module _ (c : Cell) (up : AboveZero c) where
  -- A step leads to the cell that it shifts to.
  pub leads-shift : (o : Offset) → T (leads c (shift c o) o)
  leads-shift o =
      let hx = up.x in let hy = up.y in let hz = up.z in
      let ex : c.x + o.dx ≡ suc (c.x + o.dx - 1) = omega arith in
      let ey : c.y + o.dy ≡ suc (c.y + o.dy - 1) = omega arith in
      let ez : c.z + o.dz ≡ suc (c.z + o.dz - 1) = omega arith in
      and_both (eqb (c.x + o.dx) (suc (c.x + o.dx - 1))) _ (eqb_of _ _ ex) (and_both (eqb (c.y + o.dy) (suc (c.y + o.dy - 1))) _ (eqb_of _ _ ey) (eqb_of _ _ ez))

  -- The neighbours stand in cell order.
  pub neighbours-asc : (s : Offsets) → Asc below (neighbours s c)
  neighbours-asc s = each-asc (shift c) (keep s offsets26) (λ o p m k t. let hx = up.x in let hy = up.y in let hz = up.z in shift-mono c o p (omega arith) (omega arith) (omega arith) t) (keep-asc s offsets26 offsets-asc)

  -- A neighbour touches the cell.
  pub neighbour-touches : (s : Offsets) {d : Cell} → Mem d (neighbours s c) → T (touch_by s c d)
  neighbour-touches s {d} m =
      let r = each-out (shift c) (keep s offsets26) m in
      let k = keep_out s offsets26 r.1 in
      subst (λ e. T (touch_by s c e)) (sym r.2)
      (and_both (eqb c.grid c.grid) _ (eqb_refl c.grid) (any-in (λ o. s o && leads c (shift c r.0) o) k.0 (and_both (s r.0) _ k.1 (leads-shift r.0))))

  -- A cell that touches it is a neighbour.
  pub touching-neighbour : (s : Offsets) {d : Cell} → T (touch_by s c d) → Mem d (neighbours s c)
  touching-neighbour s {d} t =
      let r = step_of s c d t in
      subst (λ e. Mem e (neighbours s c)) (sym (shift-leads c d r.0 (eqb→eq _ _ (and-fst (eqb c.grid d.grid) _ t)) r.3))
      (each_in (shift c) (keep-in s r.1 r.2))

  -- Trying the neighbours in order finds the touching cells of an ascending list in cell order.
  pub tried-in-order : (s : Offsets) (l : List Cell) → Asc below l → keep (has same l) (neighbours s c) ≡ keep (touch_by s c) l
  tried-in-order s l asc =
      asc-equal cells _ _ (keep-asc (has same l) (neighbours s c) (neighbours-asc s)) (keep-asc (touch_by s c) l asc)
      (λ a m. let r = keep_out (has same l) (neighbours s c) m in keep-in (touch_by s c) (of-has cells l r.1) (neighbour-touches s r.0))
      (λ a m. let r = keep_out (touch_by s c) l m in keep-in (has same l) (touching-neighbour s r.1) (has_of cells r.0))

-- Numbers are close exactly if a step of 0, 1 or 2 leads from one to one more than the other.
close-step : (m n : ℕ) → T (close m n) → (d : ℕ) × (d ≤ 2) × (m + d ≡ suc n)
close-step m n t =
    let h = leb→le m (suc n) (and-fst (leb m (suc n)) _ t) in
    let k = leb→le n (suc m) (and-snd (leb m (suc n)) _ t) in
    (suc n - m, omega arith, omega arith)

step-close : (m n d : ℕ) → d ≤ 2 → m + d ≡ suc n → T (close m n)
step-close m n d h e = and_both (leb m (suc n)) (leb n (suc m)) (le→leb m (suc n) (omega arith)) (le→leb n (suc m) (omega arith))

-- Every step of 0, 1 or 2 on each axis that moves is one of the 26.
abbrev steps : List ℕ
steps = count 0 3

abbrev step_found : ℕ → ℕ → ℕ → Bool
step_found dz dy dx = not (moves (record { dx = dx; dy = dy; dz = dz })) || any (same_offset (record { dx = dx; dy = dy; dz = dz })) offsets26

steps-found : T (all (λ dz. all (λ dy. all (step_found dz dy) steps) steps) steps)
steps-found = tt

offset-found : (o : Offset) → T (small o) → T (moves o) → Mem o offsets26
offset-found o s m =
    let r : T (leb o.dy 2 && leb o.dz 2) = and-snd (leb o.dx 2) _ s in
    let hx = leb→le o.dx 2 (and-fst (leb o.dx 2) _ s) in
    let hy = leb→le o.dy 2 (and-fst (leb o.dy 2) _ r) in
    let hz = leb→le o.dz 2 (and-snd (leb o.dy 2) _ r) in
    let kx : Mem o.dx steps = count-in 0 3 (omega arith) (omega arith) in
    let ky : Mem o.dy steps = count-in 0 3 (omega arith) (omega arith) in
    let kz : Mem o.dz steps = count-in 0 3 (omega arith) (omega arith) in
    let fz : T (all (λ dy. all (step_found o.dz dy) steps) steps) = all-out (λ dz. all (λ dy. all (step_found dz dy) steps) steps) steps steps-found kz in
    let fy : T (all (step_found o.dz o.dy) steps) = all-out (λ dy. all (step_found o.dz dy) steps) steps fz ky in
    let f : T (step_found o.dz o.dy o.dx) = all-out (step_found o.dz o.dy) steps fy kx in
    let g : T (any (same_offset o) offsets26) = ⊎_elim (λ n. absurd (T_not (moves o) n m)) (λ u. u) (or_cases (not (moves o)) _ f) in
    let p = any_out (same_offset o) offsets26 g in
    subst (λ q. Mem q offsets26) (sym (offset-eq o p.0 p.2)) p.1

-- Touching by all 26 is the touching of crate `component`.
pub touch26-touches : (a b : Cell) → touch_by all26 a b ≡ touches a b
touch26-touches a b = same_test (touch_by all26 a b) (touches a b) to from
  where
    to : T (touch_by all26 a b) → T (touches a b)
    to t =
        let r = step_of all26 a b t in
        let s : T (small r.0) = and-fst (small r.0) _ (all-out fair offsets26 all_fair r.1) in
        let s1 : T (leb r.0.dy 2 && leb r.0.dz 2) = and-snd (leb r.0.dx 2) _ s in
        let l1 : T (eqb (a.y + r.0.dy) (suc b.y) && eqb (a.z + r.0.dz) (suc b.z)) = and-snd (eqb (a.x + r.0.dx) (suc b.x)) _ r.3 in
        and_both (eqb a.grid b.grid) _ (and-fst (eqb a.grid b.grid) _ t)
        (and_both (close a.x b.x) _ (step-close a.x b.x r.0.dx (leb→le r.0.dx 2 (and-fst (leb r.0.dx 2) _ s)) (eqb→eq (a.x + r.0.dx) (suc b.x) (and-fst (eqb (a.x + r.0.dx) (suc b.x)) _ r.3)))
        (and_both (close a.y b.y) _ (step-close a.y b.y r.0.dy (leb→le r.0.dy 2 (and-fst (leb r.0.dy 2) _ s1)) (eqb→eq (a.y + r.0.dy) (suc b.y) (and-fst (eqb (a.y + r.0.dy) (suc b.y)) _ l1)))
        (and_both (close a.z b.z) _ (step-close a.z b.z r.0.dz (leb→le r.0.dz 2 (and-snd (leb r.0.dy 2) _ s1)) (eqb→eq (a.z + r.0.dz) (suc b.z) (and-snd (eqb (a.y + r.0.dy) (suc b.y)) _ l1)))
        (differ cells (λ e. touching-26.apart a (subst (λ c. T (touch_by all26 a c)) (sym e) t))))))

    from : T (touches a b) → T (touch_by all26 a b)
    from t =
        let t1 : T (close a.x b.x && (close a.y b.y && (close a.z b.z && not (same a b)))) = and-snd (eqb a.grid b.grid) _ t in
        let t2 : T (close a.y b.y && (close a.z b.z && not (same a b))) = and-snd (close a.x b.x) _ t1 in
        let t3 : T (close a.z b.z && not (same a b)) = and-snd (close a.y b.y) _ t2 in
        let g : T (eqb a.grid b.grid) = and-fst (eqb a.grid b.grid) _ t in
        let x = close-step a.x b.x (and-fst (close a.x b.x) _ t1) in
        let y = close-step a.y b.y (and-fst (close a.y b.y) _ t2) in
        let z = close-step a.z b.z (and-fst (close a.z b.z) _ t3) in
        let o : Offset = record { dx = x.0; dy = y.0; dz = z.0 } in
        let s : T (small o) = and_both (leb x.0 2) _ (le→leb x.0 2 x.1) (and_both (leb y.0 2) _ (le→leb y.0 2 y.1) (le→leb z.0 2 z.1)) in
        let l : T (leads a b o) = and_both (eqb (a.x + x.0) (suc b.x)) _ (eqb_of (a.x + x.0) (suc b.x) x.2) (and_both (eqb (a.y + y.0) (suc b.y)) _ (eqb_of (a.y + y.0) (suc b.y) y.2) (eqb_of (a.z + z.0) (suc b.z) z.2)) in
        and_both (eqb a.grid b.grid) _ g
        (any-in (λ p. all26 p && leads a b p) (offset-found o s (not_T (eqb x.0 1 && (eqb y.0 1 && eqb z.0 1)) (λ u. still x y z g (and-snd (close a.z b.z) _ t3) u))) l)
      where
        still : (x : (d : ℕ) × (d ≤ 2) × (a.x + d ≡ suc b.x)) (y : (d : ℕ) × (d ≤ 2) × (a.y + d ≡ suc b.y)) (z : (d : ℕ) × (d ≤ 2) × (a.z + d ≡ suc b.z)) →
            T (eqb a.grid b.grid) → T (not (same a b)) → T (eqb x.0 1 && (eqb y.0 1 && eqb z.0 1)) → ⊥
        still x y z g n u =
            let u1 : T (eqb y.0 1 && eqb z.0 1) = and-snd (eqb x.0 1) _ u in
            let ex = eqb→eq x.0 1 (and-fst (eqb x.0 1) _ u) in
            let ey = eqb→eq y.0 1 (and-fst (eqb y.0 1) _ u1) in
            let ez = eqb→eq z.0 1 (and-snd (eqb y.0 1) _ u1) in
            let fx : a.x ≡ b.x = omega (arith, x.2) in
            let fy : a.y ≡ b.y = omega (arith, y.2) in
            let fz : a.z ≡ b.z = omega (arith, z.2) in
            T_not (same a b) n
            (and_both (eqb a.grid b.grid) _ g (and_both (eqb a.z b.z) _ (eqb_of a.z b.z fz) (and_both (eqb a.y b.y) _ (eqb_of a.y b.y fy) (eqb_of a.x b.x fx))))
