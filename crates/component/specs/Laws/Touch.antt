-- Cells that touch are the neighbours to the radius 1, and touching is symmetric.
use Rattle.std.specs.Prelude.{◌≡◌, ℕ, suc, ◌+◌, ◌<◌, ◌≤◌, Bool, true, false, not, ◌&&◌, T, ◌==◌, ◌≢◌, nat_le, refl}
use Rattle.std.proofs.Common.{arith, sym, subst, le-leb, leb-true, eq-eqb, eqb-true, T_not}
use mathlib.Core.List.{Memᴰ as Mem}
use Rattle.component.specs.Around.{neighbour_at, around, Above, Within}
use Rattle.component.specs.Laws.Neighbours.{neighbour-found, neighbour-within, neighbour-other, around-sound, around-complete}
use Rattle.component.specs.Order.{same}
use Rattle.component.specs.Laws.Order.{same-eq, same_self}
use Rattle.component.specs.Laws.Tests.{both}
use Rattle.component.specs.Touch.{close, touches}
use Rattle.component.specs.declared.Cell.{Cell}

close-is : (m n : ℕ) → close m n ≡ true → (m ≤ n + 1) × (n ≤ m + 1)
close-is m n e =
    let p = both (nat_le m (suc n)) (nat_le n (suc m)) e in
    let h = leb-true m (suc n) p.0 in
    let k = leb-true n (suc m) p.1 in
    (omega arith, omega arith)

is-close : (m n : ℕ) → (m ≤ n + 1) × (n ≤ m + 1) → close m n ≡ true
is-close m n h = simp (le-leb m (suc n) (omega arith), le-leb n (suc m) (omega arith))

not_same : (a b : Cell) → (b ≢ a) → same a b ≡ false
not_same a b ne = tested (same a b) refl
  where
    tested : (t : Bool) → same a b ≡ t → t ≡ false
    tested true e = absurd (ne (sym (same-eq a b (subst T (sym e) tt))))
    tested false e = refl

-- A cell that touches c is within 1 of c, and is not c.
pub touches-within : (c d : Cell) → touches c d ≡ true → Within 1 c d × (d ≢ c)
touches-within c d e =
    let g = both (c.grid == d.grid) (close c.x d.x && (close c.y d.y && (close c.z d.z && not (same c d)))) e in
    let x = both (close c.x d.x) (close c.y d.y && (close c.z d.z && not (same c d))) g.1 in
    let y = both (close c.y d.y) (close c.z d.z && not (same c d)) x.1 in
    let z = both (close c.z d.z) (not (same c d)) y.1 in (
      record { grid = sym (eqb-true _ _ g.0); z = close-is _ _ z.0; y = close-is _ _ y.0; x = close-is _ _ x.0 },
      (λ q. let n : not (same c c) ≡ true = subst (λ (k : Cell). not (same c k) ≡ true) q z.1 in
          T_not (same c c) (subst T (sym n) tt) (same_self c)),
    )

-- A cell within 1 of c that is not c touches c.
pub within-touches : (c d : Cell) → Within 1 c d → (d ≢ c) → touches c d ≡ true
within-touches c d w ne =
    let g = eq-eqb c.grid d.grid (sym w.grid) in
    let x = is-close c.x d.x w.x in
    let y = is-close c.y d.y w.y in
    let z = is-close c.z d.z w.z in
    let s = not_same c d ne in
    λ i. g i && (x i && (y i && (z i && not (s i))))

-- A cell that touches c is one of its 26 neighbours.
pub touching-is-neighbour : (c d : Cell) → Above 1 c → touches c d ≡ true → (k : ℕ) × ((k < 26) × (neighbour_at 1 c k ≡ d))
touching-is-neighbour c d a e = let p = touches-within c d e in neighbour-found 1 c d a p.0 p.1

-- Each of the 26 neighbours of c touches c.
pub neighbour-is-touching : (c : Cell) → Above 1 c → (k : ℕ) → k < 26 → touches c (neighbour_at 1 c k) ≡ true
neighbour-is-touching c a k h = within-touches c (neighbour_at 1 c k) (neighbour-within 1 c a k h) (neighbour-other 1 c a k)

-- The cells that touch c are those of its list to the radius 1.
pub touching-in-list : (c d : Cell) → Above 1 c → touches c d ≡ true → Mem d (around 1 c)
touching-in-list c d a e = let p = touches-within c d e in around-complete 1 c d a p.0 p.1

pub list-is-touching : (c d : Cell) → Above 1 c → Mem d (around 1 c) → touches c d ≡ true
list-is-touching c d a m = let p = around-sound 1 c d a m in within-touches c d p.0 p.1

within-flip : (r : ℕ) (c d : Cell) → Within r c d → Within r d c
within-flip r c d w = record { grid = sym w.grid; z = (w.z.1, w.z.0); y = (w.y.1, w.y.0); x = (w.x.1, w.x.0) }

pub touches-flip : (a b : Cell) → touches a b ≡ true → touches b a ≡ true
touches-flip a b e = let p = touches-within a b e in within-touches b a (within-flip 1 a b p.0) (λ q. p.1 (sym q))

-- Touching is symmetric.
pub touches-sym : (a b : Cell) → touches a b ≡ touches b a
touches-sym a b = agree (touches a b) (touches b a) (touches-flip a b) (touches-flip b a)
  where
    agree : (s t : Bool) → (s ≡ true → t ≡ true) → (t ≡ true → s ≡ true) → s ≡ t
    agree true t f g = sym (f refl)
    agree false true f g = g refl
    agree false false f g = refl

-- No cell touches itself.
pub touches-irrefl : (a : Cell) → touches a a ≢ true
touches-irrefl a e = (touches-within a a e).1 refl
