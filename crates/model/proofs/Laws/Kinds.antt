-- The three kinds of touching: each set holds its opposites, has 6, 18 or 26 members, and is a test on two cells.
use Rattle.std.specs.Prelude.{ℕ, suc, ◌+◌, ◌≡◌, refl, Bool, true, false, cond, ◌&&◌, T, eqb, leb, length}
use Rattle.std.proofs.Common.{arith, sym, subst, eqb→eq}
use Rattle.component.specs.Touch.{touches}
use Rattle.model.specs.Lists.{keep}
use Rattle.model.specs.Cells.{Cell, Offset, Offsets, offsets26, all26, axes, apart_on, kind_allows, offsets_of, holds_opposites, leads, touch_by, touch_at, touch26, shift, neighbours}
use Rattle.model.proofs.Laws.Tests.{and-fst, and-snd, and_both, eqb_of, same_test}
use Rattle.model.proofs.Laws.Members.{any-in, each-length}
use Rattle.model.proofs.Laws.Touching.{Touching, touching-by, step_of, touch26-touches}

-- The set of a kind, by the two tests on it.
abbrev set_by : Bool → Bool → Offsets
set_by six eighteen o = cond six (eqb (axes o) 1) (cond eighteen (leb (axes o) 2) true)

set-opposites : (six eighteen : Bool) → T (holds_opposites (set_by six eighteen))
set-opposites true eighteen = tt
set-opposites false true = tt
set-opposites false false = tt

-- Each set holds the opposite of each of its members; so would that of any other number, which is all 26.
pub kind-opposites : (kind : ℕ) → T (holds_opposites (offsets_of kind))
kind-opposites kind = set-opposites (eqb kind 6) (eqb kind 18)

-- Touching of a kind is touching by its set.
pub kind-set : (kind : ℕ) → touch_at kind ≡ touch_by (offsets_of kind)
unfolding touch_at
kind-set kind = refl

-- So what is shown for every such set holds of each kind.
pub kind-touching : (kind : ℕ) → Touching (touch_at kind)
unfolding touch_at
kind-touching kind = touching-by (offsets_of kind) (kind-opposites kind)

-- They have 6, 18 and 26 members.
pub kind-6 : length (keep (offsets_of 6) offsets26) ≡ 6
kind-6 = refl

pub kind-18 : length (keep (offsets_of 18) offsets26) ≡ 18
kind-18 = refl

pub kind-26 : length (keep (offsets_of 26) offsets26) ≡ 26
kind-26 = refl

-- At 26 it is the touching that the theorems for all 26 name.
pub kind-all : touch_at 26 ≡ touch26
unfolding touch_at
kind-all = refl

-- A cell has as many neighbours as the set has members.
pub kind-neighbours : (s : Offsets) (c : Cell) → length (neighbours s c) ≡ length (keep s offsets26)
kind-neighbours s c = each-length (shift c) (keep s offsets26)

-- A step moves on an axis exactly where the cells differ.
axis-same : (m n d : ℕ) → T (eqb (m + d) (suc n)) → eqb d 1 ≡ eqb m n
axis-same m n d t =
    let e = eqb→eq (m + d) (suc n) t in
    same_test (eqb d 1) (eqb m n)
    (λ u. let h = eqb→eq d 1 u in let k : m ≡ n = omega arith in eqb_of m n k)
    (λ u. let h = eqb→eq m n u in let k : d ≡ 1 = omega arith in eqb_of d 1 k)

axes-apart : (a b : Cell) (o : Offset) → T (leads a b o) → axes o ≡ apart_on a b
axes-apart a b o t =
    let r : T (eqb (a.y + o.dy) (suc b.y) && eqb (a.z + o.dz) (suc b.z)) = and-snd (eqb (a.x + o.dx) (suc b.x)) _ t in
    let x = axis-same a.x b.x o.dx (and-fst (eqb (a.x + o.dx) (suc b.x)) _ t) in
    let y = axis-same a.y b.y o.dy (and-fst (eqb (a.y + o.dy) (suc b.y)) _ r) in
    let z = axis-same a.z b.z o.dz (and-snd (eqb (a.y + o.dy) (suc b.y)) _ r) in
    λ i. cond (x i) 0 1 + (cond (y i) 0 1 + cond (z i) 0 1)

-- Touching of a kind is the touching of crate `component` on as many axes as the kind allows.
pub touch-kind : (kind : ℕ) (a b : Cell) → touch_at kind a b ≡ touches a b && kind_allows kind (apart_on a b)
unfolding touch_at
touch-kind kind a b =
    same_test (touch_by (offsets_of kind) a b) (touches a b && kind_allows kind (apart_on a b))
    (λ t.
    let r = step_of (offsets_of kind) a b t in
    let u : T (touch_by all26 a b) = and_both (eqb a.grid b.grid) _ (and-fst (eqb a.grid b.grid) _ t) (any-in (λ o. all26 o && leads a b o) r.1 r.3) in
    and_both (touches a b) _ (subst T (touch26-touches a b) u) (subst (λ n. T (kind_allows kind n)) (axes-apart a b r.0 r.3) r.2))
    (λ t.
    let u : T (touch_by all26 a b) = subst T (sym (touch26-touches a b)) (and-fst (touches a b) _ t) in
    let r = step_of all26 a b u in
    and_both (eqb a.grid b.grid) _ (and-fst (eqb a.grid b.grid) _ u)
    (any-in (λ o. offsets_of kind o && leads a b o) r.1
    (and_both (offsets_of kind r.0) _ (subst (λ n. T (kind_allows kind n)) (sym (axes-apart a b r.0 r.3)) (and-snd (touches a b) _ t)) r.3)))
