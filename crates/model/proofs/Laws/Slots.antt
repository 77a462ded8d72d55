-- Which bit of a mask tells of which cell, and what a mask becomes when a cell joins or leaves.
use Rattle.std.specs.Prelude.{ℕ, zero, suc, ◌+◌, ◌-◌, ◌*◌, ◌/◌, ◌%◌, ◌^◌, ◌≤◌, ◌<◌, ◌≡◌, refl, Bool, true, cond, ◌&&◌, ◌||◌, not, T, eqb, length, get_or}
use Rattle.std.proofs.Common.{arith, sym, ap, ◌∙◌, subst, ⊎_elim, T_not, eqb→eq, lt-ltb, le-ltb}
use Rattle.std.proofs.Math.Bool.{false}
use mathlib.Core.List.Memᴰ.{head}
use mathlib.Core.List.Memᴰ.{tail}
use mathlib.Core.List.{List, [], ◌∷◌, ◌++◌, Memᴰ as Mem}
use Rattle.std.proofs.Math.Dec.{not_T}
use Rattle.component.specs.Around.{step_n, Within}
use Rattle.component.specs.Laws.Touch.{touches-within}
use Rattle.component.specs.Laws.Tests.{le-or-lt}
use Rattle.model.specs.Lists.{all, any, each, without, add, count, put, drop_key, change}
use Rattle.model.specs.Cells.{Cell, same, below, Offset, Offsets, offsets26, all26, leads, touch_by}
use Rattle.model.specs.Masks.{bit, with_bit, without_bit, leads_to, mask_of, masked}
use Rattle.model.specs.Places.{offset_at, place_in, slot_of, slot}
use Rattle.model.proofs.Laws.Tests.{cond_no, T_true, true_of, and-fst, and-snd, and_both, or_cases, or_left, or_right, eqb_of, same_test}
use Rattle.model.proofs.Laws.Orders.{cells}
use Rattle.model.proofs.Laws.Members.{all-out, any-in, any_out, count-in, without_in, without-out, each-ext}
use Rattle.model.proofs.Laws.Sorted.{add-in, add-out, add-self}
use Rattle.model.proofs.Laws.Touching.{same_offset, offset-eq, step_of, touch26-touches}
use Rattle.model.proofs.Laws.Masks.{made-add, made-change, only-made}
use Rattle.model.proofs.Laws.Bits.{and_yes, bit-zero, bit-number, number-few, bits-equal, bit-with, bit-without, with-few, without-few}

-- The offset of a place of the block of 27.
abbrev pub offset_of : ℕ → Offset
offset_of j = record { dx = j % 3; dy = j / 3 % 3; dz = j / 3 / 3 }

get_d-in : {A : Type 0} (l : List A) (k : ℕ) (a : A) → k < length l → Mem (get_or l k a) l
get_d-in [] k a h = absurd (omega arith)
get_d-in (x ∷ l) zero a h = head refl
get_d-in (x ∷ l) (suc k) a h = tail (get_d-in l k a (omega arith))

offsets_are : all (λ k. same_offset (offset_at k) (offset_of (step_n 13 k))) (count 0 26) ≡ true
unfolding step_n
offsets_are = refl

pub offset-is : (k : ℕ) → k < 26 → offset_at k ≡ offset_of (step_n 13 k)
offset-is k h = offset-eq (offset_at k) (offset_of (step_n 13 k)) (all-out (λ k. same_offset (offset_at k) (offset_of (step_n 13 k))) (count 0 26) (T_true offsets_are) (let z : 0 ≤ k = omega arith in let m : Mem k (count 0 26) = count-in 0 26 z h in m))

-- It is one of them.
pub offset-in : (k : ℕ) → k < 26 → Mem (offset_at k) offsets26
offset-in k h = get_d-in offsets26 k (record { dx = 1; dy = 1; dz = 1 }) h

-- The place of a number, and the number of a place.
step-low : (k : ℕ) → k < 13 → step_n 13 k ≡ k
unfolding step_n
step-low k h = simp (lt-ltb k 13 h)

step-high : (k : ℕ) → 13 ≤ k → step_n 13 k ≡ k + 1
unfolding step_n
step-high k h = simp (le-ltb k 13 h)

pub slot-low : (j : ℕ) → j < 13 → slot_of j ≡ j
slot-low j h = simp (lt-ltb j 13 h)

pub slot-high : (j : ℕ) → 13 ≤ j → slot_of j ≡ j - 1
slot-high j h = simp (le-ltb j 13 h)

pub slot_step : (k : ℕ) → slot_of (step_n 13 k) ≡ k
slot_step k =
    ⊎_elim (λ h. ap slot_of (step-high k h) ∙ slot-high (k + 1) (omega arith) ∙ omega arith) (λ h. ap slot_of (step-low k h) ∙ slot-low k h) (le-or-lt 13 k)

pub step-slot : (j : ℕ) → (j ≡ 13 → ⊥) → step_n 13 (slot_of j) ≡ j
step-slot j n =
    ⊎_elim
    (λ h. let g : 13 < j = omega arith in ap (step_n 13) (slot-high j h) ∙ step-high (j - 1) (omega arith) ∙ omega arith)
    (λ h. ap (step_n 13) (slot-low j h) ∙ step-low j h)
    (le-or-lt 13 j)

-- The step on an axis from one number to one close to it.
axis-step : (m n : ℕ) → (m ≤ n + 1) × (n ≤ m + 1) → (n + 1 - m ≤ 2) × (m + (n + 1 - m) ≡ suc n)
axis-step m n h = (omega (arith, h.0, h.1), omega (arith, h.0, h.1))

-- The three digits of a place.
digits : (a b c : ℕ) → c ≤ 2 → b ≤ 2 → (((a * 3 + b) * 3 + c) % 3 ≡ c) × (((a * 3 + b) * 3 + c) / 3 % 3 ≡ b) × (((a * 3 + b) * 3 + c) / 3 / 3 ≡ a)
digits a b c h k = (omega arith, omega arith, omega arith)

module _ (c d : Cell) where
  -- An offset that leads from c to d is at the place of d.
  leads-place : (j : ℕ) → T (leads c d (offset_of j)) → place_in c d ≡ j
  leads-place j t =
      let ex : c.x + j % 3 ≡ suc d.x = eqb→eq (c.x + j % 3) (suc d.x) (and-fst (eqb (c.x + j % 3) (suc d.x)) _ t) in
      let r = and-snd (eqb (c.x + j % 3) (suc d.x)) _ t in
      let ey : c.y + j / 3 % 3 ≡ suc d.y = eqb→eq (c.y + j / 3 % 3) (suc d.y) (and-fst (eqb (c.y + j / 3 % 3) (suc d.y)) _ r) in
      let ez : c.z + j / 3 / 3 ≡ suc d.z = eqb→eq (c.z + j / 3 / 3) (suc d.z) (and-snd (eqb (c.y + j / 3 % 3) (suc d.y)) _ r) in
      omega arith

  module _ (w : Within 1 c d) where
    -- The offset at the place of d leads there.
    place-leads : T (leads c d (offset_of (place_in c d)))
    place-leads =
        let p : ℕ = place_in c d in
        let sx : (d.x + 1 - c.x ≤ 2) × (c.x + (d.x + 1 - c.x) ≡ suc d.x) = axis-step c.x d.x w.x in
        let sy : (d.y + 1 - c.y ≤ 2) × (c.y + (d.y + 1 - c.y) ≡ suc d.y) = axis-step c.y d.y w.y in
        let sz : (d.z + 1 - c.z ≤ 2) × (c.z + (d.z + 1 - c.z) ≡ suc d.z) = axis-step c.z d.z w.z in
        let e = digits (d.z + 1 - c.z) (d.y + 1 - c.y) (d.x + 1 - c.x) sx.0 sy.0 in
        let ex : c.x + p % 3 ≡ suc d.x = ap (λ (n : ℕ). c.x + n) e.0 ∙ sx.1 in
        let ey : c.y + p / 3 % 3 ≡ suc d.y = ap (λ (n : ℕ). c.y + n) e.1 ∙ sy.1 in
        let ez : c.z + p / 3 / 3 ≡ suc d.z = ap (λ (n : ℕ). c.z + n) e.2 ∙ sz.1 in
        and_both (eqb (c.x + p % 3) (suc d.x)) _ (eqb_of (c.x + p % 3) (suc d.x) ex)
        (and_both (eqb (c.y + p / 3 % 3) (suc d.y)) _ (eqb_of (c.y + p / 3 % 3) (suc d.y) ey) (eqb_of (c.z + p / 3 / 3) (suc d.z) ez))

    place-small : place_in c d < 27
    place-small = omega (arith, w.x.0, w.x.1, w.y.0, w.y.1, w.z.0, w.z.1)

    module _ (n : d ≡ c → ⊥) where
      -- Only the cell itself is at the centre.
      off-centre : place_in c d ≡ 13 → ⊥
      off-centre e =
          let z : d.z ≡ c.z = omega (arith, w.x.0, w.x.1, w.y.0, w.y.1, w.z.0, w.z.1) in
          let y : d.y ≡ c.y = omega (arith, w.x.0, w.x.1, w.y.0, w.y.1, w.z.0, w.z.1) in
          let x : d.x ≡ c.x = omega (arith, w.x.0, w.x.1, w.y.0, w.y.1, w.z.0, w.z.1) in
          n (λ i. record { grid = w.grid i; z = z i; y = y i; x = x i })

      -- The bit of d is one of the 26.
      pub slot-few : slot c d < 26
      slot-few =
          ⊎_elim (λ h. let p = place-small in let e = slot-high (place_in c d) h in omega arith) (λ h. let e = slot-low (place_in c d) h in omega arith) (le-or-lt 13 (place_in c d))

      -- The k-th offset leads to d exactly if k is its bit.
      pub leads-slot : (k : ℕ) → k < 26 → leads c d (offset_at k) ≡ eqb k (slot c d)
      leads-slot k h =
          same_test (leads c d (offset_at k)) (eqb k (slot c d))
          (λ t. eqb_of k (slot c d) (sym (ap slot_of (leads-place (step_n 13 k) (subst (λ o. T (leads c d o)) (offset-is k h) t)) ∙ slot_step k)))
          (λ t.
          let e : step_n 13 k ≡ place_in c d = ap (step_n 13) (eqb→eq k (slot c d) t) ∙ step-slot (place_in c d) off-centre in
          subst (λ o. T (leads c d o)) (sym (offset-is k h ∙ ap offset_of e)) place-leads)

or_no : (b : Bool) → b || false ≡ b
or_no true = refl
or_no false = refl

-- What some member passes, with one member more at the end.
any-end : {A : Type 0} (p : A → Bool) (l : List A) (x : A) → any p (l ++ (x ∷ [])) ≡ any p l || p x
any-end p [] x = or_no (p x)
any-end p (y ∷ l) x = ap (λ b. p y || b) (any-end p l x) ∙ go (p y)
  where
    go : (b : Bool) → b || (any p l || p x) ≡ (b || any p l) || p x
    go true = refl
    go false = refl

-- What is found under a place of a list changed member by member.
get_d-each : {A B : Type 0} (f : A → B) (l : List A) (k : ℕ) (a : A) (b : B) → k < length l → get_or (each f l) k b ≡ f (get_or l k a)
get_d-each f [] k a b h = absurd (omega arith)
get_d-each f (x ∷ l) zero a b h = refl
get_d-each f (x ∷ l) (suc k) a b h = get_d-each f l k a b (omega arith)

module _ (touch : Cell → Cell → Bool) where
  -- Bit k of a mask tells whether the k-th offset leads to a touching one of the cells.
  pub mask-bit : (l : List Cell) (c : Cell) (k : ℕ) → k < 26 → bit (mask_of touch l c) k ≡ leads_to touch l c (offset_at k)
  unfolding mask_of
  mask-bit l c k h = bit-number (each (leads_to touch l c) offsets26) k ∙ get_d-each (leads_to touch l c) offsets26 k (record { dx = 1; dy = 1; dz = 1 }) false h

  -- A mask has 26 bits.
  pub mask-few : (l : List Cell) (c : Cell) → mask_of touch l c < 2 ^ 26
  unfolding mask_of
  mask-few l c = number-few (each (leads_to touch l c) offsets26)

  -- A number of 26 bits that tells the same is the mask.
  pub mask_is : (l : List Cell) (c : Cell) (m : ℕ) → m < 2 ^ 26 → ((k : ℕ) → k < 26 → bit m k ≡ leads_to touch l c (offset_at k)) → m ≡ mask_of touch l c
  mask_is l c m h f = bits-equal 26 m (mask_of touch l c) h (mask-few l c) (λ k j. f k j ∙ sym (mask-bit l c k j))

  -- What is told of some cells once c has joined.
  leads-add : (l : List Cell) (c d : Cell) (o : Offset) → leads_to touch (add below c l) d o ≡ leads_to touch l d o || (touch d c && leads d c o)
  leads-add l c d o =
      same_test (leads_to touch (add below c l) d o) (leads_to touch l d o || p c)
      (λ t. let r = any_out p (add below c l) t in
      ⊎_elim (λ e. or_right (leads_to touch l d o) _ (subst (λ x. T (p x)) e r.2)) (λ m. or_left (leads_to touch l d o) _ (any-in p m r.2)) (add-out cells c l r.1))
      (λ t. ⊎_elim (λ u. let r = any_out p l u in any-in p (add-in cells c l r.1) r.2) (λ u. any-in p (add-self cells c l refl) u) (or_cases (leads_to touch l d o) _ t))
    where
      p : Cell → Bool
      p x = touch d x && leads d x o

-- An offset that leads from one cell to another, axis by axis.
pub leads-parts : (a b : Cell) (o : Offset) → T (leads a b o) → (a.x + o.dx ≡ suc b.x) × (a.y + o.dy ≡ suc b.y) × (a.z + o.dz ≡ suc b.z)
leads-parts a b o t =
    let r = and-snd (eqb (a.x + o.dx) (suc b.x)) _ t in (
      eqb→eq _ _ (and-fst (eqb (a.x + o.dx) (suc b.x)) _ t),
      eqb→eq _ _ (and-fst (eqb (a.y + o.dy) (suc b.y)) _ r),
      eqb→eq _ _ (and-snd (eqb (a.y + o.dy) (suc b.y)) _ r),
    )

-- One offset at most leads from one cell to another.
pub same_step : (c d : Cell) (o p : Offset) → T (leads c d o) → T (leads c d p) → o ≡ p
same_step c d o p t u =
    let a = leads-parts c d o t in let b = leads-parts c d p u in
    let x : o.dx ≡ p.dx = omega (arith, a.0, b.0) in
    let y : o.dy ≡ p.dy = omega (arith, a.1, b.1) in
    let z : o.dz ≡ p.dz = omega (arith, a.2, b.2) in
    λ i. record { dx = x i; dy = y i; dz = z i }

module _ (s : Offsets) where
  -- Cells that touch by a set of offsets are close and differ.
  pub touch-close : (c d : Cell) → T (touch_by s c d) → Within 1 c d × (d ≡ c → ⊥)
  touch-close c d t =
      let r = step_of s c d t in
      let u : T (touch_by all26 c d) = and_both (eqb c.grid d.grid) _ (and-fst (eqb c.grid d.grid) _ t) (any-in (λ o. all26 o && leads c d o) r.1 r.3) in
      touches-within c d (sym (touch26-touches c d) ∙ true_of (touch_by all26 c d) u)

  -- One cell at most is where an offset leads.
  leads_one : (d x y : Cell) (o : Offset) → T (touch_by s d x && leads d x o) → T (touch_by s d y && leads d y o) → x ≡ y
  leads_one d x y o t u =
      let lx = and-snd (touch_by s d x) _ t in let ly = and-snd (touch_by s d y) _ u in
      let gx : d.grid ≡ x.grid = eqb→eq _ _ (and-fst (eqb d.grid x.grid) _ (and-fst (touch_by s d x) _ t)) in
      let gy : d.grid ≡ y.grid = eqb→eq _ _ (and-fst (eqb d.grid y.grid) _ (and-fst (touch_by s d y) _ u)) in
      let px = leads-parts d x o lx in let py = leads-parts d y o ly in
      let ex : x.x ≡ y.x = omega (arith, px.0, py.0) in
      let ey : x.y ≡ y.y = omega (arith, px.1, py.1) in
      let ez : x.z ≡ y.z = omega (arith, px.2, py.2) in
      let eg : x.grid ≡ y.grid = sym gx ∙ gy in
      λ i. record { grid = eg i; z = ez i; y = ey i; x = ex i }

  -- What is told of some cells once c has left.
  leads-without : (l : List Cell) (c d : Cell) (o : Offset) → leads_to (touch_by s) (without same c l) d o ≡ leads_to (touch_by s) l d o && not (touch_by s d c && leads d c o)
  leads-without l c d o =
      same_test (leads_to (touch_by s) (without same c l) d o) (leads_to (touch_by s) l d o && not (p c))
      (λ t.
      let r = any_out p (without same c l) t in
      let w = without-out cells c l r.1 in
      and_both (leads_to (touch_by s) l d o) _ (any-in p w.0 r.2) (not_T (p c) (λ u. w.1 (leads_one d r.0 c o r.2 u))))
      (λ t.
      let r = any_out p l (and-fst (leads_to (touch_by s) l d o) _ t) in
      any-in p (without_in cells c r.1 (λ e. T_not (p c) (and-snd (leads_to (touch_by s) l d o) _ t) (subst (λ x. T (p x)) e r.2))) r.2)
    where
      p : Cell → Bool
      p x = touch_by s d x && leads d x o

  -- Where cells are told of as before, and c beside them, the mask is as before with the bit of c.
  mask-more : (l k : List Cell) (c d : Cell) → ((o : Offset) → leads_to (touch_by s) k d o ≡ leads_to (touch_by s) l d o || (touch_by s d c && leads d c o)) →
      mask_of (touch_by s) k d ≡ cond (touch_by s d c) (with_bit (mask_of (touch_by s) l d) (slot d c)) (mask_of (touch_by s) l d)
  mask-more l k c d f = go (touch_by s d c) refl
    where
      m : ℕ
      m = mask_of (touch_by s) l d

      go : (b : Bool) → touch_by s d c ≡ b → mask_of (touch_by s) k d ≡ cond b (with_bit m (slot d c)) m
      go true e =
          let w = touch-close d c (T_true e) in
          sym (mask_is (touch_by s) k d (with_bit m (slot d c)) (with-few 26 m (slot d c) (mask-few (touch_by s) l d) (slot-few d c w.0 w.1))
          (λ n h.
          bit-with m (slot d c) n
          ∙ (λ i. mask-bit (touch_by s) l d n h i || (sym e i && sym (leads-slot d c w.0 w.1 n h) i))
          ∙ sym (f (offset_at n))))
      go false e =
          sym (mask_is (touch_by s) k d m (mask-few (touch_by s) l d)
          (λ n h.
          mask-bit (touch_by s) l d n h ∙ sym (or_no (leads_to (touch_by s) l d (offset_at n)))
          ∙ (λ i. leads_to (touch_by s) l d (offset_at n) || (sym e i && leads d c (offset_at n)))
          ∙ sym (f (offset_at n))))

  -- A cell that joins sets its bit in the masks of those that it touches.
  pub mask-add : (l : List Cell) (c d : Cell) → mask_of (touch_by s) (add below c l) d ≡ cond (touch_by s d c) (with_bit (mask_of (touch_by s) l d) (slot d c)) (mask_of (touch_by s) l d)
  mask-add l c d = mask-more l (add below c l) c d (leads-add (touch_by s) l c d)

  -- The same of a cell that comes in at the end.
  pub mask_end : (l : List Cell) (c d : Cell) → mask_of (touch_by s) (l ++ (c ∷ [])) d ≡ cond (touch_by s d c) (with_bit (mask_of (touch_by s) l d) (slot d c)) (mask_of (touch_by s) l d)
  mask_end l c d = mask-more l (l ++ (c ∷ [])) c d (λ o. any-end (λ x. touch_by s d x && leads d x o) l c)

  -- No cell, no bit.
  pub mask-none : (d : Cell) → 0 ≡ mask_of (touch_by s) [] d
  mask-none d = mask_is (touch_by s) [] d 0 (omega arith) (λ k h. bit-zero k)

  -- A cell that leaves clears its bit in the masks of those that it touches.
  pub mask-without : (l : List Cell) (c d : Cell) → mask_of (touch_by s) (without same c l) d ≡ cond (touch_by s d c) (without_bit (mask_of (touch_by s) l d) (slot d c)) (mask_of (touch_by s) l d)
  mask-without l c d = go (touch_by s d c) refl
    where
      m : ℕ
      m = mask_of (touch_by s) l d

      go : (b : Bool) → touch_by s d c ≡ b → mask_of (touch_by s) (without same c l) d ≡ cond b (without_bit m (slot d c)) m
      go true e =
          let w = touch-close d c (T_true e) in
          sym (mask_is (touch_by s) (without same c l) d (without_bit m (slot d c)) (without-few 26 m (slot d c) (mask-few (touch_by s) l d))
          (λ k h.
          bit-without m (slot d c) k
          ∙ (λ i. mask-bit (touch_by s) l d k h i && not (sym e i && sym (leads-slot d c w.0 w.1 k h) i))
          ∙ sym (leads-without l c d (offset_at k))))
      go false e =
          sym (mask_is (touch_by s) (without same c l) d m (mask-few (touch_by s) l d)
          (λ k h.
          mask-bit (touch_by s) l d k h ∙ sym (and_yes (leads_to (touch_by s) l d (offset_at k)))
          ∙ (λ i. leads_to (touch_by s) l d (offset_at k) && not (sym e i && leads d c (offset_at k)))
          ∙ sym (leads-without l c d (offset_at k))))

  -- What a cell that joins, or leaves, changes in the mask of d.
  abbrev pub joined : Cell → Cell → ℕ → ℕ
  joined c d m = cond (touch_by s d c) (with_bit m (slot d c)) m

  abbrev pub left : Cell → Cell → ℕ → ℕ
  left c d m = cond (touch_by s d c) (without_bit m (slot d c)) m

  -- A cell's own bit is in no mask of its own.
  own : (c : Cell) (a b : ℕ) → cond (touch_by s c c) a b ≡ b
  own c a b = cond_no (touch_by s c c) a b (not_T (touch_by s c c) (λ t. (touch-close c c t).1 refl))

  -- The masks once a cell has joined.
  pub masked-add : (l : List Cell) (c : Cell) → masked (touch_by s) (add below c l) ≡ put below c (mask_of (touch_by s) l c) (change (joined c) (masked (touch_by s) l))
  masked-add l c =
      each-ext (λ d. (d, mask_of (touch_by s) (add below c l) d)) (λ d. (d, joined c d (mask_of (touch_by s) l d))) (add below c l) (λ d m. ap (λ (n : ℕ). (d, n)) (mask-add l c d))
      ∙ made-add cells (λ d. joined c d (mask_of (touch_by s) l d)) c l
      ∙ (λ i. put below c (own c (with_bit (mask_of (touch_by s) l c) (slot c c)) (mask_of (touch_by s) l c) i) (sym (made-change (mask_of (touch_by s) l) (joined c) l) i))

  -- The masks once a cell has left.
  pub masked-without : (l : List Cell) (c : Cell) → masked (touch_by s) (without same c l) ≡ change (left c) (drop_key same c (masked (touch_by s) l))
  masked-without l c =
      each-ext (λ d. (d, mask_of (touch_by s) (without same c l) d)) (λ d. (d, left c d (mask_of (touch_by s) l d))) (without same c l) (λ d m. ap (λ (n : ℕ). (d, n)) (mask-without l c d))
      ∙ sym (made-change (mask_of (touch_by s) l) (left c) (without same c l))
      ∙ ap (change (left c)) (sym (only-made (λ d. not (same c d)) (mask_of (touch_by s) l) l))
