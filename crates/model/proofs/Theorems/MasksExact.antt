-- What a mask tells: bit by bit, as a count, and as a list in cell order; for every set of offsets.
use Rattle.std.specs.Prelude.{ℕ, ◌+◌, ◌<◌, ◌≡◌, refl, Bool, true, false, cond, ◌&&◌, T, eqb}
use Rattle.std.proofs.Common.{arith, ◌∙◌, subst, eqb→eq}
use Rattle.std.proofs.Math.Path.{sym, ap}
use mathlib.Core.List.{List, Memᴰ as Mem}
use Rattle.std.proofs.Math.Option.{none, some}
use Rattle.std.proofs.Math.ListN.{length}
use Rattle.std.specs.Int.Count.{ones}
use Rattle.model.specs.Facts.{Asc, Ok}
use Rattle.model.specs.Lists.{keep, has, each, count, values, get}
use Rattle.model.specs.Cells.{Cell, same, below, Offset, Offsets, offsets26, all26, holds_opposites, leads, touch_by, touch26, shift}
use Rattle.model.specs.Masks.{bit, touching, leads_to, mask_of}
use Rattle.model.specs.Occupancy.{occupied}
use Rattle.model.specs.Update.{State}
use Rattle.model.specs.Questions.{ones_of, neighbour_count}
use Rattle.model.specs.Consistent.{consistent_by}
use Rattle.model.proofs.Laws.Tests.{and-fst, and-snd, and_both, same_test}
use Rattle.model.proofs.Laws.Orders.{cells}
use Rattle.model.proofs.Laws.Members.{any-in, any_out, keep-in, keep_out, keep-ext, keep-each, each_in, each-out, each-each, each-length, count-out, has_of, of-has}
use Rattle.model.proofs.Laws.Sorted.{ascending-asc, each-asc, keep-asc, asc-equal}
use Rattle.model.proofs.Laws.Touching.{touching-by, offsets-asc, shift-mono, shift-leads, AboveZero, leads-shift, neighbour-touches, step_of}
use Rattle.model.proofs.Laws.Masks.{get-made}
use Rattle.model.proofs.Laws.Consistency.{ok_out}
use Rattle.model.proofs.Laws.Bits.{number-ones}
use Rattle.model.specs.Places.{offset_at}
use Rattle.model.proofs.Laws.Slots.{offset-in, mask-bit, leads-parts, same_step}

-- The tests that hold, counted.
count-tests : {A : Type 0} (f : A → Bool) (l : List A) → length (keep (λ b. b) (each f l)) ≡ length (keep f l)
count-tests f l = ap length (keep-each f (λ b. b) l) ∙ each-length f (keep f l)

module _ (s : Offsets) (l : List Cell) (c : Cell) (up : AboveZero c) where
  -- An offset leads to a touching one of the cells exactly if it is of the set and the cell where it leads is one of them.
  pub leads-there : (o : Offset) → Mem o offsets26 → leads_to (touch_by s) l c o ≡ s o && has same l (shift c o)
  leads-there o m =
      same_test (leads_to (touch_by s) l c o) (s o && has same l (shift c o))
      (λ t.
      let r = any_out p l t in
      let u = and-fst (touch_by s c r.0) _ r.2 in
      let v = and-snd (touch_by s c r.0) _ r.2 in
      let k = step_of s c r.0 u in
      let e : r.0 ≡ shift c o = shift-leads c r.0 o (eqb→eq _ _ (and-fst (eqb c.grid r.0.grid) _ u)) v in
      and_both (s o) _ (subst (λ q. T (s q)) (same_step c r.0 k.0 o k.3 v) k.2) (has_of cells (subst (λ d. Mem d l) e r.1)))
      (λ t.
      let i = of-has cells l (and-snd (s o) _ t) in
      any-in p i (and_both (touch_by s c (shift c o)) _ (neighbour-touches c up s (each_in (shift c) (keep-in s m (and-fst (s o) _ t)))) (leads-shift c up o)))
    where
      p : Cell → Bool
      p d = touch_by s c d && leads c d o

  -- Bit k is set exactly if the k-th offset is of the set and the neighbour where it leads is one of the cells.
  pub bit-there : (k : ℕ) → k < 26 → bit (mask_of (touch_by s) l c) k ≡ s (offset_at k) && has same l (shift c (offset_at k))
  bit-there k h = mask-bit (touch_by s) l c k h ∙ leads-there (offset_at k) (offset-in k h)

module _ (s : Offsets) (l : List Cell) (c : Cell) where
  abbrev led : Offset → Bool
  led = leads_to (touch_by s) l c

  -- Where an offset that tells of a cell leads.
  led-cell : (o : Offset) → T (led o) → (d : Cell) × Mem d l × T (touch_by s c d) × T (leads c d o)
  led-cell o t = let r = any_out (λ d. touch_by s c d && leads c d o) l t in (r.0, r.1, and-fst (touch_by s c r.0) _ r.2, and-snd (touch_by s c r.0) _ r.2)

  led-shift : (o : Offset) → T (led o) → Mem (shift c o) l × T (touch_by s c (shift c o))
  led-shift o t =
      let r = led-cell o t in
      let e : r.0 ≡ shift c o = shift-leads c r.0 o (eqb→eq _ _ (and-fst (eqb c.grid r.0.grid) _ r.2)) r.3 in
      (subst (λ d. Mem d l) e r.1, subst (λ d. T (touch_by s c d)) e r.2)

  led-above : (o : Offset) → T (led o) → (0 < c.x + o.dx) × (0 < c.y + o.dy) × (0 < c.z + o.dz)
  led-above o t = let r = led-cell o t in let p = leads-parts c r.0 o r.3 in (omega (arith, p.0), omega (arith, p.1), omega (arith, p.2))

  -- Where the set bits lead, in their order, are the touching ones of ascending cells, in cell order.
  pub mask-list : Asc below l → each (shift c) (keep led offsets26) ≡ touching (touch_by s) l c
  mask-list asc =
      asc-equal cells (each (shift c) (keep led offsets26)) (touching (touch_by s) l c)
      (each-asc (shift c) (keep led offsets26) (λ o p m k t. let h = led-above o (keep_out led offsets26 m).1 in shift-mono c o p h.0 h.1 h.2 t) (keep-asc led offsets26 offsets-asc))
      (keep-asc (touch_by s c) l asc)
      (λ d m.
      let r = each-out (shift c) (keep led offsets26) m in
      let q = led-shift r.0 (keep_out led offsets26 r.1).1 in
      subst (λ a. Mem a (touching (touch_by s) l c)) (sym r.2) (keep-in (touch_by s c) q.0 q.1))
      (λ d m.
      let r = keep_out (touch_by s c) l m in
      let k = step_of s c d r.1 in
      subst (λ a. Mem a (each (shift c) (keep led offsets26))) (sym (shift-leads c d k.0 (eqb→eq _ _ (and-fst (eqb c.grid d.grid) _ r.1)) k.3))
      (each_in (shift c) (keep-in led k.1 (any-in (λ a. touch_by s c a && leads c a k.0) r.0 (and_both (touch_by s c d) _ r.1 k.3)))))

  -- The ones of a mask are as many as the touching cells.
  pub mask-count : Asc below l → ones (mask_of (touch_by s) l c) ≡ length (touching (touch_by s) l c)
  unfolding mask_of
  mask-count asc =
      number-ones (each led offsets26)
      ∙ count-tests led offsets26
      ∙ sym (each-length (shift c) (keep led offsets26))
      ∙ ap length (mask-list asc)

  -- The set bits lead to the touching cells in cell order.
  pub mask-cells : Asc below l → each (λ k. shift c (offset_at k)) (keep (bit (mask_of (touch_by s) l c)) (count 0 26)) ≡ touching (touch_by s) l c
  mask-cells asc =
      ap (each (λ k. shift c (offset_at k))) (keep-ext (bit (mask_of (touch_by s) l c)) (λ k. led (offset_at k)) (count 0 26) (λ k m. mask-bit (touch_by s) l c k (count-out 0 26 m).1))
      ∙ sym (each-each (shift c) offset_at (keep (λ k. led (offset_at k)) (count 0 26)))
      ∙ ap (each (shift c)) (sym (keep-each offset_at led (count 0 26)))
      ∙ mask-list asc

  -- A set bit leads to one of the cells.
  pub mask-leads : (k : ℕ) → k < 26 → T (bit (mask_of (touch_by s) l c) k) → Mem (shift c (offset_at k)) l
  mask-leads k h t = (led-shift (offset_at k) (subst T (mask-bit (touch_by s) l c k h) t)).0

-- In a consistent state the neighbour count of an occupied cell is the number of occupied cells that it touches; no other cell has one.
pub count-exact : (offsets : Offsets) → T (holds_opposites offsets) → (s : State) → T (consistent_by (touch_by offsets) s) → (c : Cell)
    → neighbour_count s c ≡ cond (has same (occupied s.occupancy) c) (some (length (touching (touch_by offsets) (occupied s.occupancy) c))) none
count-exact offsets closed s ok c =
    let k : Ok (touch_by offsets) s = ok_out (touch_by offsets) (touching-by offsets closed).flip s ok in
    let l = occupied s.occupancy in
    let asc : Asc below l = subst (Asc below) (sym k.sound.cells) (ascending-asc cells (values s.occupancy.entities)) in
    ap (λ (t : List (Cell × ℕ)). ones_of (get same t c)) k.sound.exact
    ∙ ap ones_of (get-made cells (mask_of (touch_by offsets) l) l c)
    ∙ told (has same l c) (mask_of (touch_by offsets) l c) (length (touching (touch_by offsets) l c)) (mask-count offsets l c asc)
  where
    told : (b : Bool) (m n : ℕ) → ones m ≡ n → ones_of (cond b (some m) none) ≡ cond b (some n) none
    told true m n e = ap some e
    told false m n e = refl

-- For all 26.
pub count-26 : (s : State) → T (consistent_by touch26 s) → (c : Cell)
    → neighbour_count s c ≡ cond (has same (occupied s.occupancy) c) (some (length (touching touch26 (occupied s.occupancy) c))) none
count-26 = count-exact all26 tt
