-- The cells near a cell: which of them are told, and which bits are noted.
use Prim.Native.Nat.{ℕ, zero, suc, ◌-◌, ◌<◌}
use Rattle.std.proofs.Common.{arith, sym, ◌∙◌, subst, lt-ltb}
use Rattle.std.specs.Prelude.{◌≡◌, Bool, true, false, cond, ◌&&◌, List}
use Rattle.std.proofs.Math.Path.{refl, ap}
use Rattle.std.proofs.Math.Logic.{⊎_elim}
use Rattle.std.proofs.Math.Dec.{T}
use Rattle.component.specs.Order.{same}
use Rattle.component.specs.declared.Cell.{Cell}
use Rattle.component.specs.Adjacent.{has_room}
use Rattle.model.specs.Lists.{has}
use Rattle.model.specs.Cells.{offsets_of, touch_at}
use Rattle.model.specs.Masks.{mask_of, leads_to}
use Rattle.model.proofs.Laws.Tests.{cond_yes, cond_no, T_true, true_of}
use Rattle.model.proofs.Laws.Orders.{cells, same_of, differ, is-or, numbers}
use Rattle.model.proofs.Laws.Kinds.{kind-set}
use Rattle.model.specs.Places.{slot, offset_at}
use Rattle.model.proofs.Laws.Slots.{offset-in, mask_is}
use Rattle.model.proofs.Theorems.MasksExact.{leads-there}
use Rattle.layout.specs.Rows.{number_of, neighbour_of}
use Rattle.layout.proofs.Laws.Kinds.{kind-touches, above, shift-at, touch-near}
use Rattle.layout.proofs.Laws.Numbers.{number-of-neighbour, number-range, neighbour-of-number, number-back}
use Rattle.map.specs.Told.{revised, told_one, of_kind, told, noted}
use Rattle.map.specs.Laws.Tables.{noted-bit, noted-few}

-- The words of a cell that is not told, as it is not wanted or not d, and of one that is.
kept-far : (b : Bool) (a d : Cell) (v w : List ℕ) → (T b → a ≡ d → ⊥) → cond b (cond (same a d) v w) w ≡ w
kept-far true a d v w f = cond_no (same a d) v w (differ cells (f tt))
kept-far false a d v w f = refl

heard-near : (b : Bool) (a d : Cell) (v w : List ℕ) → T b → a ≡ d → cond b (cond (same a d) v w) w ≡ v
heard-near true a d v w t e = cond_yes (same a d) v w (same_of cells e)
heard-near false a d v w t e = absurd t

module _ (wanted : ℕ → Bool) (joins : Bool) (near : ℕ → Cell) (d : Cell) (ws : List ℕ) where
  -- A cell that is not near, or not wanted, keeps its words.
  pub told-far : (k : ℕ) → ((n : ℕ) → n < k → T (wanted n) → near (suc n) ≡ d → ⊥) → told wanted joins near k d ws ≡ ws
  unfolding told told_one
  told-far zero f = refl
  told-far (suc k) f =
      kept-far (wanted k) (near (suc k)) d (revised joins (26 - suc k) (told wanted joins near k d ws)) (told wanted joins near k d ws) (f k (omega arith))
      ∙ told-far k (λ n h. f n (omega arith))

  -- A cell that is near once and wanted hears its number.
  pub told-near : (j k : ℕ) → j < k → T (wanted j) → near (suc j) ≡ d → ((n : ℕ) → n < k → near (suc n) ≡ d → n ≡ j) → told wanted joins near k d ws ≡ revised joins (26 - suc j) ws
  unfolding told told_one
  told-near j zero h t e f = absurd (omega arith)
  told-near j (suc k) h t e f =
      ⊎_elim
      (λ q. heard-near (wanted k) (near (suc k)) d (revised joins (26 - suc k) (told wanted joins near k d ws)) (told wanted joins near k d ws) (subst (λ (n : ℕ). T (wanted n)) q t) (ap (λ (n : ℕ). near (suc n)) (sym q) ∙ e)
      ∙ ap (revised joins (26 - suc k)) (told-far k (λ n g w p. let z = f n (omega arith) p in omega arith))
      ∙ ap (λ (m : ℕ). revised joins (26 - suc m) ws) (sym q))
      (λ q. kept-far (wanted k) (near (suc k)) d (revised joins (26 - suc k) (told wanted joins near k d ws)) (told wanted joins near k d ws) (λ w p. q (sym (f k (omega arith) p)))
      ∙ told-near j k (below_next q) t e (λ n g p. f n (omega arith) p))
      (is-or numbers j k)
    where
      below_next : (j ≡ k → ⊥) → j < k
      below_next q = omega (arith, q)

module _ (kind : ℕ) (c : Cell) (room : has_room 1 c ≡ true) where
  -- The words of the list of d once the neighbours of c are told.
  pub told-cell : (joins : Bool) (d : Cell) (ws : List ℕ) → told (of_kind kind) joins (neighbour_of c) 26 d ws ≡ cond (touch_at kind c d) (revised joins (slot d c) ws) ws
  told-cell joins d ws = go (touch_at kind c d) refl
    where
      go : (b : Bool) → touch_at kind c d ≡ b → told (of_kind kind) joins (neighbour_of c) 26 d ws ≡ cond b (revised joins (slot d c) ws) ws
      go true t =
          let u = kind-touches kind c d t in
          let r = number-range c d u in
          let h : slot c d < 26 = omega (arith, r.1) in
          let e : neighbour_of c (suc (slot c d)) ≡ d = neighbour-of-number c d u room in
          told-near (of_kind kind) joins (neighbour_of c) d ws (slot c d) 26 h (T_true (sym (touch-near c room kind (slot c d) h) ∙ ap (touch_at kind c) e ∙ t)) e
          (λ n l p. let q : number_of c d ≡ suc n = sym (ap (number_of c) p) ∙ number-of-neighbour c room (suc n) (omega arith) (omega arith) in omega (arith, q))
          ∙ ap (λ (m : ℕ). revised joins m ws) (omega (arith, number-back c d u, r.0, r.1))
      go false t =
          told-far (of_kind kind) joins (neighbour_of c) d ws 26
          (λ n h w p. let z : true ≡ false = sym (true_of (of_kind kind n) w) ∙ sym (touch-near c room kind n h) ∙ ap (touch_at kind c) p ∙ t in T-not-true z)
        where
          T-not-true : true ≡ false → ⊥
          T-not-true z = subst T z tt

  -- What is noted of the neighbours is the mask.
  pub noted-mask : (among : List Cell) → noted (of_kind kind) among (neighbour_of c) 26 ≡ mask_of (touch_at kind) among c
  noted-mask among =
      mask_is (touch_at kind) among c (noted (of_kind kind) among (neighbour_of c) 26) (noted-few (of_kind kind) among (neighbour_of c) 26 26 (omega arith))
      (λ k h.
      noted-bit (of_kind kind) among (neighbour_of c) 26 k
      ∙ (λ i. lt-ltb k 26 h i && (of_kind kind k && has same among (sym (shift-at c room k h) i)))
      ∙ sym (leads-there (offsets_of kind) among c (above c room) (offset_at k) (offset-in k h))
      ∙ ap (λ (touch : Cell → Cell → Bool). leads_to touch among c (offset_at k)) (sym (kind-set kind)))
