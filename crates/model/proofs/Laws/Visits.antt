-- What `visit` visits, over any lists whose members come once and are among some cells.
use Rattle.std.specs.Prelude.{ℕ, zero, suc, ◌+◌, ◌≤◌, refl, ◌⊎◌, length}
use Rattle.std.proofs.Common.{arith, subst, inl, inr, ⊎_elim, length-append}
use mathlib.Core.List.Memᴰ.{append_cases}
use mathlib.Core.List.Memᴰ.{append_left}
use mathlib.Core.List.Memᴰ.{append_right}
use mathlib.Core.List.Memᴰ.{cases_cons as mem-cons}
use mathlib.Core.List.Memᴰ.{head}
use mathlib.Core.List.Memᴰ.{not-nil as mem-nil}
use mathlib.Core.List.Memᴰ.{tail}
use mathlib.Core.List.{List, [], ◌∷◌, ◌++◌, Memᴰ as Mem}
use Rattle.model.specs.Facts.{minus}
use Rattle.model.specs.Cells.{Cell, same}
use Rattle.model.specs.Flood.{visit}
use Rattle.model.proofs.Laws.Orders.{cells}
use Rattle.model.proofs.Laws.Minus.{minus-in, minus-out}
use Rattle.model.proofs.Laws.Members.{mem-or, Once, once-nil, once-cons, once-head, once-tail, once-keep, once-append, once-shorter}

module _ (list : Cell → List Cell) where
  -- Whatever holds of the queue and passes on along the lists holds of all that is visited.
  pub visit-all : (P : Cell → Type 0) → ((c d : Cell) → P c → Mem d (list c) → P d) → (n : ℕ) (queue marked : List Cell) → ((a : Cell) → Mem a queue → P a) → {a : Cell} → Mem a (visit list n queue marked) → P a
  visit-all P f zero queue marked q m = absurd (mem-nil m)
  visit-all P f (suc n) [] marked q m = absurd (mem-nil m)
  visit-all P f (suc n) (c ∷ queue) marked q m =
      ⊎_elim (λ e. q _ (head e))
      (λ k. visit-all P f n (queue ++ minus same (list c) marked) (marked ++ minus same (list c) marked)
      (λ a j. ⊎_elim (λ i. q a (tail i)) (λ i. f c a (q c (head refl)) (minus-out cells (list c) marked i).0) (append_cases queue j)) k)
      (mem-cons m)

  -- A cell that is visited is queued or not yet marked.
  pub visit-fresh : (n : ℕ) (queue marked : List Cell) {a : Cell} → Mem a (visit list n queue marked) → Mem a queue ⊎ (Mem a marked → ⊥)
  visit-fresh zero queue marked m = absurd (mem-nil m)
  visit-fresh (suc n) [] marked m = absurd (mem-nil m)
  visit-fresh (suc n) (c ∷ queue) marked m =
      ⊎_elim (λ e. inl (head e))
      (λ k. ⊎_elim (λ j. ⊎_elim (λ i. inl (tail i)) (λ i. inr (minus-out cells (list c) marked i).1) (append_cases queue j))
      (λ j. inr (λ i. j (append_left _ i)))
      (visit-fresh n (queue ++ minus same (list c) marked) (marked ++ minus same (list c) marked) k))
      (mem-cons m)

  module _ (list-once : (c : Cell) → Once (list c)) where
    -- A queue with the unmarked members of a list behind it has no member twice.
    once-queued : (c : Cell) (queue marked : List Cell) → Once queue → ((a : Cell) → Mem a queue → Mem a marked) → Once (queue ++ minus same (list c) marked)
    once-queued c queue marked o s =
        once-append queue (minus same (list c) marked) o (once-keep _ (list c) (list-once c))
        (λ a k j. (minus-out cells (list c) marked j).1 (s a k))

    -- No cell is visited twice.
    pub visit-once : (n : ℕ) (queue marked : List Cell) → Once queue → ((a : Cell) → Mem a queue → Mem a marked) → Once (visit list n queue marked)
    visit-once zero queue marked o s = once-nil
    visit-once (suc n) [] marked o s = once-nil
    visit-once (suc n) (c ∷ queue) marked o s =
        once-cons again
        (visit-once n (queue ++ new) (marked ++ new) (once-queued c queue marked (once-tail o) (λ a k. s a (tail k)))
        (λ a k. ⊎_elim (λ j. append_left new (s a (tail j))) (λ j. append_right marked j) (append_cases queue k)))
      where
        new : List Cell
        new = minus same (list c) marked

        again : Mem c (visit list n (queue ++ new) (marked ++ new)) → ⊥
        again m =
            ⊎_elim (λ k. ⊎_elim (once-head o) (λ j. (minus-out cells (list c) marked j).1 (s c (head refl))) (append_cases queue k))
            (λ k. k (append_left new (s c (head refl)))) (visit-fresh n (queue ++ new) (marked ++ new) m)

    module _ (among : List Cell) (among-once : Once among) (list-in : (c d : Cell) → Mem d (list c) → Mem d among) where
      -- Each step takes one from the queued and the unmarked cells.
      less : (c : Cell) (queue marked : List Cell) (n : ℕ) → suc (length queue) + length (minus same among marked) ≤ suc n → length (queue ++ minus same (list c) marked) + length (minus same among (marked ++ minus same (list c) marked)) ≤ n
      less c queue marked n h = omega (arith, length-append queue new, length-append new rest, fewer)
        where
          new : List Cell
          new = minus same (list c) marked

          rest : List Cell
          rest = minus same among (marked ++ new)

          fewer : length (new ++ rest) ≤ length (minus same among marked)
          fewer =
              once-shorter (once-append new rest (once-keep _ (list c) (list-once c)) (once-keep _ among among-once) (λ a k j. (minus-out cells among (marked ++ new) j).1 (append_right marked k)))
              (minus same among marked)
              (λ a m. ⊎_elim (λ k. let r : Mem a (list c) × (Mem a marked → ⊥) = minus-out cells (list c) marked k in minus-in cells marked (list-in c a r.0) r.1)
              (λ k. let r : Mem a among × (Mem a (marked ++ new) → ⊥) = minus-out cells among (marked ++ new) k in minus-in cells marked r.0 (λ j. r.1 (append_left new j))) (append_cases new m))

      -- What is queued is visited, where the fuel lasts.
      pub visit-queued : (n : ℕ) (queue marked : List Cell) → length queue + length (minus same among marked) ≤ n → {a : Cell} → Mem a queue → Mem a (visit list n queue marked)
      visit-queued zero [] marked h m = m
      visit-queued zero (c ∷ queue) marked h m = absurd (omega arith)
      visit-queued (suc n) [] marked h m = m
      visit-queued (suc n) (c ∷ queue) marked h m =
          ⊎_elim (λ e. head e)
          (λ k. tail (visit-queued n (queue ++ minus same (list c) marked) _ (less c queue marked n h) (append_left _ k)))
          (mem-cons m)

      -- What stands in the list of a visited cell is visited or was marked before, where the fuel lasts.
      pub visit-closed : (n : ℕ) (queue marked : List Cell) → length queue + length (minus same among marked) ≤ n → {a b : Cell} → Mem a (visit list n queue marked) → Mem b (list a) → Mem b (visit list n queue marked) ⊎ Mem b marked
      visit-closed zero queue marked h m k = absurd (mem-nil m)
      visit-closed (suc n) [] marked h m k = absurd (mem-nil m)
      visit-closed (suc n) (c ∷ queue) marked h {a} {b} m k =
          ⊎_elim (λ e. ⊎_elim inr (λ j. inl (at_new (minus-in cells marked (subst (λ x. Mem b (list x)) e k) j))) (mem-or cells b marked))
          (λ j. ⊎_elim (λ i. inl (tail i)) (λ i. ⊎_elim inr (λ g. inl (at_new g)) (append_cases marked i)) (visit-closed n (queue ++ new) (marked ++ new) (less c queue marked n h) j k))
          (mem-cons m)
        where
          new : List Cell
          new = minus same (list c) marked

          at_new : Mem b new → Mem b (visit list (suc n) (c ∷ queue) marked)
          at_new j = tail (visit-queued n (queue ++ new) (marked ++ new) (less c queue marked n h) (append_right queue j))
