-- Paths of touching cells, and `reach`, which finds the cells that they reach. Assumes nothing.
use Rattle.std.specs.Prelude.{ℕ, zero, suc, ◌+◌, ◌≤◌, refl, Bool, not, T, length}
use Rattle.std.proofs.Common.{arith, sym, subst, ⊎_elim, length-append}
use mathlib.Core.List.Memᴰ.{append_cases as mem-append}
use mathlib.Core.List.Memᴰ.{append_left as mem-left}
use mathlib.Core.List.Memᴰ.{append_right as mem-right}
use mathlib.Core.List.Memᴰ.{cases_cons as mem-cons}
use mathlib.Core.List.Memᴰ.{cast as mem-cast}
use mathlib.Core.List.Memᴰ.{head}
use mathlib.Core.List.Memᴰ.{not-nil as mem-nil}
use mathlib.Core.List.Memᴰ.{tail}
use mathlib.Core.List.{List, [], ◌∷◌, ◌++◌, Memᴰ as Mem}
use Rattle.model.specs.Lists.{keep}
use Rattle.model.specs.Cells.{Cell}
use Rattle.model.specs.Paths.{PathTo, Path, stop, step}
use Rattle.model.specs.Groups.{reach, part}
use Rattle.model.proofs.Laws.Members.{keep-in, keep_out, keep-length}
use Rattle.model.proofs.Laws.Tests.{decided}

module _ (touch : Cell → Cell → Bool) where
  pub first : {D : Cell → Type 0} {a b : Cell} → Path touch D a b → D a
  first (stop d e) = d
  first (step d t w) = d

  pub wider : {D E : Cell → Type 0} → ((x : Cell) → D x → E x) → {b a : Cell} → Path touch D a b → Path touch E a b
  wider f (stop d e) = stop (f _ d) e
  wider f (step d t w) = step (f _ d) t (wider f w)

  pub join : {D : Cell → Type 0} {b c a : Cell} → Path touch D a b → Path touch D b c → Path touch D a c
  join {D} {c = c} (stop d e) w = subst (λ x. PathTo touch D c x) (sym e) w
  join (step d t v) w = step d t (join v w)

  module _ (flip : (a b : Cell) → T (touch a b) → T (touch b a)) where
    pub back : {D : Cell → Type 0} {b a : Cell} → Path touch D a b → Path touch D b a
    back {D} (stop d e) = stop (subst D e d) (sym e)
    back (step d t w) = join (back w) (step (first w) (flip _ _ t) (stop d refl))

  -- one step of `reach` keeps the number of cells that are queued or not yet queued, less the one that it takes
  less : (c : Cell) (queue rest : List Cell) (n : ℕ) → suc (length queue) + length rest ≤ suc n → length (queue ++ keep (touch c) rest) + length (keep (λ d. not (touch c d)) rest) ≤ n
  less c queue rest n h = omega (arith, length-append queue (keep (touch c) rest), keep-length (touch c) rest)

  -- what is queued is reached, where the fuel lasts
  pub queued : (n : ℕ) (queue rest : List Cell) → length queue + length rest ≤ n → {a : Cell} → Mem a queue → Mem a (reach touch n queue rest)
  queued zero [] rest h m = absurd (mem-nil m)
  queued zero (c ∷ queue) rest h m = absurd (omega arith)
  queued (suc n) [] rest h m = absurd (mem-nil m)
  queued (suc n) (c ∷ queue) rest h m =
      ⊎_elim (λ e. head e)
      (λ k. tail (queued n (queue ++ keep (touch c) rest) (keep (λ d. not (touch c d)) rest) (less c queue rest n h) (mem-left _ k)))
      (mem-cons m)

  -- what touches a cell that is reached is reached
  pub closed : (n : ℕ) (queue rest : List Cell) → length queue + length rest ≤ n → {a b : Cell} → Mem a (reach touch n queue rest) → Mem b rest → T (touch a b) → Mem b (reach touch n queue rest)
  closed zero queue rest h m k t = absurd (mem-nil m)
  closed (suc n) [] rest h m k t = absurd (mem-nil m)
  closed (suc n) (c ∷ queue) rest h {a} {b} m k t =
      ⊎_elim (λ e. at_c (subst (λ x. T (touch x b)) e t))
      (λ m'. ⊎_elim at_c (λ u. tail (closed n _ _ (less c queue rest n h) m' (keep-in (λ d. not (touch c d)) k u) t)) (decided (touch c b)))
      (mem-cons m)
    where
      at_c : T (touch c b) → Mem b (reach touch (suc n) (c ∷ queue) rest)
      at_c u = tail (queued n (queue ++ keep (touch c) rest) _ (less c queue rest n h) (mem-right queue (keep-in (touch c) k u)))

  -- what is reached was queued, or a path from what was queued leads there
  module _ (flip : (a b : Cell) → T (touch a b) → T (touch b a)) (D : Cell → Type 0) (s : Cell) where
    pub reached : (n : ℕ) (queue rest : List Cell) → ((x : Cell) → Mem x queue → Path touch D x s) → ((x : Cell) → Mem x rest → D x) → {a : Cell} → Mem a (reach touch n queue rest) → Path touch D a s
    reached zero queue rest q r m = absurd (mem-nil m)
    reached (suc n) [] rest q r m = absurd (mem-nil m)
    reached (suc n) (c ∷ queue) rest q r {a} m =
        ⊎_elim (λ e. q a (head e))
        (λ k. reached n _ _ q' (λ x h. r x (keep_out (λ d. not (touch c d)) rest h).0) k)
        (mem-cons m)
      where
        q' : (x : Cell) → Mem x (queue ++ keep (touch c) rest) → Path touch D x s
        q' x h =
            ⊎_elim (λ k. q x (tail k))
            (λ k. let o : Mem x rest × T (touch c x) = keep_out (touch c) rest k in step (r x o.0) (flip c x o.1) (q c (head refl)))
            (mem-append queue h)

  -- the part of a cell holds it, and all that touches a member, and a path leads from each member to it
  pub part-self : (c : Cell) (l : List Cell) → Mem c (part touch c l)
  part-self c l = queued (suc (length l)) (c ∷ []) l (omega arith) (head refl)

  pub part-closed : (c : Cell) (l : List Cell) {a b : Cell} → Mem a (part touch c l) → Mem b (c ∷ l) → T (touch a b) → Mem b (part touch c l)
  part-closed c l m k t =
      ⊎_elim (λ e. mem-cast e (part-self c l)) (λ k'. closed (suc (length l)) (c ∷ []) l (omega arith) m k' t) (mem-cons k)

  module _ (flip : (a b : Cell) → T (touch a b) → T (touch b a)) where
    pub part-path : (c : Cell) (l : List Cell) {a : Cell} → Mem a (part touch c l) → Path touch (λ x. Mem x (c ∷ l)) a c
    part-path c l m =
        reached flip (λ x. Mem x (c ∷ l)) c (suc (length l)) (c ∷ []) l
        (λ x h. ⊎_elim (λ e. stop (head e) e) (λ k. absurd (mem-nil k)) (mem-cons h)) (λ x h. tail h) m

    -- `part` finds exactly what paths reach
    pub part-of-path : (c : Cell) (l : List Cell) {a : Cell} → Path touch (λ x. Mem x (c ∷ l)) a c → Mem a (part touch c l)
    part-of-path c l (stop d e) = mem-cast e (part-self c l)
    part-of-path c l (step d t w) = part-closed c l (part-of-path c l w) d (flip _ _ t)
