-- The flood, which marks, and the search for a connected part, which keeps what is not yet queued, are one; a flood from a set of cells
-- that touching does not leave stays in it.
use Rattle.std.specs.Prelude.{ℕ, zero, suc, ◌+◌, ◌≤◌, ◌≡◌, refl, Bool, ◌&&◌, not, T, length}
use Rattle.std.proofs.Common.{arith, sym, ◌∙◌, ap, ap₂, subst, ⊎_elim, T_not, length-append}
use mathlib.Core.List.Memᴰ.{append_cases}
use mathlib.Core.List.Memᴰ.{append_left}
use mathlib.Core.List.Memᴰ.{append_right}
use mathlib.Core.List.Memᴰ.{eq_of_singleton as mem-one}
use mathlib.Core.List.Memᴰ.{head}
use mathlib.Core.List.Memᴰ.{tail}
use mathlib.Core.List.{List, [], ◌∷◌, ◌++◌, Memᴰ as Mem}
use Rattle.std.proofs.Math.Dec.{not_T}
use Rattle.model.specs.Lists.{keep, has, without}
use Rattle.model.specs.Cells.{Cell, same}
use Rattle.model.specs.Masks.{touching}
use Rattle.model.specs.Flood.{visit, whole_flood}
use Rattle.model.specs.Groups.{reach, part}
use Rattle.model.proofs.Laws.Tests.{and-fst, and-snd, and_both, same_test}
use Rattle.model.proofs.Laws.Orders.{cells, differ, differs}
use Rattle.model.proofs.Laws.Members.{keep-in, keep_out, keep-length, keep-shorter, keep-ext, keep-keep, keep-swap, hasnt-of, of-hasnt, mem-or, without-length, Once, once-keep}
use Rattle.model.proofs.Laws.View.{keep-sub}
use Rattle.model.specs.Facts.{minus}
use Rattle.model.proofs.Laws.Floods.{whole-none, whole-visit}

-- A flood that marks is a search among what is not marked.
pub visit-reach : (touch : Cell → Cell → Bool) (l : List Cell) (n : ℕ) (queue marked : List Cell) → visit (touching touch l) n queue marked ≡ reach touch n queue (minus same l marked)
visit-reach touch l zero queue marked = refl
visit-reach touch l (suc n) [] marked = refl
visit-reach touch l (suc n) (c ∷ queue) marked =
    ap (λ k. c ∷ k) (visit-reach touch l n (queue ++ new) (marked ++ new) ∙ (λ i. reach touch n (queue ++ swapped i) (rest i)))
  where
    new : List Cell
    new = minus same (touching touch l c) marked

    swapped : new ≡ keep (touch c) (minus same l marked)
    swapped = keep-swap (λ d. not (has same marked d)) (touch c) l

    rest : minus same l (marked ++ new) ≡ keep (λ d. not (touch c d)) (minus same l marked)
    rest =
        keep-ext (λ d. not (has same (marked ++ new) d)) (λ d. not (has same marked d) && not (touch c d)) l
        (λ d m. same_test (not (has same (marked ++ new) d)) (not (has same marked d) && not (touch c d))
        (λ t. let out : Mem d (marked ++ new) → ⊥ = of-hasnt cells (marked ++ new) t in
        let free : T (not (has same marked d)) = hasnt-of cells d marked (λ k. out (append_left new k)) in
        and_both (not (has same marked d)) _ free (not_T (touch c d) (λ u. out (append_right marked (keep-in (λ d. not (has same marked d)) (keep-in (touch c) m u) free)))))
        (λ t. hasnt-of cells d (marked ++ new) (λ k. ⊎_elim
        (λ j. of-hasnt cells marked (and-fst (not (has same marked d)) _ t) j)
        (λ j. T_not (touch c d) (and-snd (not (has same marked d)) _ t) (keep_out (touch c) l (keep_out (λ d. not (has same marked d)) (touching touch l c) j).0).1)
        (append_cases marked k))))
        ∙ sym (keep-keep (λ d. not (touch c d)) (λ d. not (has same marked d)) l)

-- The flood over some cells is the part of its seed among them.
pub flood-part : (touch : Cell → Cell → Bool) (among : List Cell) → Once among → (seed : Cell) → Mem seed among → visit (touching touch among) (length among) (seed ∷ []) (seed ∷ []) ≡ part touch seed (without same seed among)
flood-part touch among once seed h =
    visit-reach touch among (length among) (seed ∷ []) (seed ∷ [])
    ∙ (λ i. reach touch (sym (without-length cells once h) i) (seed ∷ []) (others i))
  where
    others : minus same among (seed ∷ []) ≡ without same seed among
    others =
        keep-ext (λ d. not (has same (seed ∷ []) d)) (λ d. not (same seed d)) among
        (λ d m. same_test (not (has same (seed ∷ []) d)) (not (same seed d))
        (λ t. differ cells (λ e. of-hasnt cells (seed ∷ []) t (head (sym e))))
        (λ t. hasnt-of cells d (seed ∷ []) (λ k. differs cells seed d t (sym (mem-one k)))))

module _ (touch : Cell → Cell → Bool) where
  -- More fuel than cells that are queued or not yet queued changes nothing.
  reach-enough : (n m : ℕ) (queue rest : List Cell) → length queue + length rest ≤ n → length queue + length rest ≤ m → reach touch n queue rest ≡ reach touch m queue rest
  reach-enough zero zero queue rest h k = refl
  reach-enough zero (suc m) [] rest h k = refl
  reach-enough zero (suc m) (c ∷ queue) rest h k = absurd (omega arith)
  reach-enough (suc n) zero [] rest h k = refl
  reach-enough (suc n) zero (c ∷ queue) rest h k = absurd (omega arith)
  reach-enough (suc n) (suc m) [] rest h k = refl
  reach-enough (suc n) (suc m) (c ∷ queue) rest h k =
      ap (λ l. c ∷ l)
      (reach-enough n m (queue ++ keep (touch c) rest) (keep (λ d. not (touch c d)) rest) (omega (arith, length-append queue (keep (touch c) rest), keep-length (touch c) rest)) (omega (arith, length-append queue (keep (touch c) rest), keep-length (touch c) rest)))

  -- So the whole flood is that part.
  pub whole_part : (among : List Cell) → Once among → (seed : Cell) → Mem seed among → whole_flood touch among seed ≡ part touch seed (without same seed among)
  whole_part among once seed h = whole-visit touch among once seed h ∙ flood-part touch among once seed h

  module _ (set : Cell → Bool) (stays : (a b : Cell) → T (touch a b) → T (set a) → T (set b)) where
    -- From a set that touching does not leave, only cells of the set are reached.
    reach-on : (n : ℕ) (queue rest : List Cell) → ((a : Cell) → Mem a queue → T (set a)) → reach touch n queue rest ≡ reach touch n queue (keep set rest)
    reach-on zero queue rest q = refl
    reach-on (suc n) [] rest q = refl
    reach-on (suc n) (c ∷ queue) rest q =
        ap (λ l. c ∷ l)
        (reach-on n (queue ++ keep (touch c) rest) (keep (λ d. not (touch c d)) rest)
        (λ a m. ⊎_elim (λ k. q a (tail k)) (λ k. stays c a (keep_out (touch c) rest k).1 (q c (head refl))) (append_cases queue m))
        ∙ ap₂ (λ new old. reach touch n (queue ++ new) old) (sym (keep-sub (touch c) set rest (λ d m t. stays c d t (q c (head refl))))) (keep-swap set (λ d. not (touch c d)) rest))

    -- So a flood from a cell of the set goes over the set only.
    pub whole-on : (among : List Cell) → Once among → (seed : Cell) → T (set seed) → whole_flood touch among seed ≡ whole_flood touch (keep set among) seed
    whole-on among once seed u =
        ⊎_elim (λ h.
        whole_part among once seed h
        ∙ reach-on (suc (length others)) (seed ∷ []) others (λ a m. subst (λ x. T (set x)) (sym (mem-one m)) u)
        ∙ reach-enough (suc (length others)) (suc (length (keep set others))) (seed ∷ []) (keep set others) (omega (arith, keep-shorter set others)) (omega arith)
        ∙ ap (part touch seed) (keep-swap set (λ d. not (same seed d)) among)
        ∙ sym (whole_part (keep set among) (once-keep set among once) seed (keep-in set h u)))
        (λ n. whole-none touch among seed n ∙ sym (whole-none touch (keep set among) seed (λ m. n (keep_out set among m).0))) (mem-or cells seed among)
      where
        others : List Cell
        others = without same seed among
