-- Each id that rule 3 gives is held by a cell, so rule 3 gives no more ids than there are cells.
use Prim.Native.Nat.{ℕ, suc, ◌+◌, ◌-◌, ◌≤◌, ◌<◌}
use Rattle.std.proofs.Common.{arith, sym, ⊎_elim, ltb→lt, nltb→le}
use Rattle.std.specs.Prelude.{◌≡◌, refl, Bool, T, ltb, length}
use Rattle.std.proofs.Math.Path.{subst}
use mathlib.Core.List.Memᴰ.{head}
use mathlib.Core.List.Memᴰ.{tail}
use mathlib.Core.List.{List, [], ◌∷◌, Memᴰ as Mem}
use Rattle.model.specs.Facts.{At, Fair}
use Rattle.model.specs.Lists.{run, values, only, any, count}
use Rattle.model.specs.Cells.{Cell, same}
use Rattle.model.specs.Groups.{Groups, members, found_at, join_found, rule1, rule2, rule3, affected, take_next, split, split_into, parts}
use Rattle.model.proofs.Laws.Tests.{decided}
use Rattle.model.proofs.Laws.Orders.{numbers}
use Rattle.model.proofs.Laws.Members.{keep_out, count-length, count-out, once-shorter, each-length}
use Rattle.model.proofs.Laws.Sorted.{ascending-out, asc-once, count-asc}
use Rattle.model.proofs.Laws.Tables.{at_once}
use Rattle.model.proofs.Laws.Pairs.{Pairs, Nth, nth-below, nth-mem}
use Rattle.model.proofs.Laws.Takes.{Apart, takes-next, takes-other, nth-takes}
use Rattle.model.proofs.Laws.Fine.{Fine, members-out}
use Rattle.model.proofs.Laws.Pieces.{takers, takers-out}
use Rattle.model.proofs.Laws.PieceOrder.{pieces-sub, pieces-some, pieces-apart, takers-apart}
use Rattle.model.proofs.Laws.Split.{split-fine, rule2-fine}
use Rattle.model.proofs.Laws.Onward.{at_value}
use Rattle.model.proofs.Laws.Values.{value_row}

-- Each id from a number up to below the next id is held by a cell.
abbrev pub Held : ℕ → Groups → Type 0
Held base s = (h : ℕ) → base ≤ h → h < s.next → (a : Cell) × At same s.ids a h

-- Then there are at least as many cells with an id as there are such ids.
pub held-few : (base : ℕ) (s : Groups) → Held base s → s.next ≤ base + length s.ids
held-few base s held =
    let h : length (count base (s.next - base)) ≤ length (values s.ids) =
    once-shorter (asc-once numbers (count-asc base (s.next - base))) (values s.ids)
    (λ a m. let k = count-out base (s.next - base) m in at_value s.ids (held a k.0 (omega (arith, k.1))).1) in
    omega (arith, count-length base (s.next - base), each-length (λ (q : Cell × ℕ). q.1) s.ids)

module _ (touch : Cell → Cell → Bool) (flip : (a b : Cell) → T (touch a b) → T (touch b a)) where
  -- A split of an older group leaves each of these ids held.
  pub split-held : (base : ℕ) (s : Groups) (g : ℕ) → Fair same s.ids → g < base → Held base s → Held base (split touch s g)
  split-held base s g fair low held = go (parts touch group) refl
    where
      group : List Cell
      group = members s.ids g

      go : (l : List (List Cell)) → parts touch group ≡ l → Held base (split_into touch s l)
      go [] e h up down = held h up down
      go (p ∷ ps) e h up down =
          ⊎_elim
          (λ t. let r : (a : Cell) × At same s.ids a h = held h up (ltb→lt h s.next t) in
          (r.0, takes-other touch (takers touch p ps) s r.1 (λ q m k. let d : g ≡ h = at_once (of q m k) r.1 in omega arith)))
          (λ t.
          let j : s.next ≤ h = nltb→le h s.next t in
          let n : (x : List Cell) × Nth x (takers touch p ps) (h - s.next) = nth-below (takers touch p ps) (h - s.next) (omega (arith, takes-next touch (takers touch p ps) s)) in
          let c : (a : Cell) × Mem a n.0 = pieces-some touch (length group) group (part_of n.0 (nth-mem n.1)) in
          let d : s.next + (h - s.next) ≡ h = omega arith in (
            c.0,
            subst (λ x. At same (run (take_next touch) s (takers touch p ps)).ids c.0 x) d
                (nth-takes touch s n.1 (takers-apart touch p ps (subst (Pairs Apart) e (pieces-apart touch (length group) group))) (g, of n.0 (nth-mem n.1) c.1) c.1),
          ))
          (decided (ltb h s.next))
        where
          part_of : (q : List Cell) → Mem q (takers touch p ps) → Mem q (parts touch group)
          part_of q m = subst (λ l. Mem q l) (sym e) (takers-out touch p ps m)

          of : (q : List Cell) → Mem q (takers touch p ps) → {a : Cell} → Mem a q → At same s.ids a g
          of q m k = members-out s.ids g fair (pieces-sub touch (length group) group (part_of q m) k)

  -- So do splits of several older groups.
  pub splits-held : (base : ℕ) (gs : List ℕ) (s : Groups) → Fine touch gs s → ((g : ℕ) → Mem g gs → g < base) → Held base s → Held base (run (split touch) s gs)
  splits-held base [] s ok low held = held
  splits-held base (g ∷ gs) s ok low held =
      splits-held base gs (split touch s g) (split-fine touch flip s g gs ok) (λ h m. low h (tail m)) (split-held base s g ok.fair (low g (head refl)) held)

  -- Rules 2 and 3 give no more ids than there are cells with an id then.
  pub rules23-few : (emptied : List Cell) (s : Groups) → Fine touch [] s → (rule3 touch emptied (rule2 touch emptied s)).next ≤ s.next + length (rule3 touch emptied (rule2 touch emptied s)).ids
  unfolding rule3
  rules23-few emptied s ok =
      let left : Groups = rule2 touch emptied s in
      let gs : List ℕ = affected touch emptied left.ids in
      let fine : Fine touch gs left = rule2-fine touch flip emptied s ok in
      held-few s.next (run (split touch) left gs)
      (splits-held s.next gs left fine
      (λ g m. let r = value_row (only (λ c. any (λ d. touch d c) emptied) left.ids) (ascending-out numbers _ m) in
      let k = keep_out (λ (q : Cell × ℕ). any (λ d. touch d q.0) emptied) left.ids r.1 in
      subst (λ h. h < s.next) (sym r.2) (fine.under (fine.fair r.0 k.0)))
      (λ h up down. absurd (omega arith)))

-- Rule 1 takes at most one id.
pub rule1-few : (touch : Cell → Cell → Bool) (s : Groups) (c : Cell) → (rule1 touch s c).next ≤ suc s.next
rule1-few touch s c = go (found_at touch s.ids c)
  where
    go : (l : List ℕ) → (join_found touch s c l).next ≤ suc s.next
    go [] = omega arith
    go (g ∷ gs) = omega arith

-- Rule 1 for some cells takes at most one id for each.
pub rules1-few : (touch : Cell → Cell → Bool) (l : List Cell) (s : Groups) → (run (rule1 touch) s l).next ≤ s.next + length l
rules1-few touch [] s = omega arith
rules1-few touch (c ∷ l) s = omega (arith, rules1-few touch l (rule1 touch s c), rule1-few touch s c)
