-- Ids: every id is below the next id, an id that ended is never given again, and how many new ids a batch can take.
use Prim.Native.Nat.{ℕ, ◌+◌, ◌≤◌, ◌<◌}
use Rattle.std.proofs.Common.{arith, inl, inr, ⊎_elim}
use Rattle.std.specs.Prelude.{◌⊎◌, Bool, cond, T, eqb, length}
use Rattle.std.proofs.Math.Bool.{true, false}
use mathlib.Core.List.{List, [], Memᴰ as Mem}
use Rattle.model.specs.Lists.{run}
use Rattle.model.specs.Cells.{Cell, same, below}
use Rattle.model.specs.Occupancy.{Batch, play_batch}
use Rattle.model.specs.Groups.{Groups, rule1, regroup}
use Rattle.model.specs.Update.{State, refusal_by, accepted_by, update_by}
use Rattle.model.specs.Facts.{Asc, At, Free, Fair}
use Rattle.model.proofs.Laws.Fine.{Fine}
use Rattle.model.proofs.Laws.Join.{rule1-fine}
use Rattle.model.proofs.Laws.Regroup.{regroup-fine, rules1-fine}
use Rattle.model.proofs.Laws.Onward.{Onward, onward_self, onward-join, regroup-onward, at_value, value-at}
use Rattle.model.proofs.Laws.Held.{rules1-few, rules23-few}

module _ (touch : Cell → Cell → Bool) where
  -- The state t is reached from the state s by accepted batches.
  pub data Later (s : State) : State → Type 0 where
    now : Later s s
    after : {t : State} (b : Batch) → Later s t → Later s (accepted_by touch t b)

  -- An update, accepted or refused, leads to a later state.
  pub update-later : {s t : State} (b : Batch) → Later s t → Later s (update_by touch t b).1
  unfolding update_by
  update-later {s} {t} b l = go (eqb (refusal_by touch t b) 0)
    where
      go : (c : Bool) → Later s (cond {A = ℕ × State} c (0, accepted_by touch t b) (refusal_by touch t b, t)).1
      go true = after b l
      go false = l

  later-onward : {s t : State} → Later s t → Onward s.groups t.groups
  unfolding accepted_by
  later-onward {s} now = onward_self s.groups
  later-onward (after {t} b l) =
      onward-join (later-onward l) (regroup-onward touch (play_batch touch b t.occupancy).newly_occupied (play_batch touch b t.occupancy).newly_emptied t.groups)

  -- A regrouping never lowers the next id.
  pub next-never-falls : (occupied emptied : List Cell) (s : Groups) → s.next ≤ (regroup touch occupied emptied s).next
  next-never-falls occupied emptied s = (regroup-onward touch occupied emptied s).grows

  -- Each id that a cell has after a regrouping was an id of some cell before it, or is at least the old next id and below the new.
  pub ids-old-or-new : (occupied emptied : List Cell) (s : Groups) → Fair same s.ids → {a : Cell} {g : ℕ} → At same (regroup touch occupied emptied s).ids a g →
      ((b : Cell) × At same s.ids b g) ⊎ ((s.next ≤ g) × (g < (regroup touch occupied emptied s).next))
  ids-old-or-new occupied emptied s fair p =
      ⊎_elim (λ m. inl (value-at s.ids fair m)) inr ((regroup-onward touch occupied emptied s).given (at_value (regroup touch occupied emptied s).ids p))

  -- An id below the next id that no cell has is never given again.
  pub ids-not-reused : {s t : State} → Later s t → Fair same s.groups.ids → {g : ℕ} → g < s.groups.next →
      ((a : Cell) → At same s.groups.ids a g → ⊥) → (a : Cell) → At same t.groups.ids a g → ⊥
  ids-not-reused {s} {t} l fair low ended a p =
      ⊎_elim (λ m. let r = value-at s.groups.ids fair m in ended r.0 r.1) (λ h. let k = h.0 in omega arith)
      ((later-onward l).given (at_value t.groups.ids p))

  module _ (flip : (a b : Cell) → T (touch a b) → T (touch b a)) (s : Groups) (ok : Fine touch [] s) where
    -- After rule 1 every id is below the next id.
    pub ids-below-next-1 : (c : Cell) → Free same s.ids c → {a : Cell} {g : ℕ} → At same (rule1 touch s c).ids a g → g < (rule1 touch s c).next
    ids-below-next-1 c free p = (rule1-fine touch flip s c ok free).under p

    module _ (occupied emptied : List Cell) (asc : Asc below occupied) (free : (c : Cell) → Mem c occupied → Free same s.ids c) where
      -- After a regrouping every id is below the next id.
      pub ids-below-next : {a : Cell} {g : ℕ} → At same (regroup touch occupied emptied s).ids a g → g < (regroup touch occupied emptied s).next
      ids-below-next p = (regroup-fine touch flip occupied emptied s ok asc free).under p

      -- A regrouping takes at most one new id for each newly occupied cell and one for each cell that has an id after it.
      pub ids-enough : (regroup touch occupied emptied s).next ≤ s.next + length occupied + length (regroup touch occupied emptied s).ids
      unfolding regroup
      ids-enough = omega (arith, rules1-few touch occupied s, rules23-few touch flip emptied (run (rule1 touch) s occupied) (rules1-fine touch flip occupied s ok asc free))

      -- At most 1,024 newly occupied cells and at most 1,024 cells after it take at most 2,048 new ids.
      pub ids-enough-2048 : length occupied ≤ 1024 → length (regroup touch occupied emptied s).ids ≤ 1024 → (regroup touch occupied emptied s).next ≤ s.next + 2048
      ids-enough-2048 h k = omega (arith, ids-enough)
