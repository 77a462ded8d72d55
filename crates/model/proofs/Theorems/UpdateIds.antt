-- Ids over updates: below the next id, never given again, at most 2,048 taken.
use Rattle.std.specs.Prelude.{ℕ, ◌+◌, ◌≤◌, ◌<◌, ◌≡◌, Bool, T}
use Rattle.std.proofs.Common.{arith, sym, subst}
use Rattle.std.proofs.Math.Path.{ap}
use Rattle.std.proofs.Math.Option.{some}
use Rattle.std.proofs.Math.ListN.{length}
use Rattle.model.specs.Facts.{Ok}
use Rattle.model.specs.Cells.{Cell}
use Rattle.model.specs.Occupancy.{Batch, play_batch}
use Rattle.model.specs.Update.{State, accepted_by, update_by}
use Rattle.model.specs.Questions.{id_of}
use Rattle.model.specs.Consistent.{consistent_by}
use Rattle.model.proofs.Laws.Orders.{cells}
use Rattle.model.proofs.Laws.Tables.{at_mem, asc-fair, keys_length}
use Rattle.model.proofs.Laws.Values.{value_in}
use Rattle.model.proofs.Laws.Touching.{Touching}
use Rattle.model.proofs.Laws.Accepted.{Accepts, accepts, update-accepted}
use Rattle.model.proofs.Laws.Steady.{opened-asc, opened-free}
use Rattle.model.proofs.Laws.Consistency.{ok_out, ids-asc, fine_of, steady-of}
use Rattle.model.proofs.Theorems.StaysConsistent.{accepted-ok}
use Rattle.model.proofs.Theorems.Ids.{Later, ids-not-reused, ids-enough-2048}

module _ (touch : Cell → Cell → Bool) (laws : Touching touch) (s : State) (t : T (consistent_by touch s)) where
  ok : Ok touch s
  ok = ok_out touch laws.flip s t

  -- Every id is below the next id.
  pub id-below-next : (a : Cell) (g : ℕ) → id_of s a ≡ some g → g < s.groups.next
  id-below-next a g e = ok.under g (value_in (at_mem cells s.groups.ids (record { is = e })))

  -- An id that ended is never given again, whatever batches follow.
  pub id-never-again : (g : ℕ) → g < s.groups.next → ((a : Cell) → id_of s a ≡ some g → ⊥) → {u : State} → Later touch s u → (a : Cell) → id_of u a ≡ some g → ⊥
  id-never-again g low ended l a e =
      ids-not-reused touch l (asc-fair cells s.groups.ids (ids-asc touch s ok)) low (λ b p. ended b p.is) a (record { is = e })

  module _ (b : Batch) (e : (update_by touch s b).0 ≡ 0) where
    yes : Accepts touch s b
    yes = accepts touch s b (update-accepted touch s b e).0

    few : Ok touch (accepted_by touch s b)
    few = accepted-ok touch laws s b ok yes

    taken : (accepted_by touch s b).groups.next ≤ s.groups.next + 2048
    unfolding accepted_by
    taken =
        ids-enough-2048 touch laws.flip s.groups (fine_of touch s ok) (play_batch touch b s.occupancy).newly_occupied (play_batch touch b s.occupancy).newly_emptied
        (opened-asc touch laws s (steady-of touch s ok) b) (opened-free touch laws s (steady-of touch s ok) b)
        few.few-occupied
        (omega (arith, few.few-cells, ap length few.id-cells, keys_length (accepted_by touch s b).groups.ids))

    -- An accepted update takes at most 2,048 ids.
    pub ids-taken : (update_by touch s b).1.groups.next ≤ s.groups.next + 2048
    ids-taken = subst (λ (u : State). u.groups.next ≤ s.groups.next + 2048) (sym (update-accepted touch s b e).1) taken

    -- So the next id stays a number of 64 bits.
    pub next_fits : (update_by touch s b).1.groups.next < 18446744073709551616
    next_fits = omega (arith, ids-taken, yes.ids-left)
