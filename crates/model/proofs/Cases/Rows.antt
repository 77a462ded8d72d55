-- Small moves on paper: entity counts.
use Rattle.std.specs.Prelude.{ℕ, suc, ◌≡◌, refl, true, false, List, [], ◌∷◌, ◌++◌}
use Rattle.model.specs.Lists.{each, change}
use Rattle.model.specs.Cells.{touch_at}
use Rattle.model.specs.Occupancy.{Batch}
use Rattle.model.specs.Groups.{Group, rule3, regroup}
use Rattle.model.specs.Update.{State, refusal_by, accepted_by, update_by}
use Rattle.model.specs.Consistent.{records_exact}
use Rattle.model.proofs.Cases.{played, fill, moving, removing, at, case_b}

-- The state after some batches.
abbrev pub after : List Batch → State
after bs = (played 26 bs).state

-- The entity counts of the groups, ascending by id.
abbrev pub numbers : State → List ℕ
numbers s = each (λ (p : ℕ × Group). p.1.entities) s.records

-- Two entities in one cell count as two.
pub counts-apart : numbers (after (fill 0 ∷ moving ((2, at 2) ∷ (3, at 2) ∷ []) ∷ [])) ≡ 1 ∷ 2 ∷ []
unfolding touch_at update_by refusal_by accepted_by regroup rule3
counts-apart = refl

-- Groups that merge count together; an entity that leaves counts no more.
pub counts-merge : numbers (after (case_b ++ (moving ((3, at 2) ∷ []) ∷ []))) ≡ 4 ∷ []
unfolding touch_at update_by refusal_by accepted_by regroup rule3
counts-merge = refl

pub counts-leave : numbers (after (case_b ++ (moving ((3, at 2) ∷ []) ∷ removing 2 ∷ []))) ≡ 3 ∷ []
unfolding touch_at update_by refusal_by accepted_by regroup rule3
counts-leave = refl

-- A split counts each piece anew.
pub counts-split : numbers (after (case_b ++ (moving ((3, at 2) ∷ []) ∷ removing 1 ∷ []))) ≡ 1 ∷ 2 ∷ []
unfolding touch_at update_by refusal_by accepted_by regroup rule3
counts-split = refl

-- A group with one entity more.
abbrev one_more : Group → Group
one_more r = record { grid = r.grid; count = r.count; entities = suc r.entities; low = r.low; high = r.high }

-- The same state, one entity more in each stored number.
abbrev pub one_too_many : State → State
one_too_many s = record { kind = s.kind; occupancy = s.occupancy; groups = s.groups; records = change (λ g r. one_more r) s.records }

-- A wrong number breaks point 5.
pub counts-checked : records_exact (after (fill 0 ∷ [])) ≡ true
unfolding touch_at update_by refusal_by accepted_by regroup rule3
counts-checked = refl

pub counts-wrong : records_exact (one_too_many (after (fill 0 ∷ []))) ≡ false
unfolding touch_at update_by refusal_by accepted_by regroup rule3
counts-wrong = refl
