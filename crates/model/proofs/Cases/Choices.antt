-- What is asked of a state, and whether it is consistent, reads the kind of touching that it has chosen.
use Rattle.std.specs.Prelude.{ℕ, ◌≡◌, refl, true, false, [], ◌∷◌}
use Rattle.std.proofs.Math.Option.{some}
use Rattle.component.specs.Around.{around, listed, place, step_n}
use Rattle.model.specs.Cells.{touch_at}
use Rattle.model.specs.Masks.{mask_of}
use Rattle.model.specs.Groups.{rule3, regroup}
use Rattle.model.specs.Update.{State, fresh_refusal, refusal_by, accepted_by, update_by}
use Rattle.model.specs.Questions.{nearby, path_between, cube}
use Rattle.model.specs.Consistent.{consistent}
use Rattle.model.proofs.Cases.{Case, at, moving, played}
use Rattle.model.proofs.Cases.Kinds.{edge}

-- The state after the batches of a case at a kind.
abbrev pub after : ℕ → Case → State
after kind c = (played kind c.batches).state

-- At 6 the path to the edge cell goes by the side cell; at 18 it does not.
abbrev pub three : Case
three = record { batches = moving ((0, at 0) ∷ (1, at 1) ∷ (2, edge) ∷ []) ∷ []; seen = [] }

pub path-6 : path_between (after 6 three) (at 0) edge ≡ some (at 0 ∷ at 1 ∷ edge ∷ [])
unfolding touch_at update_by refusal_by accepted_by regroup rule3
path-6 = refl

pub path-18 : path_between (after 18 three) (at 0) edge ≡ some (at 0 ∷ edge ∷ [])
unfolding touch_at update_by refusal_by accepted_by regroup rule3
path-18 = refl

-- Nearby leaves out what does not touch; cube does not.
pub nearby-6 : (nearby (after 6 three) (at 0)).list ≡ at 0 ∷ at 1 ∷ []
unfolding touch_at update_by refusal_by accepted_by regroup rule3
nearby-6 = refl

pub cube-6 : (cube (after 6 three) (at 0) 1).list ≡ at 0 ∷ at 1 ∷ edge ∷ []
unfolding touch_at around listed place step_n update_by refusal_by accepted_by regroup rule3
cube-6 = refl

-- The same state, said to be of another kind.
abbrev pub said_to_be : ℕ → State → State
said_to_be kind s = record { kind = kind; occupancy = s.occupancy; groups = s.groups; records = s.records }

-- A state is consistent at its own kind: one with the masks or ids of another is not, nor one of a kind that is none of the three.
pub own-kind : consistent (after 6 three) ≡ true
unfolding touch_at mask_of update_by refusal_by accepted_by regroup rule3
own-kind = refl

pub edge-bit-refused : consistent (said_to_be 6 (after 18 three)) ≡ false
unfolding touch_at mask_of update_by refusal_by accepted_by regroup rule3
edge-bit-refused = refl

pub unknown-kind : consistent (said_to_be 7 (after 26 three)) ≡ false
unfolding touch_at mask_of update_by refusal_by accepted_by regroup rule3
unknown-kind = refl

-- A fresh state of another kind is 13, also where too few ids are left.
pub fresh-13 : fresh_refusal 18446744073709551615 7 ≡ 13
fresh-13 = refl

pub fresh-5 : fresh_refusal 18446744073709551615 18 ≡ 5
fresh-5 = refl
