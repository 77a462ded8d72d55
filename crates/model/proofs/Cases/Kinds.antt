-- Moves that show what a kind of touching counts: a step on one axis, on two (an edge), on three (a corner).
use Rattle.std.specs.Prelude.{◌≡◌, refl, true, List, [], ◌∷◌}
use Rattle.std.proofs.Math.Option.{none}
use Rattle.model.specs.Lists.{all}
use Rattle.model.specs.Cells.{Cell, touch_at}
use Rattle.model.specs.Groups.{rule3, regroup}
use Rattle.model.specs.Update.{refusal_by, accepted_by, update_by}
use Rattle.model.proofs.Cases.{Case, Seen, ids, floods, at, cell, moving, removing, holds_at}

-- A second entity goes to the cell that a step leads to from (0,0,0).
abbrev pub pair : Cell → List Seen → Case
pair c l = record { batches = moving ((0, at 0) ∷ (1, c) ∷ []) ∷ []; seen = l }

-- Both cells have one id, and a flood from the first reaches the second.
abbrev pub together : Cell → Case
together c = pair c (ids ((at 0, 0) ∷ (c, 0) ∷ []) ∷ floods (at 0) none (at 0 ∷ c ∷ []) ∷ [])

-- Each has its own id, and a flood from the first stays there.
abbrev pub asunder : Cell → Case
asunder c = pair c (ids ((at 0, 0) ∷ (c, 1) ∷ []) ∷ floods (at 0) none (at 0 ∷ []) ∷ [])

-- (1,1,0) lies at an edge of (0,0,0), (1,1,1) at a corner.
abbrev pub edge : Cell
edge = cell 1 1 1 0

abbrev pub vertex : Cell
vertex = cell 1 1 1 1

-- An edge cell joined by a side cell, which then empties.
abbrev pub bridge : List Seen → Case
bridge l = record { batches = moving ((0, at 0) ∷ (1, at 1) ∷ (2, edge) ∷ []) ∷ removing 1 ∷ []; seen = l }

abbrev pub at6 : List Case
at6 = together (at 1) ∷ asunder edge ∷ asunder vertex ∷ bridge (ids ((at 0, 0) ∷ (edge, 1) ∷ []) ∷ []) ∷ []

abbrev pub at18 : List Case
at18 = together (at 1) ∷ together edge ∷ asunder vertex ∷ bridge (ids ((at 0, 0) ∷ (edge, 0) ∷ []) ∷ []) ∷ []

abbrev pub at26 : List Case
at26 = together (at 1) ∷ together edge ∷ together vertex ∷ bridge (ids ((at 0, 0) ∷ (edge, 0) ∷ []) ∷ []) ∷ []

-- At 6 a side counts; at 18 an edge too; at 26 a corner too.
pub at-6 : all (holds_at 6) at6 ≡ true
unfolding touch_at update_by refusal_by accepted_by regroup rule3
at-6 = refl

pub at-18 : all (holds_at 18) at18 ≡ true
unfolding touch_at update_by refusal_by accepted_by regroup rule3
at-18 = refl

pub at-26 : all (holds_at 26) at26 ≡ true
unfolding touch_at update_by refusal_by accepted_by regroup rule3
at-26 = refl
