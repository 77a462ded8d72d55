-- What `fresh` answers and leaves.
use Rattle.std.specs.Prelude.{ℕ, ◌≡◌, Bool, cond, not, ◌&&◌, List, ◌++◌, eqb, drop}
use Rattle.refusal.specs.Forms.{Refused}
use Rattle.refusal.specs.Forms as form
use Rattle.refusal.specs.Forms.{none, too_short, unknown_kind}
use Rattle.model.specs.Cells.{is_kind}
use Rattle.model.specs.Update.{few_ids, fresh}
use Rattle.layout.specs.State.{state_len, encode}
use Rattle.layout.specs.Points.{long_enough}

-- 1 where the words are too few, 13 where the kind is none of the three, 5 where fewer than 2,048 ids are left, and all leave them as
-- found; else none, and the first words are the image of a fresh state.
unfoldable pub fresh_of : List ℕ → ℕ → ℕ → Refused × List ℕ
fresh_of w first kind =
    cond (not (long_enough w)) (too_short, w)
    (cond (not (is_kind kind)) (unknown_kind, w)
    (cond (few_ids first) (form.few_ids, w)
    (none, encode (fresh first kind) ++ drop state_len w)))

-- A refusal is 1, 13, 5 or none exactly when the tests say so: whether the words are long enough, the kind is known, and too few ids are
-- left; it tells no place.
pub record Exactly (r : Refused) (long known few : Bool) : Type 0 where
  pub one : eqb r.number 1 ≡ not long
  pub thirteen : eqb r.number 13 ≡ (long && not known)
  pub five : eqb r.number 5 ≡ (long && (known && few))
  pub done : eqb r.number 0 ≡ (long && (known && not few))
  pub at : r.at ≡ 0
  pub axis : r.axis ≡ 0
