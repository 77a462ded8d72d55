-- What an update that was not refused before leaves.
use Rattle.std.specs.Prelude.{ℕ, cond, List, ◌++◌, eqb, drop}
use Rattle.refusal.specs.Forms.{Refused, plain}
use Rattle.model.specs.Update.{State}
use Rattle.layout.specs.State.{state_len, encode}

-- The number of an update, and the words it leaves: those of the state after it where it is done, else those that were there.
unfoldable pub done : List ℕ → ℕ × State → ℕ × List ℕ
done w p = (p.0, cond (eqb p.0 0) (encode p.1 ++ drop state_len w) w)

-- The same, with the number as it is told of a refusal without a place.
abbrev pub plainly : ℕ × List ℕ → Refused × List ℕ
plainly p = (plain p.0, p.1)
