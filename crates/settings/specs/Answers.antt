-- What the calls answer, by a name for each.
use Rattle.std.specs.Prelude.{ℕ, ⊤, Option, Result}
use Rattle.settings.specs.declared.kinds.Settings.{Settings}
use Rattle.settings.specs.declared.kinds.Fault.{Fault}
use Rattle.settings.specs.declared.kinds.ReadError.{ReadError}
use Rattle.settings.specs.declared.kinds.WriteError.{WriteError}

-- Whether something is as it should be.
abbrev pub Check : Type 0
Check = Result ⊤ Fault

-- What a reader answers for a grid: its settings, or none where no record is of the grid.
abbrev pub Reading : Type 0
Reading = Result (Option Settings) ReadError

-- What the writer answers: the new length.
abbrev pub Writing : Type 0
Writing = Result ℕ WriteError

-- What keeping each grid's last record answers: the new length.
abbrev pub Keeping : Type 0
Keeping = Result ℕ ReadError
