-- Where an entity stands.
use Rattle.std.specs.Prelude.{List, ℕ, Some, None}
use Rattle.std.proofs.Math.Option.{Option, none, some}
use Rattle.std.specs.declared.option.Option.{Option as Maybe}
use Rattle.model.specs.Cells.{Cell}
use Rattle.table.specs.Rows.{cell_at}

-- The cell whose words a lookup finds, or nowhere.
abbrev pub stand_of : Option (List ℕ) → Maybe Cell
stand_of none = None
stand_of (some v) = Some (cell_at v 0)

-- The cell that a lookup finds, or nowhere.
abbrev pub stand_in : Option Cell → Maybe Cell
stand_in none = None
stand_in (some c) = Some c
