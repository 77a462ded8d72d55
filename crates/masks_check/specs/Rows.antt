-- Point 3, row by row.
use Rattle.std.specs.Prelude.{ℕ, Bool, List, eqb}
use Rattle.model.specs.Cells.{Cell, touch_at}
use Rattle.model.specs.Masks.{mask_of}

-- Whether the mask of a row has exactly the bits of those of some cells that touch at a kind.
abbrev pub row_right : ℕ → List Cell → Cell × ℕ → Bool
row_right kind cells p = eqb p.1 (mask_of (touch_at kind) cells p.0)
