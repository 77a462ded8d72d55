-- The records of a script as bytes.
use Rattle.std.specs.Prelude.{ℕ, ◌<◌, List, ◌++◌}
use Rattle.little_endian.specs.Bytes.{bytes}
use Rattle.script.specs.declared.kinds.Step.{Step}
use Rattle.script.specs.declared.kinds.Step.TheVariants.{Remove, Move, Run}
use Rattle.script.specs.Lines.{text}
use Rattle.script.specs.Records.{widened}

-- A record: an entity to remove, or an entity, a grid and three coordinates of 32 bits in two's complement, or a run.
pub data Record : Type 0 where
  remove : ℕ → Record
  move : ℕ → ℕ → ℕ → ℕ → ℕ → Record
  run : Record

-- The bytes of a record.
unfoldable pub written : Record → List ℕ
written (remove e) = text "YR" ++ bytes 8 e
written (move e g x y z) = text "YM" ++ bytes 8 e ++ bytes 8 g ++ bytes 4 x ++ bytes 4 y ++ bytes 4 z
written run = text "YU"

-- What a record says.
abbrev pub said : Record → Step
said (remove e) = Remove e
said (move e g x y z) = Move (record { entity = e; grid = g; x = widened x; y = widened y; z = widened z })
said run = Run

-- Each number of a record fits its bytes.
abbrev pub Fits : Record → Type 0
Fits (remove e) = e < 18446744073709551616
Fits (move e g x y z) = (e < 18446744073709551616) × (g < 18446744073709551616) × (x < 4294967296) × (y < 4294967296) × (z < 4294967296)
Fits run = Unit {0}
