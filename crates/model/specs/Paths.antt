-- Paths of touching cells.
use Rattle.std.specs.Prelude.{◌≡◌, Bool, T}
use mathlib.Core.List.{List, Memᴰ as Mem}
use Rattle.model.specs.Cells.{Cell}

-- A path to b is b itself, or a cell that touches the first cell of a path to b; each of its cells is in D.
pub data PathTo (touch : Cell → Cell → Bool) (D : Cell → Type 0) (b : Cell) : Cell → Type 0 where
  stop : {a : Cell} → D a → a ≡ b → PathTo touch D b a
  step : {a c : Cell} → D a → T (touch a c) → PathTo touch D b c → PathTo touch D b a

-- A path from a to b.
abbrev pub Path : (Cell → Cell → Bool) → (Cell → Type 0) → Cell → Cell → Type 0
Path touch D a b = PathTo touch D b a

-- A path of touching cells of a list joins a to b.
abbrev pub Joined : (Cell → Cell → Bool) → List Cell → Cell → Cell → Type 0
Joined touch cells a b = Path touch (λ c. Mem c cells) a b
