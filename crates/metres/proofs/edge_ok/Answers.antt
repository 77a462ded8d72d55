-- `metres::edge_ok` meets its contract: which of two floats is named first is no matter.
use mathlib.Core.Path.{◌≡◌, refl, ◌∙◌}
use mathlib.Core.Bool.{Bool, true, false, ◌||◌}
use lib.IntN.{pos}
use lib.Ieee.{Float, binary64, eq, of_bits, of_int, round}
use Prim.Native.Nat.{ℕ}
use Rattle.std.specs.Float.Cmp.{floats_per}
use Rattle.metres.specs.Place.{edge_ok}
use Rattle.metres.proofs.edge_ok.Goals as goal

last : (b : Bool) → b || false ≡ b
last true = refl
last false = refl

turned : (e : Float) (n : ℕ) → eq (of_int binary64 (pos n)) e ≡ eq e (of_int binary64 (pos n))
turned e n = floats_per.symm (of_int binary64 (pos n)) e

pub returns : goal.returns
unfolding edge_ok of_bits of_int round
returns c =
    let e = c.args.e in
    let t = turned e in
    c.contains.ensures.value ∙ (λ i. t 1 i || (t 2 i || (t 4 i || (t 8 i || (t 16 i || (t 32 i || (last (eq (of_int binary64 (pos 64)) e) ∙ t 64) i))))))
