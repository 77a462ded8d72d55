-- The words that are told of a report, as they are made.
use Rattle.std.specs.Prelude.{ℕ, ◌≡◌, refl, Bool, true, false, cond, [], ◌∷◌, ◌++◌, T, Float}
use Rattle.std.proofs.Common.{sym, ap, subst, ◌∙◌}
use Rattle.std.specs.Float.{nan, binary64}
use Rattle.std.specs.Float.Ieee.{ne, to_bits}
use lib.Ieee.Compare.{differs_from_itself}
use Rattle.table.specs.Moves.{over}
use Rattle.metres.specs.declared.Placing.{Placing}
use Rattle.moves.specs.Words.{move_words, moved}
use Rattle.telling.specs.Reports.{bits_of}

nan_bits : to_bits binary64 nan ≡ 0x7ff8_0000_0000_0000
unfolding to_bits
nan_bits = refl

-- The bits of a float, a NaN's those of the quiet one.
pub bits-are : (x : Float) → to_bits binary64 x ≡ bits_of x
unfolding bits_of
bits-are x = go (ne x x) refl
  where
    go : (b : Bool) → ne x x ≡ b → to_bits binary64 x ≡ cond b 0x7ff8_0000_0000_0000 (to_bits binary64 x)
    go true h = ap (to_bits binary64) (differs_from_itself x (subst T (sym h) tt)) ∙ nan_bits
    go false h = refl

-- A move put between the mark of an event and the floats.
pub words-between : (e : Placing) (a b c d f : ℕ) → (moved (1 ∷ 0 ∷ 0 ∷ 0 ∷ 0 ∷ 0 ∷ a ∷ b ∷ c ∷ d ∷ f ∷ []) 1 e).1 ≡ 1 ∷ (move_words e ++ (a ∷ b ∷ c ∷ d ∷ f ∷ []))
unfolding moved over
words-between e a b c d f = refl
