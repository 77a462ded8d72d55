-- Lists of zeros.
use Rattle.std.specs.Prelude.{ℕ, ◌-◌, ◌≡◌, T, length, take, drop, replicate}
use Rattle.std.proofs.Common.{sym, ap, ◌∙◌, take-append-drop, length-drop}
use mathlib.Core.List.{List, ◌++◌}
use Rattle.table.specs.Rows.{are_zero}
use Rattle.table.specs.Laws.Images.{zeros-are}

-- A list is its first words and the zeros behind them.
pub padded : (n : ℕ) (l : List ℕ) → T (are_zero (drop n l)) → take n l ++ replicate (length l - n) 0 ≡ l
padded n l t =
    ap (λ (z : List ℕ). take n l ++ z) (sym (zeros-are (drop n l) t ∙ ap (λ (m : ℕ). replicate m 0) (length-drop n l)))
    ∙ take-append-drop n l
