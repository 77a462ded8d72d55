-- The parts of a state's words, written one behind the other.
use Rattle.std.specs.Prelude.{ℕ, ◌≡◌, List, ◌++◌, length, take, drop}
use Rattle.layout.specs.State.{entities_len, cells_len, net_len}

-- The words of a header, of the map and of both net lists, one after the other.
unfoldable pub front_words : List ℕ → List ℕ → List ℕ → List ℕ → List ℕ → List ℕ
front_words head ents cells occ emp =
    (((head ++ take entities_len ents) ++ take cells_len cells) ++ take net_len occ) ++ take net_len emp

-- The words u are the words p, which are as many as at, and behind them those of w.
pub record Begun (w u p : List ℕ) (at : ℕ) : Type 0 where
  pub is : u ≡ p ++ drop at w
  pub long : length p ≡ at
