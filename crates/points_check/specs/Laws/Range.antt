-- What point 7 is computed by.
use Rattle.std.specs.Prelude.{ℕ, min, ◌≡◌, Bool, ◌&&◌, List}
use Rattle.model.specs.Lists.{all, values}
use Rattle.model.specs.Cells.{cell_in_range}
use Rattle.model.specs.Update.{most_cells}
use Rattle.layout.specs.Rows.{entities_in, net_in}
use Rattle.points_check.specs.Points.{coordinates_right}

-- The three tests decide.
pub coordinates-by-tests : (ents : List ℕ) (n : ℕ) (occ : List ℕ) (k : ℕ) (emp : List ℕ) (l : ℕ) (a b c : Bool)
    → a ≡ all cell_in_range (values (entities_in n ents)) → b ≡ all cell_in_range (net_in (min k most_cells) occ) → c ≡ all cell_in_range (net_in (min l most_cells) emp)
    → (a && (b && c)) ≡ coordinates_right ents n occ k emp l
unfolding coordinates_right
coordinates-by-tests ents n occ k emp l a b c p q r = λ i. p i && (q i && r i)
