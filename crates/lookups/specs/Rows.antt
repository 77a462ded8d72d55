-- The row of a group.
use Rattle.std.specs.Prelude.{ℕ, ◌+◌, List, get_or}
use Rattle.model.specs.Groups.{Group}
use Rattle.layout.specs.Widths.{group_grid, group_cells, group_entities, group_low, group_high}
use Rattle.layout.specs.Rows.{corner_in}

-- The group whose words stand from at on.
abbrev pub group_at : List ℕ → ℕ → Group
group_at s at =
    record {
      grid = get_or s (at + group_grid) 0;
      count = get_or s (at + group_cells) 0;
      entities = get_or s (at + group_entities) 0;
      low = corner_in s (at + group_low);
      high = corner_in s (at + group_high);
    }
