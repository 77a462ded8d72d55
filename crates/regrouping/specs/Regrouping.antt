-- What a regrouping takes, and what it leaves in memory.
use Rattle.std.specs.Prelude.{ℕ, ◌+◌, ◌*◌, ◌≤◌, ◌<◌, ◌≡◌, List, length, take, replicate}
use Rattle.model.specs.Lists.{each, keys}
use Rattle.model.specs.Cells.{Cell, touch_at}
use Rattle.model.specs.Crowd.{how_many}
use Rattle.model.specs.Groups.{Groups, regroup, records}
use Rattle.model.specs.Update.{most_cells}
use Rattle.layout.specs.Widths.{id_width, group_width}
use Rattle.partition.specs.Held.{HeldIds, HeldCells, HeldGroups}
use Rattle.regrouping.specs.declared.Made.{Made}

-- The words begin with how many of the entities stand in each of the cells.
abbrev pub Counted : List ℕ → List (ℕ × Cell) → List Cell → Type 0
Counted counts entities cells = take (length cells) counts ≡ each (how_many entities) cells

-- The groups s in the words ids can be regrouped, and the records built in the words groups, which are zero, after the cells o are newly
-- occupied and the cells e newly emptied, at the kind of touching; the words counts count the entities in each cell that has an id then.
pub record Regroups (kind : ℕ) (ids : List ℕ) (n next : ℕ) (counts groups occ : List ℕ) (p : ℕ) (emp : List ℕ) (m : ℕ) (s : Groups) (o e : List Cell) (entities : List (ℕ × Cell)) : Type 0 where
  pub held : HeldIds ids n next s
  pub opened : HeldCells occ p o
  pub emptied : HeldCells emp m e
  pub ids-room : id_width * n + id_width * p ≤ length ids
  pub groups-blank : groups ≡ replicate (length groups) 0
  pub groups-room : group_width * most_cells ≤ length groups
  pub few : length (regroup (touch_at kind) o e s).ids ≤ most_cells
  pub next-room : next + p < 18446744073709551616
  pub next_fits : (regroup (touch_at kind) o e s).next < 18446744073709551616
  pub counted : Counted counts entities (keys (regroup (touch_at kind) o e s).ids)
  pub few-entities : length entities < 9223372036854775808

-- The words hold the groups g and their records, in which the entities are counted.
pub record Regrouped (ids groups : List ℕ) (r : Made) (g : Groups) (entities : List (ℕ × Cell)) : Type 0 where
  pub ids-held : HeldIds ids r.ids r.next g
  pub groups-held : HeldGroups groups r.groups (records entities g.ids)
