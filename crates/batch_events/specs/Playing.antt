-- How a batch is played in memory, event by event.
use Rattle.std.specs.Prelude.{ℕ, suc, ◌*◌, ◌≤◌, ◌≡◌, cond, List, ltb, length}
use Rattle.model.specs.Lists.{run}
use Rattle.model.specs.Cells.{Cell, below, touch_at}
use Rattle.model.specs.Occupancy.{Occupancy, Event, play}
use Rattle.model.specs.Update.{most_entities, most_cells, broken_by}
use Rattle.model.specs.Facts.{Asc, Net, Within}
use Rattle.layout.specs.Widths.{entity_width, cell_width, net_width, crowd_width}
use Rattle.refusal.specs.Forms.{Refused, plain}
use Rattle.map.specs.declared.Counts.{Counts}
use Rattle.map.specs.declared.Tables.{Tables}
use Rattle.map.specs.Held.{Held}

-- 6 for too many entities, 7 for too many occupied cells, 0 for neither.
unfoldable pub judged : Counts → ℕ
judged n = cond (ltb most_entities n.entities) 6 (cond (ltb most_cells n.cells) 7 0)

-- Each table has room for its most rows and one more.
pub record Roomy (ents cells crowd occ emp : List ℕ) : Type 0 where
  pub ents-room : entity_width * suc most_entities ≤ length ents
  pub cells-room : cell_width * suc most_cells ≤ length cells
  pub crowd-room : crowd_width * suc most_cells ≤ length crowd
  pub occ-room : net_width * suc most_cells ≤ length occ
  pub emp-room : net_width * suc most_cells ≤ length emp

-- The words hold an occupancy that is within number, whose net lists are the difference to the cells that were occupied, and have room for an event.
pub record Ready (kind : ℕ) (ents cells crowd occ emp : List ℕ) (n : Counts) (was : List Cell) (o : Occupancy) : Type 0 where
  pub held : Held kind ents cells crowd occ emp n o
  pub within : Within (touch_at kind) o
  pub was-asc : Asc below was
  pub was-few : length was ≤ most_cells
  pub net : Net was o
  pub room : Roomy ents cells crowd occ emp

-- On the way through the events es from o: what is left of them decides for all.
pub record Going (kind : ℕ) (ents cells crowd occ emp : List ℕ) (n : Counts) (was : List Cell) (o : Occupancy) (es left : List Event) : Type 0 where
  pub at : Occupancy
  pub ready : Ready kind ents cells crowd occ emp n was at
  pub broken : broken_by (touch_at kind) o es ≡ broken_by (touch_at kind) at left
  pub ends : run (play (touch_at kind)) o es ≡ run (play (touch_at kind)) at left

-- What playing the events es from o comes to: the number of the first that breaks a limit, which tells no place, and where none does, the occupancy after them.
pub record Outcome (kind : ℕ) (ents cells crowd occ emp : List ℕ) (n : Counts) (r : Refused) (was : List Cell) (o : Occupancy) (es : List Event) : Type 0 where
  pub number : r ≡ plain (broken_by (touch_at kind) o es)
  pub ready : r.number ≡ 0 → Ready kind ents cells crowd occ emp n was (run (play (touch_at kind)) o es)

-- The tables are ready.
abbrev pub ReadyIn : Tables → List Cell → Occupancy → Type 0
ReadyIn t was o = Ready t.kind t.entities.now t.cells.now t.crowd.now t.occupied.now t.emptied.now t.counts was o

-- The tables are on the way.
abbrev pub GoingIn : Tables → List Cell → Occupancy → List Event → List Event → Type 0
GoingIn t was o es left = Going t.kind t.entities.now t.cells.now t.crowd.now t.occupied.now t.emptied.now t.counts was o es left

-- What playing the events comes to in the tables.
abbrev pub OutcomeIn : Tables → Refused → List Cell → Occupancy → List Event → Type 0
OutcomeIn t r was o es = Outcome t.kind t.entities.now t.cells.now t.crowd.now t.occupied.now t.emptied.now t.counts r was o es
