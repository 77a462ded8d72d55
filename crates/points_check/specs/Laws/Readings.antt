-- The tables of a state, read row by row from their words.
use Rattle.std.specs.Prelude.{ℕ, ◌+◌, ◌*◌, ◌≤◌, ◌≡◌, List, [], get_or}
use Rattle.std.proofs.Common.{arith, ap, ◌∙◌}
use Rattle.model.specs.Lists.{keys, values}
use Rattle.model.specs.Cells.{Cell}
use Rattle.model.proofs.Laws.Members.{each-each}
use Rattle.table.specs.Rows.{Kind, number, cell, cell_at, rows_of, entry_of, table_of, table1, table4}
use Rattle.table.specs.Laws.Words.{table-length, keys_length, entry_at, rest_at, cell-at}
use Rattle.layout.specs.Widths.{entity_width, entity_cell, cell_width, net_width, id_width, cell_id}
use Rattle.layout.specs.Rows.{entity_of, id_of, entities_in, cells_in, net_in, ids_in}
use Rattle.points_check.specs.Lines.{Lines, cells_at}
use Rattle.points_check.specs.Laws.Lines.{lines_of, lines-as, lines-each, lines-one, at-lines}

-- The rows of a table.
pub row-lines : {K : Type 0} (kind : Kind K) (w n : ℕ) (s : List ℕ) → Lines (table_of kind w n s) n (λ i. entry_of kind (get_or (rows_of w n s) i []))
row-lines kind w n s = record { len = table-length kind w n s; is = λ i h. entry_at kind w n s i h }

-- The cells that are the keys of a table.
pub key-lines : (w n : ℕ) (s : List ℕ) → 4 ≤ w → Lines (keys (table4 w n s)) n (λ i. cell_at s (w * i))
key-lines w n s h = lines_of (keys (table4 w n s)) (cell_at s 0) (keys_length cell w n s) (λ i k. cell-at w n s h i (cell_at s 0) k)

-- The cells that the entities stand in.
pub entity-lines : (n : ℕ) (s : List ℕ) → Lines (values (entities_in n s)) n (λ i. cell_at s (entity_width * i + entity_cell))
unfolding entities_in
entity-lines n s =
    lines-as (lines-each (λ (p : ℕ × Cell). p.1) (lines-each entity_of (row-lines number entity_width n s)))
    (λ i h.
    let one : (a b : ℕ) → a ≡ b → get_or s a 0 ≡ get_or s b 0 = λ a b e. ap (λ m. get_or s m 0) e in
    let g = rest_at entity_width n s i entity_cell 0 h (omega arith) in
    let z = rest_at entity_width n s i entity_cell 1 h (omega arith) ∙ one (entity_width * i + 2) (entity_width * i + entity_cell + 1) (omega arith) in
    let y = rest_at entity_width n s i entity_cell 2 h (omega arith) ∙ one (entity_width * i + 3) (entity_width * i + entity_cell + 2) (omega arith) in
    let x = rest_at entity_width n s i entity_cell 3 h (omega arith) ∙ one (entity_width * i + 4) (entity_width * i + entity_cell + 3) (omega arith) in
    λ t. record { grid = g t; z = z t; y = y t; x = x t })

-- The cells of a net list.
pub net-lines : (n : ℕ) (s : List ℕ) → Lines (net_in n s) n (λ i. cell_at s (net_width * i))
unfolding net_in
net-lines n s = key-lines net_width n s (omega arith)

-- The ids of the cells.
pub id-lines : (n : ℕ) (s : List ℕ) → Lines (values (ids_in n s)) n (λ i. get_or s (id_width * i + cell_id) 0)
unfolding ids_in
id-lines n s =
    lines-as (lines-each (λ (p : Cell × ℕ). p.1) (lines-each id_of (row-lines cell id_width n s)))
    (λ i h. rest_at id_width n s i cell_id 0 h (omega arith))

-- The keys of the occupied cells are those of their rows.
pub cells-keys : (n : ℕ) (s : List ℕ) → keys (cells_in n s) ≡ keys (table4 cell_width n s)
unfolding cells_in
cells-keys n s = each-each (λ (p : Cell × ℕ). p.0) id_of (table4 cell_width n s)

-- The keys of the cells with ids are those of their rows.
pub ids-keys : (n : ℕ) (s : List ℕ) → keys (ids_in n s) ≡ keys (table4 id_width n s)
unfolding ids_in
ids-keys n s = each-each (λ (p : Cell × ℕ). p.0) id_of (table4 id_width n s)

-- The keys of the entities are those of their rows.
pub entities-keys : (n : ℕ) (s : List ℕ) → keys (entities_in n s) ≡ keys (table1 entity_width n s)
unfolding entities_in
entities-keys n s = each-each (λ (p : ℕ × Cell). p.0) entity_of (table1 entity_width n s)

-- The cells that the entities stand in are those at one place of their rows.
pub entity-cells : (n : ℕ) (s : List ℕ) → cells_at s entity_width entity_cell n ≡ values (entities_in n s)
entity-cells n s = lines-one (at-lines s entity_width entity_cell n) (entity-lines n s)

-- The cells of a net list are those at the start of its rows.
pub net-cells : (n : ℕ) (s : List ℕ) → cells_at s net_width 0 n ≡ net_in n s
net-cells n s =
    lines-one (at-lines s net_width 0 n)
    (lines-as (net-lines n s) (λ i h. ap (cell_at s) (let e : net_width * i ≡ net_width * i + 0 = omega arith in e)))
