-- `records_right` meets its contract: each way out is one of point 5's.
-- The entities of each row are counted.
-- The records are built.
use native.Mathlib.Omega.{arith}
use mathlib.Core.Path.{◌≡◌, sym, ap, ◌∙◌}
use lib.Dec.{eqb}
use Rattle.std.specs.Cmp.Lexicographic.{pointwise}
use Rattle.model.specs.Cells.{Cell}
use Prim.Native.Nat.{ℕ, ◌*◌, ◌≤◌}
use mathlib.Core.List.{List}
use lib.ListN.{length}
use Rattle.model.specs.Lists.{values}
use Rattle.model.specs.Update.{most_cells}
use Rattle.layout.specs.Rows.{entities_in, ids_in}
use Rattle.layout.specs.State.{groups_len}
use Rattle.layout.specs.Widths.{id_width}
use Rattle.layout.proofs.Laws.Images.{entities-laws}
use Rattle.table.specs.Rows.{cell_at}
use Rattle.partition.specs.Held.{HeldCounts}
use Rattle.points_check.specs.Marks.{Counted}
use Rattle.points_check.specs.Laws.Lines.{pointwise_equal}
use Rattle.points_check.specs.Laws.Records.{held-ids, held-counts, asks-records, records-uncounted, records-by-words}
use Rattle.points_check.proofs.records_right.Goals as goal

counted : (counts ids : List ℕ) (k : ℕ) (entities : List (ℕ × Cell)) → Counted (values entities) (λ j. cell_at ids (id_width * j)) k counts → length counts ≡ most_cells → k ≤ most_cells → HeldCounts counts ids k entities
counted counts ids k entities q e h = held-counts counts ids k entities q (omega arith)

pub build_records-r-requires : goal.build_records-r-requires
unfolding groups_len
build_records-r-requires c =
    let a = c.args in
    let q = c.in-Some.ensures in
    asks-records c.in-Some.counts a.ids.now a.k groups_len (entities_in a.n a.ents.now) c.requires.1 (counted c.in-Some.counts a.ids.now a.k _ q.1 q.2 c.requires.2) (omega (arith, entities-laws.counted a.n a.ents.now, c.requires.0)) (omega (arith, c.requires.2))

pub returns-then-r-g : goal.returns-then-r-g
returns-then-r-g c =
    let a = c.args in
    let q = c.in-Some.ensures in
    let built = c.build_records-r.ensures (entities_in a.n a.ents.now) (ids_in a.k a.ids.now) (held-ids a.ids.now a.k c.requires.1) (counted c.in-Some.counts a.ids.now a.k _ q.1 q.2 c.requires.2) in
    records-uncounted a.ents.now a.n a.ids.now a.k c.requires.2 _ c.build_records-r.result built a.groups.now a.g c.if-r-g.true

pub returns : goal.returns
unfolding groups_len
returns c =
    let a = c.args in
    let q = c.in-Some.ensures in
    let built = c.build_records-r.ensures (entities_in a.n a.ents.now) (ids_in a.k a.ids.now) (held-ids a.ids.now a.k c.requires.1) (counted c.in-Some.counts a.ids.now a.k _ q.1 q.2 c.requires.2) in
    c.eq.ensures
    ∙ ap (λ (l : List ℕ). pointwise eqb l a.groups.now) c.as_slice.ensures
    ∙ pointwise_equal eqb c.build_records-r.new.groups a.groups.now
    ∙ records-by-words a.ents.now a.n a.ids.now a.k c.requires.2 _ c.build_records-r.result built a.groups.now a.g
    c.requires.3 (c.build_records-r.auto.groups ∙ sym c.requires.3) c.if-r-g.false
