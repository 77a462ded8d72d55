-- The loop is `Wave`, at whatever table stands in the words.
use Prim.Native.Nat.{ℕ, ◌+◌, ◌<◌}
use native.Mathlib.Omega.{arith}
use mathlib.Core.Path.{refl, sym, subst}
use mathlib.Core.List.{List}
use lib.ListN.{length, get_or, set}
use borrow.Author.Rules.{rules}
use Rattle.model.specs.Cells.{Cell}
use Rattle.neighbourhood.specs.Fronts.{Front}
use Rattle.neighbourhood.specs.Standing.{Cells, Floodable}
use Rattle.neighbourhood.proofs.Laws.Reads.{cells-table}
use Rattle.neighbourhood.proofs.Wave.{Wave, wave-start, wave-few, wave-fits, wave-row, wave-small, wave-space, wave-there, wave-exact, wave-step, wave-end}
use Rattle.neighbourhood.proofs.flood_rows.Goals as goal

abbrev asked : {words : List ℕ} {n seed label step : ℕ} {marks queue : List ℕ} → Floodable words n seed label step marks queue → (kind : ℕ) (t : List (Cell × ℕ)) → Cells kind words n t → Floodable words n seed label step marks queue
asked q kind t k =
    record {
      kind = kind;
      table = t;
      cells = k;
      seeded = q.seeded;
      unmarked = q.unmarked;
      labelled = q.labelled;
      small = q.small;
      marks_fit = q.marks_fit;
      queue_fits = q.queue_fits;
    }

pub loop-h-init : goal.loop-h-init
loop-h-init c = λ kind t k. wave-start _ _ _ _ _ _ _ (asked c.requires kind t k)

pub offset_bounds-marks-i : goal.offset_bounds-marks-i
offset_bounds-marks-i c =
    let l = c.loop-h in
    let q = c.requires in
    let w = l.invariant q.kind q.table q.cells in
    let h : get_or l.queue l.h 0 < length c.args.marks.now = omega (arith, wave-row _ _ _ _ _ _ _ q l.h _ w c.loop-h-test.true _ refl, q.marks_fit) in
    search rules

pub bounds-marks-i : goal.bounds-marks-i
bounds-marks-i c =
    let l = c.loop-h in
    let q = c.requires in
    let w = l.invariant q.kind q.table q.cells in
    let h : get_or l.queue l.h 0 < length l.marks = omega (arith, wave-row _ _ _ _ _ _ _ q l.h _ w c.loop-h-test.true _ refl, wave-fits _ _ _ _ _ _ _ q l.h _ w) in
    search rules

pub overflow_add-next : goal.overflow_add-next
overflow_add-next c =
    let l = c.loop-h in
    let q = c.requires in
    let h = wave-small _ _ _ _ _ _ _ q l.h _ (l.invariant q.kind q.table q.cells) c.loop-h-test.true _ refl in
    search rules

pub follow-e-requires : goal.follow-e-requires
follow-e-requires c =
    let l = c.loop-h in
    let q = c.requires in
    let w = l.invariant q.kind q.table q.cells in
    let h = c.loop-h-test.true in
    record {
      kind = q.kind;
      table = cells-table _ _ q.table q.cells;
      row = wave-row _ _ _ _ _ _ _ q l.h _ w h _ refl;
      fits = wave-fits _ _ _ _ _ _ _ q l.h _ w;
      exact = wave-exact _ _ _ _ _ _ _ q l.h _ w h _ refl;
      there = wave-there _ _ _ _ _ _ _ q l.h _ w h _ refl;
      space = wave-space _ _ _ _ _ _ _ q l.h _ w h _ refl;
    }

pub loop-h-smaller : goal.loop-h-smaller
loop-h-smaller c = let q = c.requires in let b = wave-few _ _ _ _ _ _ _ q c.loop-h.h _ (c.loop-h.invariant q.kind q.table q.cells) in search rules

pub loop-h-preserved : goal.loop-h-preserved
loop-h-preserved c =
    let a = c.args in
    let l = c.loop-h in
    λ kind t k.
    subst (λ (f : Front). Wave kind a.cells.now a.n a.seed a.label a.step (set a.marks.now a.seed a.label) (set a.queue.now 0 a.seed) (l.h + 1) f)
    (sym c.follow-e.ensures)
    (wave-step _ _ _ _ _ _ _ (asked c.requires kind t k) l.h _ (l.invariant kind t k) c.loop-h-test.true _ refl)

pub returns : goal.returns
returns c = λ kind t k. wave-end _ _ _ _ _ _ _ (asked c.requires kind t k) c.loop-h.h _ (c.loop-h.invariant kind t k) c.loop-h-test.false
