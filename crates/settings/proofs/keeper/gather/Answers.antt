-- The invariant: what is gathered and what is to be kept of the rest are what is to be kept of all.
-- The record at the place lies within the bytes.
use Rattle.settings.proofs.Gathering.{place, placed, others, later, left-skip, left-move, left_end}
use Rattle.settings.specs.Table.{mark_of}
use native.Mathlib.Omega.{arith}
use mathlib.Core.Path.{◌∙◌}
use Rattle.settings.proofs.keeper.gather.Goals as goal

pub grid_of-grid-requires : goal.grid_of-grid-requires
grid_of-grid-requires c = (placed (c.loop-at.invariant.4 c.requires.1.0 c.requires.1.1 c.requires.1.2) c.loop-at-test.true c.loop-at.invariant.2 c.size_of-size.result c.size_of-size.ensures).2

pub overflow_add-at : goal.overflow_add-at
overflow_add-at c =
    let f = placed (c.loop-at.invariant.4 c.requires.1.0 c.requires.1.1 c.requires.1.2) c.loop-at-test.true c.loop-at.invariant.2 c.size_of-size.result c.size_of-size.ensures in
    omega (arith, f.1)

pub slice_bounds-is_later-start : goal.slice_bounds-is_later-start
slice_bounds-is_later-start c =
    let f = placed (c.loop-at.invariant.4 c.requires.1.0 c.requires.1.1 c.requires.1.2) c.loop-at-test.true c.loop-at.invariant.2 c.size_of-size.result c.size_of-size.ensures in
    omega (arith, f.1)

pub slice_bounds-is_later-count : goal.slice_bounds-is_later-count
slice_bounds-is_later-count c =
    let f = placed (c.loop-at.invariant.4 c.requires.1.0 c.requires.1.1 c.requires.1.2) c.loop-at-test.true c.loop-at.invariant.2 c.size_of-size.result c.size_of-size.ensures in
    omega (arith, f.1)

pub move_down-requires : goal.move_down-requires
move_down-requires c =
    let f = placed (c.loop-at.invariant.4 c.requires.1.0 c.requires.1.1 c.requires.1.2) c.loop-at-test.true c.loop-at.invariant.2 c.size_of-size.result c.size_of-size.ensures in
    (c.loop-at.invariant.0, omega (arith, f.1, c.loop-at.invariant.2))

pub overflow_add-to : goal.overflow_add-to
overflow_add-to c =
    let f = placed (c.loop-at.invariant.4 c.requires.1.0 c.requires.1.1 c.requires.1.2) c.loop-at-test.true c.loop-at.invariant.2 c.size_of-size.result c.size_of-size.ensures in
    omega (arith, f.1, c.loop-at.invariant.0, c.ranges.n)

pub loop-at-smaller-then-not-later : goal.loop-at-smaller-then-not-later
loop-at-smaller-then-not-later c =
    let f = placed (c.loop-at.invariant.4 c.requires.1.0 c.requires.1.1 c.requires.1.2) c.loop-at-test.true c.loop-at.invariant.2 c.size_of-size.result c.size_of-size.ensures in
    omega (arith, f.0, f.1)

pub loop-at-preserved-then-not-later : goal.loop-at-preserved-then-not-later
loop-at-preserved-then-not-later c =
    let f = placed (c.loop-at.invariant.4 c.requires.1.0 c.requires.1.1 c.requires.1.2) c.loop-at-test.true c.loop-at.invariant.2 c.size_of-size.result c.size_of-size.ensures in
    let e = c.move_down.auto.s in (
      omega (arith, c.loop-at.invariant.0),
      f.1,
      omega (arith, e, c.loop-at.invariant.2),
      e ∙ c.loop-at.invariant.3,
      λ rs w u.
          let x = c.loop-at.invariant.4 rs w u in
          let y = c.loop-at-test.true in
          let m = c.loop-at.invariant.2 in
          let k = c.size_of-size.ensures in
          let q = c.grid_of-grid.ensures in
          let o = (place x y m).others in
          left-move x y m k q (c.is_later-later.ensures (λ grid. mark_of grid 0 rs) o u (others x y m c.size_of-size.result k) (later x y m c.size_of-size.result c.grid_of-grid.result k q)) c.if-not-later.true c.loop-at.invariant.0 c.move_down.ensures,
    )

pub loop-at-smaller : goal.loop-at-smaller
loop-at-smaller c =
    let f = placed (c.loop-at.invariant.4 c.requires.1.0 c.requires.1.1 c.requires.1.2) c.loop-at-test.true c.loop-at.invariant.2 c.size_of-size.result c.size_of-size.ensures in
    omega (arith, f.0, f.1)

pub loop-at-preserved : goal.loop-at-preserved
loop-at-preserved c =
    let f = placed (c.loop-at.invariant.4 c.requires.1.0 c.requires.1.1 c.requires.1.2) c.loop-at-test.true c.loop-at.invariant.2 c.size_of-size.result c.size_of-size.ensures in (
      omega (arith, c.loop-at.invariant.0),
      f.1,
      c.loop-at.invariant.2,
      c.loop-at.invariant.3,
      λ rs w u.
          let x = c.loop-at.invariant.4 rs w u in
          let y = c.loop-at-test.true in
          let m = c.loop-at.invariant.2 in
          let e = c.size_of-size.ensures in
          let d = c.grid_of-grid.ensures in
          let o = (place x y m).others in
          left-skip x y m e d (c.is_later-later.ensures (λ v. mark_of v 0 rs) o u (others x y m c.size_of-size.result e) (later x y m c.size_of-size.result c.grid_of-grid.result e d)) c.if-not-later.false,
    )

pub returns : goal.returns
returns c = λ rs w u.
    left_end (c.loop-at.invariant.4 rs w u) c.loop-at.invariant.0 c.loop-at.invariant.1 c.loop-at-test.false c.loop-at.invariant.2
