-- The invariant: what the table knows and what is to be noted of the rest are the marks of all.
-- The record at the place lies within the bytes.
use Rattle.settings.proofs.Noting.{noting-start, noted-within, noting-more, noting-end}
use native.Mathlib.Omega.{arith}
use mathlib.Core.Path.{refl, ◌∙◌}
use Rattle.settings.proofs.keeper.note_all.Goals as goal

pub loop-at-init : goal.loop-at-init
loop-at-init c =
    (omega arith, refl, λ rs w. noting-start c.args.bytes.now c.args.t.now rs c.requires.0 w)

pub overflow_add-end : goal.overflow_add-end
overflow_add-end c =
    let f = noted-within (c.loop-at.invariant.2 c.requires.1.0 c.requires.1.1) c.loop-at-test.true c.size_of.result c.size_of.ensures in
    omega (arith, f.1)

pub grid_of-requires : goal.grid_of-requires
grid_of-requires c = (noted-within (c.loop-at.invariant.2 c.requires.1.0 c.requires.1.1) c.loop-at-test.true c.size_of.result c.size_of.ensures).2

pub overflow_sub-bytes : goal.overflow_sub-bytes
overflow_sub-bytes c =
    let f = noted-within (c.loop-at.invariant.2 c.requires.1.0 c.requires.1.1) c.loop-at-test.true c.size_of.result c.size_of.ensures in
    omega (arith, f.1)

pub loop-at-smaller : goal.loop-at-smaller
loop-at-smaller c =
    let f = noted-within (c.loop-at.invariant.2 c.requires.1.0 c.requires.1.1) c.loop-at-test.true c.size_of.result c.size_of.ensures in
    omega (arith, f.0, f.1)

pub loop-at-preserved : goal.loop-at-preserved
loop-at-preserved c =
    let f = noted-within (c.loop-at.invariant.2 c.requires.1.0 c.requires.1.1) c.loop-at-test.true c.size_of.result c.size_of.ensures in (
      f.1,
      c.note.auto.t ∙ c.loop-at.invariant.1,
      λ rs w. noting-more (c.loop-at.invariant.2 rs w) c.loop-at-test.true c.size_of.result c.grid_of.result c.size_of.ensures c.grid_of.ensures c.note.ensures,
    )

pub returns : goal.returns
returns c = λ rs w.
    noting-end (c.loop-at.invariant.2 rs w) c.loop-at.invariant.0 c.loop-at-test.false
