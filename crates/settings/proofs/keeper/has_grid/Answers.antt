-- The invariant: the records from the place on have one of the grid just where all have.
use Rattle.settings.proofs.Gathering.{front, no-records, has-none, has_first, has-others}
use Rattle.settings.proofs.Parts.{part, part-drop, part_length}
use Rattle.settings.proofs.Laws.Records.{size-some}
use Rattle.settings.specs.Whole.{Whole}
use Rattle.settings.specs.Records.{size_of}
use lib.ListN.{length}
use native.Mathlib.Omega.{arith}
use mathlib.Core.Path.{sym, ap, ◌∙◌, subst}
use Prim.Native.Nat.{ℕ, ◌+◌, ◌<◌}
use Rattle.settings.proofs.keeper.has_grid.Goals as goal

pub returns-then-size-eq0 : goal.returns-then-size-eq0
returns-then-size-eq0 c = λ rs w.
    let b = c.args.bytes.now in
    let n = part_length b c.loop-at.at (length b) c.loop-at.invariant.0 (omega arith) in
    let m = c.loop-at.invariant.1 rs w in
    let f = front m.1 (omega (arith, n, c.loop-at-test.true)) in
    absurd (omega (arith, f.long, c.size_of-size.ensures, c.if-size-eq0.true))

pub returns-then-rest-size : goal.returns-then-rest-size
returns-then-rest-size c = λ rs w.
    let b = c.args.bytes.now in
    let n = part_length b c.loop-at.at (length b) c.loop-at.invariant.0 (omega arith) in
    let m = c.loop-at.invariant.1 rs w in
    let f = front m.1 (omega (arith, n, c.loop-at-test.true)) in
    absurd (omega (arith, n, f.within, c.size_of-size.ensures, c.if-rest-size.true))

pub grid_of-requires : goal.grid_of-requires
grid_of-requires c =
    let b = c.args.bytes.now in
    let n = part_length b c.loop-at.at (length b) c.loop-at.invariant.0 (omega arith) in
    let e = c.size_of-size.ensures in
    let i = c.if-size-eq0.false in
    let p : 0 < size_of (part b c.loop-at.at (length b)) = omega (arith, i, e) in
    let q = size-some (part b c.loop-at.at (length b)) p in
    omega (arith, n, q.0, e, c.if-rest-size.false)

pub returns-then-grid_of-grid : goal.returns-then-grid_of-grid
returns-then-grid_of-grid c = λ rs w.
    let b = c.args.bytes.now in
    let n = part_length b c.loop-at.at (length b) c.loop-at.invariant.0 (omega arith) in
    let m = c.loop-at.invariant.1 rs w in
    let f = front m.1 (omega (arith, n, c.loop-at-test.true)) in
    sym (sym m.2 ∙ has_first c.args.grid f (sym c.grid_of.ensures ∙ c.if-grid_of-grid.true))

pub loop-at-preserved : goal.loop-at-preserved
loop-at-preserved c =
    let b = c.args.bytes.now in
    let g = c.args.grid in
    let at = c.loop-at.at in
    let n = part_length b at (length b) c.loop-at.invariant.0 (omega arith) in (
      omega (arith, n, c.if-rest-size.false),
      λ rs w.
          let m = c.loop-at.invariant.1 rs w in
          let f = front m.1 (omega (arith, n, c.loop-at-test.true)) in
          let e = part-drop b at (length b) (size_of (part b at (length b))) ∙ ap (λ (k : ℕ). part b (at + k) (length b)) (sym c.size_of-size.ensures) in
          (f.others, subst (Whole f.others) e f.behind, sym (has-others g f (λ q. c.if-grid_of-grid.false (c.grid_of.ensures ∙ q))) ∙ m.2),
    )

pub returns : goal.returns
returns c = λ rs w.
    let b = c.args.bytes.now in
    let m = c.loop-at.invariant.1 rs w in
    let n = part_length b c.loop-at.at (length b) c.loop-at.invariant.0 (omega arith) in
    sym (sym m.2 ∙ has-none c.args.grid (no-records m.1 (omega arith)))
