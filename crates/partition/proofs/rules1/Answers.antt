-- After i cells the groups are those of rule 1 for the first i.
use Rattle.partition.specs.Laws.Join.{rules1-more, rules1-all}
use Rattle.partition.specs.Laws.Held.{cells-ranged}
use Rattle.model.specs.Groups.{rule1}
use Rattle.model.specs.Cells.{Cell, cell_in_range, touch_at}
use Rattle.model.specs.Lists.{run}
use lib.ListN.{take}
use lib.Dec.{T}
use mathlib.Core.Path.{sym, subst}
use native.Mathlib.Omega.{arith}
use Rattle.partition.proofs.rules1.Goals as goal

pub rule1-held-requires : goal.rule1-held-requires
rule1-held-requires c =
    let s = c in
    let a = s.args in
    let v = c.loop-i.invariant in (
      run (rule1 (touch_at a.kind)) s.requires.0 (take c.loop-i.i s.requires.1),
      v.5 s.requires.0 s.requires.1 s.requires.2 s.requires.3,
      subst (λ (d : Cell). T (cell_in_range d)) (sym c.cell_at.ensures) (cells-ranged a.occupied.now a.m s.requires.1 s.requires.3 c.loop-i.i (omega arith)),
      omega arith,
      omega arith,
    )

pub loop-i-preserved : goal.loop-i-preserved
loop-i-preserved c =
    let s = c in
    let a = s.args in
    let v = c.loop-i.invariant in
    let p = c.rule1-held.ensures in (
      v.0,
      v.1,
      v.2,
      omega arith,
      omega arith,
      λ g l h k. rules1-more a.kind a.occupied.now a.m l k g c.loop-i.i c.loop-i.ids c.loop-i.held.count c.loop-i.held.next (v.5 g l h k) (omega arith) _ _ _ _ c.cell_at.ensures p.2,
    )

pub returns : goal.returns
returns c =
    let s = c in
    let a = s.args in
    let v = c.loop-i.invariant in
    (omega arith, omega arith, λ g l h k. rules1-all a.kind a.occupied.now a.m l k g c.loop-i.i c.loop-i.ids c.loop-i.held.count c.loop-i.held.next (v.5 g l h k) (omega arith))
