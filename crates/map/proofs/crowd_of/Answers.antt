-- After i rows the crowd is the tally of the first i entities.
use Rattle.map.proofs.Tallying.{count_none, count_room, count_fits, count-more, count-all}
use Rattle.layout.specs.Widths.{crowd_width}
use Rattle.map.specs.Held.{tally}
use Rattle.map.specs.Told.{TableIs}
use Rattle.table.specs.Rows.{cell}
use Rattle.layout.specs.Rows.{id_row, entities_in}
use Rattle.model.specs.Lists.{each}
use lib.ListN.{length}
use mathlib.Core.Path.{◌≡◌, refl, ◌∙◌, subst}
use Prim.Native.Nat.{ℕ}
use native.Mathlib.Omega.{arith}
use Rattle.map.proofs.crowd_of.Goals as goal

pub loop-i-init : goal.loop-i-init
loop-i-init c =
    let a = c.args in
    (refl, count_none a.ents.now a.crowd.now c.requires.1)

pub overflow_add-k : goal.overflow_add-k
overflow_add-k c =
    let a = c.args in let l = c.loop-i in
    let f = count_fits a.ents.now l.crowd l.m l.i l.invariant.1 c.cell_at-c.result c.cell_at-c.ensures c.how_many-k.result c.how_many-k.ensures in
    omega (arith, c.requires.0)

pub set_count-m-requires : goal.set_count-m-requires
set_count-m-requires c =
    let a = c.args in let l = c.loop-i in
    (l.invariant.1.table, count_room a.ents.now l.crowd l.m l.i l.invariant.1 c.cell_at-c.result c.cell_at-c.ensures a.n (omega arith) (omega (arith, c.requires.2, l.invariant.0)))

pub loop-i-preserved : goal.loop-i-preserved
loop-i-preserved c =
    let a = c.args in let l = c.loop-i in (
      c.set_count-m.auto.crowd ∙ l.invariant.0,
      count-more a.ents.now l.crowd l.m l.i l.invariant.1 c.cell_at-c.result c.cell_at-c.ensures c.how_many-k.result c.how_many-k.ensures
          c.set_count-m.result c.set_count-m.new.crowd c.set_count-m.ensures,
    )

pub returns : goal.returns
returns c =
    let a = c.args in let l = c.loop-i in
    let e : l.i ≡ a.n = omega arith in
    count-all a.ents.now l.crowd (length a.crowd.now) l.m a.n l.invariant.0
    (subst (λ (k : ℕ). TableIs cell crowd_width l.m l.crowd (each id_row (tally (entities_in k a.ents.now)))) e l.invariant.1)
