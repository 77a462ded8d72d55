-- The cell takes the next id where no group is found, else it joins.
use Rattle.partition.specs.Laws.Join.{rule1-some}
use Rattle.std.proofs.lemmas.Bool.{eqb-false}
use lib.ListN.{length}
use mathlib.Core.Path.{sym, ◌∙◌}
use Prim.Native.Nat.{◌≤◌}
use native.Mathlib.Omega.{arith}
use Rattle.partition.proofs.rule1.Goals as goal

pub returns : goal.returns
returns c =
    let s = c in
    let a = s.args in
    let f = c.found_at-found in
    let p = c.join.ensures in
    let some : 1 ≤ length f.result.items = omega (arith, eqb-false (length f.result.items) 0 (sym c.is_empty.ensures ∙ c.if-is_empty.false)) in
    (p.0, omega arith, λ g h. rule1-some a.kind a.ids.now _ a.held.count a.held.next _ g a.c f.result.items h (f.ensures g.ids h.rows) some (λ t k. rw c.deref.ensures.0 at (p.1 t k)))
