-- Where all groups found are the same nothing merges; else all become the largest.
use Rattle.partition.specs.Laws.Join.{join-same, join-done}
use mathlib.Core.Path.{sym, ◌∙◌}
use Rattle.partition.proofs.join.Goals as goal

pub returns-else-not-all_same : goal.returns-else-not-all_same
returns-else-not-all_same c =
    let s = c in
    let a = s.args in
    let p = c.push-r.ensures in
    (p.0, λ t h. join-same t a.c a.found.now (sym c.all_same.ensures ∙ c.if-not-all_same.false) _ _ (p.1 t h))

pub returns-then-not-all_same : goal.returns-then-not-all_same
returns-then-not-all_same c =
    let s = c in
    let a = s.args in
    let p = c.push-r.ensures in
    (p.0, λ t h. join-done t a.c a.found.now _ _ _ _ (p.1 t h) c.largest-into.ensures c.merge.ensures)
