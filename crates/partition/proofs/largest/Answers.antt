-- The best so far with the groups left has the same largest as all.
use Rattle.std.proofs.Common.{ℕ, ◌≡◌, ◌<◌, ◌+◌, ◌-◌, List, length, get_or, take, drop, ap, ◌∙◌, get_or-take, get_or-drop, arith}
use Rattle.partition.specs.Laws.Join.{largest-new, largest-old}
use Rattle.layout.specs.Rows.{ids_in}
use Rattle.partition.proofs.largest.Goals.{then-group_size, else-group_size}
use Rattle.partition.proofs.largest.Goals as goal

rest-at : (xs : List ℕ) (i : ℕ) → i < length xs - 1 → get_or (take (length xs - 1) (drop 1 xs)) i 0 ≡ get_or xs (i + 1) 0
rest-at xs i h =
    let e : 1 + i ≡ i + 1 = omega arith in
    get_or-take (length xs - 1) (drop 1 xs) i 0 h ∙ get_or-drop 1 xs i 0 ∙ ap (λ (j : ℕ). get_or xs j 0) e

pub loop-g-preserved : goal.loop-g-preserved
loop-g-preserved c =
    let a = c.args in
    let v = c.loop-g in
    let t = ids_in a.n a.ids.now in
    let h : v.g-index + 1 < length a.found.now = omega arith in
    let e = rest-at a.found.now v.g-index (omega arith) in
    let x = c.group_size.ensures in
    let y = rw e at c.group_size-in-loop-g.ensures in
    elim c.if-group_size.branch [
      | then-group_size w ↦ rw (w.best-is, e) (largest-new t a.found.now (v.g-index + 1) v.best h _ v.invariant (omega (arith, x, y, w.if-group_size.true)))
      | else-group_size w ↦ rw w.best-is (largest-old t a.found.now (v.g-index + 1) v.best h _ v.invariant (omega (arith, x, y, w.if-group_size.false)))
    ]
