-- An entity that stands in another cell moves.
use lib.Dec.{eqb}
use Rattle.map.proofs.Playing.{stands_at, move-known, can-move}
use Rattle.map.specs.Tables.{HeldIn}
use Rattle.model.specs.Lists.{get}
use Rattle.component.specs.Order.{same}
use mathlib.Core.Path.{◌≡◌, subst}
use mathlib.Core.Bool.{false}
use borrow.Author.Rules.{rules}
use Rattle.map.proofs.Tables.play_move.Goals as goal

pub returns-then-ne-clause-held : goal.returns-then-ne-clause-held
returns-then-ne-clause-held c =
    let a = c.args in let q = c.requires in
    let n : same a.c c.in-Some.d ≡ false = search rules in
    λ o h.
    let p = stands_at (get eqb o.entities a.e) c.in-Some.is (c.stand.ensures o h) in
    subst (HeldIn c.relocate.new.self) (move-known a.self.now.kind o a.e a.c p n) (c.relocate.ensures.held o (can-move h q.2 q.3 p q.4))
