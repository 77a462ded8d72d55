-- The entities that stand in the cell are given.
use Prim.Native.Nat.{ℕ, ◌≤◌}
use native.Mathlib.Omega.{arith}
use mathlib.Core.Bool.{not}
use mathlib.Core.Path.{refl, sym, ◌∙◌, ap}
use lib.ListN.{length, take, replicate}
use lib.Seq.{length-take-le}
use lib.Dec.{eqb}
use Rattle.model.specs.Update.{most_entities}
use Rattle.layout.specs.Rows.{entities_in}
use Rattle.lists.proofs.Laws.Gives.{numbers-listed}
use Rattle.lists.proofs.Laws.Scans.{over-take, standing-few}
use Rattle.lists.specs.Parts.{standing_in, any_of}
use Rattle.lists.proofs.give_entities.Goals as goal

pub slice_bounds-words-end : goal.slice_bounds-words-end
slice_bounds-words-end c = omega (arith, c.entities_into-k.auto.words, c.entities_into-k.ensures.0, c.requires.1, standing-few c.args.rows.now c.args.n c.args.c)

pub slice_bounds-give-end : goal.slice_bounds-give-end
slice_bounds-give-end c =
    let h : c.entities_into-k.result ≤ length c.entities_into-k.new.words = omega (arith, c.entities_into-k.auto.words, c.entities_into-k.ensures.0, c.requires.1, standing-few c.args.rows.now c.args.n c.args.c) in
    sym (length-take-le c.entities_into-k.result c.entities_into-k.new.words h)

pub returns : goal.returns
returns c =
    let h : c.entities_into-k.result ≤ length c.entities_into-k.new.words = omega (arith, c.entities_into-k.auto.words, c.entities_into-k.ensures.0, c.requires.1, standing-few c.args.rows.now c.args.n c.args.c) in
    let n = c.entities_into-k.result in
    let e = c.entities_into-k.ensures in
    let stand = standing_in (entities_in c.args.n c.args.rows.now) c.args.c in
    c.give.ensures
    ∙ numbers-listed (not (eqb n 0)) n n c.entities_into-k.new.words (any_of stand) c.args.answer.now
    (ap (λ (m : ℕ). not (eqb m 0)) e.0) ((λ i. take (e.0 i) (e.1 i)) ∙ over-take (replicate most_entities 0) stand) h refl
