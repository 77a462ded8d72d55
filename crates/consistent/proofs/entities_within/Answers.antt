-- Point 1, over the words of the header and of the entities.
use mathlib.Core.Path.{◌∙◌}
use Rattle.points_check.specs.Points.{entities_right}
use Rattle.consistent.specs.Laws.Points.{point1-is}
use Rattle.consistent.proofs.entities_within.Goals as goal

pub returns : goal.returns
returns c =
    let s = c in
    c.entities_right.ensures
    ∙ (λ i. entities_right (c.spare_words-spare.ensures i) (c.entities-n.ensures.words i) (c.entities-n.ensures.count i) (c.cells-m.ensures.count i))
    ∙ point1-is s.args.state.now.words.now s.args.state.now.long
