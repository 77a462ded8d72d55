-- The touching of crate `component`, on as many axes as the kind allows.
use Rattle.std.proofs.Common.{◌+◌, ◌&&◌, sym, ◌∙◌}
use Rattle.component.specs.Touch.{touches}
use Rattle.model.specs.Cells.{kind_allows}
use Rattle.model.proofs.Laws.Kinds.{touch-kind}
use Rattle.kinds.proofs.touching_at.Goals as goal

pub returns : goal.returns
returns c =
    (λ i. c.touching.ensures i && c.allows.ensures i)
    ∙ (λ i. touches c.args.a c.args.b && kind_allows c.args.kind (c.apart-x.ensures.0 i + (c.apart-y.ensures.0 i + c.apart-z.ensures.0 i)))
    ∙ sym (touch-kind c.args.kind c.args.a c.args.b)
