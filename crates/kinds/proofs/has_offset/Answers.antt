-- The step on each axis is a digit of the offset's place.
use Rattle.std.proofs.Common.{ℕ, ◌+◌, sym, ap, ◌∙◌}
use Rattle.model.specs.Cells.{kind_allows, offsets_of}
use Rattle.model.proofs.Laws.Slots.{offset_of, offset-is}
use Rattle.kinds.proofs.has_offset.Goals as goal

pub returns : goal.returns
returns c =
    c.allows.ensures
    ∙ (λ i. kind_allows c.args.kind (c.apart-x.ensures.0 i + (c.apart-y.ensures.0 i + c.apart-z.ensures.0 i)))
    ∙ ap (λ (j : ℕ). offsets_of c.args.kind (offset_of j)) c.step-j.ensures
    ∙ ap (offsets_of c.args.kind) (sym (offset-is c.args.k c.requires))
