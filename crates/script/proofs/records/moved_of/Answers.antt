-- Each field from its bytes.
use Rattle.script.specs.Records.{moved_of}
use Rattle.script.proofs.records.moved_of.Goals as goal

pub returns : goal.returns
unfolding moved_of
returns c =
    simp (
      c.number.ensures.0,
      c.number-2.ensures.0,
      c.widen.ensures,
      c.widen-2.ensures,
      c.widen-3.ensures,
      c.number-3.ensures.0,
      c.number-4.ensures.0,
      c.number-5.ensures.0,
    )
