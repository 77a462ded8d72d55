-- The test says which case of the definition holds.
use Rattle.settings.proofs.Signed.{given_back}
use Rattle.settings.specs.Records.{axis_of, signed_of}
use borrow.Author.Tests.{lt-ltb, le-ltb}
use mathlib.Core.Path.{ap, ◌∙◌}
use borrow.Author.Rules.{rules}
use Rattle.settings.proofs.records.axis_of.Goals as goal

pub returns-then-b-lt24 : goal.returns-then-b-lt24
unfolding axis_of
returns-then-b-lt24 c = simp (lt-ltb _ _ c.if-b-lt24.true)

pub returns : goal.returns
unfolding axis_of
returns c = simp (le-ltb _ _ c.if-b-lt24.false) (given_back (c.unbias.ensures ∙ ap signed_of c.number.ensures.0) (search rules))
