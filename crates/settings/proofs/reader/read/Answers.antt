-- The first n bytes are read.
use Rattle.settings.specs.Reading.{read_of}
use borrow.Author.Tests.{lt-ltb, le-ltb}
use Rattle.settings.proofs.reader.read.Goals as goal

pub returns-then-s-n : goal.returns-then-s-n
unfolding read_of
returns-then-s-n c = simp (lt-ltb _ _ c.if-s-n.true)

pub returns : goal.returns
unfolding read_of
returns c = simp (le-ltb _ _ c.if-s-n.false) c.read_in.ensures
