-- `too_short` meets its contract.
use Rattle.batch.specs.Words.{too_short}
use Rattle.batch.proofs.too_short.Goals as goal

pub returns : goal.returns
unfolding too_short
returns c = simp (c.state_len.ensures, c.lacks_words.ensures)
