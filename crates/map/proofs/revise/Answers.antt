-- The word that is written stands in its row.
use Rattle.map.proofs.Steps.{word_over}
use Rattle.map.proofs.revise.Goals as goal

pub returns : goal.returns
returns c = let s = c in word_over s.args.cells.now s.args.i s.args.joins s.args.w c.revised.result s.requires.0 c.revised.ensures
