-- The line is one with a mark and a cell.
use Rattle.script.specs.Lines.{left_line}
use Rattle.script.proofs.lines.left_line.Goals as goal

pub returns : goal.returns
unfolding left_line
returns c = c.marked_line.ensures
