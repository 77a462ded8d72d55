-- The line is one with a mark and a cell.
use Rattle.script.specs.Lines.{entered_line}
use Rattle.script.proofs.lines.entered_line.Goals as goal

pub returns : goal.returns
unfolding entered_line
returns c = c.marked_line.ensures
