-- Each line fits the buffer that it is written to.
use Rattle.script_writer.proofs.Fits.{line-fits}
use Rattle.script_writer.proofs.lines.write_line.Goals as goal

pub returns-in-Batch : goal.returns-in-Batch
returns-in-Batch c = let k = c.batch_line in line-fits _ c.args.out.now k.ensures k.auto.out

pub returns-in-Entered : goal.returns-in-Entered
returns-in-Entered c = let k = c.entered_line in line-fits _ c.args.out.now k.ensures k.auto.out

pub returns-in-Left : goal.returns-in-Left
returns-in-Left c = let k = c.left_line in line-fits _ c.args.out.now k.ensures k.auto.out

pub returns-in-Cell : goal.returns-in-Cell
returns-in-Cell c = let k = c.cell_line in line-fits _ c.args.out.now k.ensures k.auto.out

pub returns-in-Wrong : goal.returns-in-Wrong
returns-in-Wrong c = let k = c.wrong_line in line-fits _ c.args.out.now k.ensures k.auto.out

pub returns-in-Open : goal.returns-in-Open
returns-in-Open c = let k = c.open_line in line-fits _ c.args.out.now k.ensures k.auto.out

pub returns-in-End : goal.returns-in-End
returns-in-End c = let k = c.end_line in line-fits _ c.args.out.now k.ensures k.auto.out
