-- The bytes of a step are among those that it is read from.
use Rattle.std.proofs.Common.{arith}
use lib.Seq.{length-slice}
use Rattle.script_reader.proofs.Fits.{taken-fits}
use Rattle.script_reader.proofs.next_step.Goals as goal

pub returns : goal.returns
returns c =
    let a = c.args in
    omega (arith, taken-fits _ _ c.step.ensures, length-slice a.r.at a.r.end a.input.now c.requires.1)
