-- Each way out is a law.
use Rattle.settings.proofs.Answering.{err-of}
use Rattle.settings.proofs.KeepingSteps.{overlong, broken, whole-unless-faulty, is_whole, done}
use Rattle.settings.specs.Parsing.{records_of}
use lib.ListN.{take}
use mathlib.Core.Bool.{true}
use mathlib.Core.Path.{sym, ◌∙◌}
use Rattle.settings.proofs.keeper.keep_last.Goals as goal

pub returns-then-s-n : goal.returns-then-s-n
returns-then-s-n c =
    let a = c.args in
    overlong a.s.now a.n a.scratch.now c.if-s-n.true

pub returns-in_err-read_in : goal.returns-in_err-read_in
returns-in_err-read_in c =
    let a = c.args in
    (λ j. (err-of c.from_residual.ensures.1 j, a.s.now, a.scratch.now)) ∙ broken a.s.now a.n a.scratch.now c.if-s-n.false (sym c.in_err-read_in.was ∙ c.read_in.ensures)

pub keep_whole-requires : goal.keep_whole-requires
keep_whole-requires c =
    let a = c.args in
    let b = take a.n a.s.now in
    let w = whole-unless-faulty (records_of true b) (sym c.in_ok-read_in.was ∙ c.read_in.ensures) in
    (c.if-s-n.false, (w.0, is_whole b w.1))

pub returns : goal.returns
returns c =
    let a = c.args in
    let b = take a.n a.s.now in
    let w = whole-unless-faulty (records_of true b) (sym c.in_ok-read_in.was ∙ c.read_in.ensures) in
    done a.s.now a.n a.scratch.now w.0 c.if-s-n.false w.1 (c.keep_whole.ensures w.0 (is_whole b w.1))
