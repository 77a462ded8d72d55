-- Too few words, or what the first broken point says.
use mathlib.Core.Path.{refl, sym, ap, ◌∙◌}
use lib.Dec.{eqb}
use Rattle.refusal.specs.Forms.{point_number}
use Rattle.refusal.proofs.Theorems.{point-counts}
use Rattle.consistent.specs.Answer.{broken_number}
use Rattle.consistent.specs.Laws.Ways.{too-short, unbroken-way, broken-way, short-words, long-words}
use Rattle.consistent.proofs.checked.Goals as goal

pub returns-then-state-state_len-clause-answer : goal.returns-then-state-state_len-clause-answer
returns-then-state-state_len-clause-answer c =
    let w = c.args.state.now in
    too-short w (short-words w c.state_len.result c.state_len.ensures c.if-state-state_len.true)

pub returns-in-None-clause-answer : goal.returns-in-None-clause-answer
returns-in-None-clause-answer c =
    let w = c.args.state.now in
    unbroken-way w (long-words w c.state_len.result c.state_len.ensures c.if-state-state_len.false) 0 (ap broken_number (sym c.in-None.is) ∙ c.first_broken.ensures) refl

pub returns-in-Some-clause-answer : goal.returns-in-Some-clause-answer
returns-in-Some-clause-answer c =
    let w = c.args.state.now in
    broken-way w (long-words w c.state_len.result c.state_len.ensures c.if-state-state_len.false) (point_number c.in-Some.point) (ap broken_number (sym c.in-Some.is) ∙ c.first_broken.ensures) (point-counts c.in-Some.point)

pub invariant_of-result : goal.invariant_of-result
invariant_of-result c =
    record {
      long = long-words c.args.state.now c.state_len.result c.state_len.ensures c.if-state-state_len.false;
      sound = ap (λ n. eqb n 0) (sym c.first_broken.ensures ∙ ap broken_number c.in-None.is);
    }
