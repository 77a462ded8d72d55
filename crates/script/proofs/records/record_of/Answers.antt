-- Each mark says which record it is.
use native.Mathlib.Omega.{arith}
use borrow.Author.Tests.{eq-eqb, ne_eqb}
use Rattle.script.specs.Records.{record_of}
use Rattle.script.proofs.records.record_of.Goals as goal

pub returns-in-82 : goal.returns-in-82
unfolding record_of
returns-in-82 c = let i = c.in-82.is in simp (eq-eqb c.args.mark 82 i, c.number.ensures.0)

pub returns-in-77 : goal.returns-in-77
unfolding record_of
returns-in-77 c = let i = c.in-77.is in simp (ne_eqb c.args.mark 82 (λ e. absurd (omega arith)), eq-eqb c.args.mark 77 i, c.moved_of.ensures)

pub returns-in_default : goal.returns-in_default
unfolding record_of
returns-in_default c = simp (ne_eqb c.args.mark 82 (λ e. absurd (omega arith)), ne_eqb c.args.mark 77 (λ e. absurd (omega arith)))
