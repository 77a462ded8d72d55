-- Each test says which case of the definition holds.
use borrow.Author.Tests.{eq-eqb, ne_eqb, le-leb, lt-leb}
use mathlib.Core.Path.{sym}
use Rattle.script.specs.Records.{step_of}
use Rattle.script.proofs.records.step.Goals as goal

pub returns-then-bytes-eq0 : goal.returns-then-bytes-eq0
unfolding step_of
returns-then-bytes-eq0 c = simp (eq-eqb _ _ c.if-bytes-eq0.true, c.nothing.ensures)

pub returns-then-bytes-ne89 : goal.returns-then-bytes-ne89
unfolding step_of
returns-then-bytes-ne89 c = simp (ne_eqb _ _ c.if-bytes-eq0.false, ne_eqb _ _ c.if-bytes-ne89.true)

pub returns-then-bytes-eq1 : goal.returns-then-bytes-eq1
unfolding step_of
returns-then-bytes-eq1 c = simp (ne_eqb _ _ c.if-bytes-eq0.false, eq-eqb _ _ c.if-bytes-ne89.false, eq-eqb _ _ c.if-bytes-eq1.true, c.cut_short.ensures)

pub returns-then-n-eq0 : goal.returns-then-n-eq0
unfolding step_of
returns-then-n-eq0 c =
    simp (
      ne_eqb _ _ c.if-bytes-eq0.false,
      eq-eqb _ _ c.if-bytes-ne89.false,
      ne_eqb _ _ c.if-bytes-eq1.false,
      sym c.length_of-n.ensures,
      eq-eqb _ _ c.if-n-eq0.true,
    )

pub returns-then-n-bytes : goal.returns-then-n-bytes
unfolding step_of
returns-then-n-bytes c =
    simp (
      ne_eqb _ _ c.if-bytes-eq0.false,
      eq-eqb _ _ c.if-bytes-ne89.false,
      ne_eqb _ _ c.if-bytes-eq1.false,
      sym c.length_of-n.ensures,
      ne_eqb _ _ c.if-n-eq0.false,
      le-leb _ _ c.if-n-bytes.true,
      c.record_of.ensures,
    )

pub returns : goal.returns
unfolding step_of
returns c =
    simp (
      ne_eqb _ _ c.if-bytes-eq0.false,
      eq-eqb _ _ c.if-bytes-ne89.false,
      ne_eqb _ _ c.if-bytes-eq1.false,
      sym c.length_of-n.ensures,
      ne_eqb _ _ c.if-n-eq0.false,
      lt-leb _ _ c.if-n-bytes.false,
      c.cut_short-2.ensures,
    )
