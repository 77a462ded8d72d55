-- Each test says which case of the definition holds.
use Rattle.settings.proofs.Laws.Records.{size_none}
use Rattle.settings.specs.Records.{size_of}
use borrow.Author.Tests.{eq-eqb, ne_eqb}
use Rattle.settings.proofs.records.size_of.Goals as goal

pub returns-then-b-lt2 : goal.returns-then-b-lt2
returns-then-b-lt2 c = size_none c.args.b.now c.if-b-lt2.true

pub returns-then-b-ne89 : goal.returns-then-b-ne89
unfolding size_of
returns-then-b-ne89 c = simp (ne_eqb _ _ c.if-b-ne89.true)

pub returns-then-version-eq49 : goal.returns-then-version-eq49
unfolding size_of
returns-then-version-eq49 c = simp (eq-eqb _ _ c.if-b-ne89.false, eq-eqb _ _ c.if-version-eq49.true)

pub returns-then-version-eq50 : goal.returns-then-version-eq50
unfolding size_of
returns-then-version-eq50 c = simp (eq-eqb _ _ c.if-b-ne89.false, ne_eqb _ _ c.if-version-eq49.false, eq-eqb _ _ c.if-version-eq50.true)

pub returns : goal.returns
unfolding size_of
returns c = simp (eq-eqb _ _ c.if-b-ne89.false, ne_eqb _ _ c.if-version-eq49.false, ne_eqb _ _ c.if-version-eq50.false)
