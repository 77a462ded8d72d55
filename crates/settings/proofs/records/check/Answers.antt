-- Each test says which case of the definition holds.
use Rattle.settings.specs.Settings.{good_of}
use Rattle.settings.specs.Records.{check_of, size_of}
use Prim.Native.Nat.{◌<◌}
use lib.Seq.{length-take-le}
use Rattle.settings.proofs.Laws.Records.{size-some}
use Rattle.settings.specs.Records.{check_of}
use borrow.Author.Tests.{eq-eqb, ne_eqb, lt-ltb, le-ltb}
use mathlib.Core.Path.{sym, ap, ◌∙◌}
use native.Mathlib.Omega.{arith}
use Rattle.settings.proofs.records.check.Goals as goal

pub returns-then-b-lt2 : goal.returns-then-b-lt2
unfolding check_of
returns-then-b-lt2 c = simp (lt-ltb _ _ c.if-b-lt2.true)

pub returns-then-size-eq0 : goal.returns-then-size-eq0
unfolding check_of
returns-then-size-eq0 c = simp (le-ltb _ _ c.if-b-lt2.false, sym c.size_of-size.ensures, eq-eqb _ _ c.if-size-eq0.true)

pub returns-then-two-size : goal.returns-then-two-size
unfolding check_of
returns-then-two-size c = simp (le-ltb _ _ c.if-b-lt2.false, sym c.size_of-size.ensures, ne_eqb _ _ c.if-size-eq0.false, c.if-two-size.true)

pub returns-then-b-size : goal.returns-then-b-size
unfolding check_of
returns-then-b-size c = simp (le-ltb _ _ c.if-b-lt2.false, sym c.size_of-size.ensures, ne_eqb _ _ c.if-size-eq0.false, c.if-two-size.false, lt-ltb _ _ c.if-b-size.true)

pub settings_of-requires : goal.settings_of-requires
settings_of-requires c =
    let b = c.args.b.now in
    let n = c.if-size-eq0.false in
    let e = c.size_of-size.ensures in
    let p : 0 < size_of b = omega (arith, n, e) in
    let q = size-some b p in
    let l = length-take-le c.size_of-size.result b c.if-b-size.false in
    omega (arith, q.0, l, e)

pub returns : goal.returns
unfolding check_of
returns c =
    let b = c.args.b.now in
    let e = c.size_of-size.ensures in
    simp (le-ltb _ _ c.if-b-lt2.false, sym e, ne_eqb _ _ c.if-size-eq0.false, c.if-two-size.false, le-ltb _ _ c.if-b-size.false)
    (c.good.ensures ∙ ap good_of c.settings_of.ensures)
