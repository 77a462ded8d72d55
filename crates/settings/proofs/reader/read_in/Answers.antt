-- The invariant: what is still to be told, with the record held so far, is what is to be told of all bytes.
-- The record at the place is fine, so it lies within the bytes.
use Rattle.settings.proofs.Answering.{err-of, fine-of, fault-of}
use Rattle.settings.proofs.ReadingSteps.{seen, seen-found, told-seen, left-start, left-bad, fits, left-held, left_other, left_end}
use Rattle.std.specs.Prelude.{Option, Ok, Err, Some, List, ℕ, []}
use Rattle.std.proofs.lemmas.Option.{MatchOption-at_some, MatchOption-at_none}
use Rattle.settings.specs.Records.{settings_of}
use Rattle.settings.specs.declared.kinds.Settings.{Settings}
use Rattle.settings.specs.declared.kinds.ReadError.{ReadError}
use Rattle.settings.specs.declared.kinds.ReadError.TheVariants as reading_error
use lib.ListN.{length, take, drop, length-take, length-drop}
use lib.Seq.{length-take-le}
use native.Mathlib.Omega.{arith}
use borrow.Author.Rules.{rules}
use mathlib.Core.Path.{◌≡◌, refl, sym, ap, ◌∙◌}
use Prim.Native.Nat.{◌-◌}
use Rattle.settings.proofs.reader.read_in.Goals as goal

pub loop-at-init : goal.loop-at-init
loop-at-init c = let a = c.args in (omega arith, ([], refl, left-start a.two a.grid a.bytes.now))

pub returns-in_err-map_err : goal.returns-in_err-map_err
returns-in_err-map_err c =
    let a = c.args in
    let i = c.loop-at.invariant.1 in
    let x = fault-of {r = c.check.result} c.in_err-map_err.ensures.variant in
    let y = rw x.1 at c.in_err-map_err.ensures.cases in
    let q : c.in_err-map_err.field-0.0 ≡ reading_error.Faulty x.0 c.loop-at.at = search rules in
    err-of c.from_residual.ensures.1
    ∙ ap (λ (e : ReadError). Err e) q
    ∙ sym (left-bad a.two a.grid a.bytes.now c.loop-at.at i.0 c.loop-at-test.true (sym c.check.ensures ∙ x.1))
    ∙ i.2

pub overflow_add-at : goal.overflow_add-at
overflow_add-at c =
    let a = c.args in
    let f = fits a.two a.grid a.bytes.now c.loop-at.at c.size_of-size.result c.loop-at-test.true (sym c.check.ensures ∙ fine-of c.in_ok-map_err.ensures.variant) c.size_of-size.ensures in
    omega (arith, f.1)

pub grid_of-requires : goal.grid_of-requires
grid_of-requires c =
    let a = c.args in
    (fits a.two a.grid a.bytes.now c.loop-at.at c.size_of-size.result c.loop-at-test.true (sym c.check.ensures ∙ fine-of c.in_ok-map_err.ensures.variant) c.size_of-size.ensures).2

pub slice_bounds-held-end : goal.slice_bounds-held-end
slice_bounds-held-end c =
    let a = c.args in
    let f = fits a.two a.grid a.bytes.now c.loop-at.at c.size_of-size.result c.loop-at-test.true (sym c.check.ensures ∙ fine-of c.in_ok-map_err.ensures.variant) c.size_of-size.ensures in
    let w = take (length a.bytes.now - c.loop-at.at) (drop c.loop-at.at a.bytes.now) in
    let d = length-take (length a.bytes.now - c.loop-at.at) (drop c.loop-at.at a.bytes.now) in
    let n = length-drop c.loop-at.at a.bytes.now in
    let l = length-take-le c.size_of-size.result w (omega (arith, f.1)) in
    sym l

pub loop-at-smaller-then-grid_of-grid : goal.loop-at-smaller-then-grid_of-grid
loop-at-smaller-then-grid_of-grid c =
    let a = c.args in
    let f = fits a.two a.grid a.bytes.now c.loop-at.at c.size_of-size.result c.loop-at-test.true (sym c.check.ensures ∙ fine-of c.in_ok-map_err.ensures.variant) c.size_of-size.ensures in
    omega (arith, f.0, f.1)

pub loop-at-preserved-then-grid_of-grid : goal.loop-at-preserved-then-grid_of-grid
loop-at-preserved-then-grid_of-grid c =
    let a = c.args in
    let i = c.loop-at.invariant.1 in
    let t = c.loop-at-test.true in
    let e = sym c.check.ensures ∙ fine-of c.in_ok-map_err.ensures.variant in
    let f = fits a.two a.grid a.bytes.now c.loop-at.at c.size_of-size.result t e c.size_of-size.ensures in
    let w = take (length a.bytes.now - c.loop-at.at) (drop c.loop-at.at a.bytes.now) in
    let d = length-take (length a.bytes.now - c.loop-at.at) (drop c.loop-at.at a.bytes.now) in
    let n = length-drop c.loop-at.at a.bytes.now in
    let l = length-take-le c.size_of-size.result w (omega (arith, f.1)) in
    let r = take c.size_of-size.result w in
    (f.1, (r, (refl, omega (arith, f.0)), sym (left-held a.two a.grid a.bytes.now c.loop-at.at c.size_of-size.result i.0 t e c.size_of-size.ensures (sym c.grid_of.ensures ∙ c.if-grid_of-grid.true)) ∙ i.2))

pub loop-at-smaller : goal.loop-at-smaller
loop-at-smaller c =
    let a = c.args in
    let f = fits a.two a.grid a.bytes.now c.loop-at.at c.size_of-size.result c.loop-at-test.true (sym c.check.ensures ∙ fine-of c.in_ok-map_err.ensures.variant) c.size_of-size.ensures in
    omega (arith, f.0, f.1)

pub loop-at-preserved : goal.loop-at-preserved
loop-at-preserved c =
    let a = c.args in
    let i = c.loop-at.invariant.1 in
    let t = c.loop-at-test.true in
    let e = sym c.check.ensures ∙ fine-of c.in_ok-map_err.ensures.variant in
    let f = fits a.two a.grid a.bytes.now c.loop-at.at c.size_of-size.result t e c.size_of-size.ensures in
    (f.1, (i.0, i.1, sym (left_other a.two a.grid a.bytes.now c.loop-at.at c.size_of-size.result i.0 t e c.size_of-size.ensures (λ q. c.if-grid_of-grid.false (c.grid_of.ensures ∙ q))) ∙ i.2))

pub returns-in-Some : goal.returns-in-Some
returns-in-Some c =
    let a = c.args in
    let i = c.loop-at.invariant.1 in
    let h = MatchOption-at_some _ _ _ c.in-Some.is i.1 in
    ap (λ (x : Settings). Ok (Some x)) (c.settings_of.ensures ∙ ap settings_of h.0)
    ∙ ap (λ (o : Option Settings). Ok o) (seen-found i.0 h.1)
    ∙ told-seen i.0
    ∙ sym (left_end a.two a.grid a.bytes.now c.loop-at.at i.0 c.loop-at.invariant.0 c.loop-at-test.false)
    ∙ i.2

pub returns-in-None : goal.returns-in-None
returns-in-None c =
    let a = c.args in
    let i = c.loop-at.invariant.1 in
    let h = MatchOption-at_none _ _ c.in-None.is i.1 in
    ap (λ (r : List ℕ). Ok (seen r)) (sym h)
    ∙ told-seen i.0
    ∙ sym (left_end a.two a.grid a.bytes.now c.loop-at.at i.0 c.loop-at.invariant.0 c.loop-at-test.false)
    ∙ i.2
