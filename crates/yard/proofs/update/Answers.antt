-- `update` meets its contract: each way out is the update's where the tests before it pass.
use native.Mathlib.Omega.{arith}
use mathlib.Core.Path.{refl, ◌∙◌}
use Rattle.std.proofs.lemmas.Result.{err_from_is_err_and}
use Rattle.refusal.specs.Forms.{form}
use Rattle.refusal.proofs.Theorems.{form-refuses}
use Rattle.layout.proofs.Laws.Cut.{header-fits}
use Rattle.yard.specs.Laws.Answers.{short-answer, batch-fits, wild-answer, state-known, first-answer, early-none, last-answer}
use Rattle.yard.proofs.update.Goals as goal

pub returns-then-too_short : goal.returns-then-too_short
returns-then-too_short c =
    let a = c.args in
    short-answer a.state.now a.batch.now a.removals a.moves c.too_short.result c.too_short.ensures c.if-too_short.true

pub returns-in_err-consistent : goal.returns-in_err-consistent
returns-in_err-consistent c =
    let a = c.args in
    let e = c.in_err-consistent.field-0.0 in
    let p = err_from_is_err_and c.from_residual.result c.from_residual.ensures.1 in
    rw (p.1, p.2)
    (wild-answer a.state.now a.batch.now a.removals a.moves c.too_short.result c.too_short.ensures c.if-too_short.false (form e) c.in_err-consistent.ensures (form-refuses e))

pub bounds-state-6 : goal.bounds-state-6
bounds-state-6 c =
    let a = c.args in
    omega (arith, header-fits a.state.now (state-known a.state.now a.batch.now a.removals a.moves c.too_short.result c.too_short.ensures c.if-too_short.false _ c.in_ok-consistent.ensures refl).long)

pub early_refusal-requires : goal.early_refusal-requires
early_refusal-requires c =
    let a = c.args in
    batch-fits a.state.now a.batch.now a.removals a.moves c.too_short.result c.too_short.ensures c.if-too_short.false

pub returns-in_err-early_refusal : goal.returns-in_err-early_refusal
returns-in_err-early_refusal c =
    let a = c.args in
    let e = c.in_err-early_refusal.field-0.0 in
    let p = err_from_is_err_and c.from_residual-in_err-early_refusal.result c.from_residual-in_err-early_refusal.ensures.1 in
    rw (p.1, p.2)
    (first-answer a.state.now a.batch.now a.removals a.moves c.too_short.result c.too_short.ensures c.if-too_short.false _ c.in_ok-consistent.ensures refl (form e) c.in_err-early_refusal.ensures (form-refuses e))

pub apply_batch-requires : goal.apply_batch-requires
apply_batch-requires c =
    let a = c.args in
    let t = c.too_short in
    let y = c.if-too_short.false in (
      state-known a.state.now a.batch.now a.removals a.moves t.result t.ensures y _ c.in_ok-consistent.ensures refl,
      batch-fits a.state.now a.batch.now a.removals a.moves t.result t.ensures y,
      early-none a.state.now a.batch.now a.removals a.moves t.result t.ensures y _ c.in_ok-consistent.ensures refl _ c.in_ok-early_refusal.ensures refl,
    )

pub returns : goal.returns
returns c =
    let a = c.args in
    c.apply_batch.ensures
    ∙ last-answer a.state.now a.batch.now a.removals a.moves c.too_short.result c.too_short.ensures c.if-too_short.false _ c.in_ok-consistent.ensures refl _ c.in_ok-early_refusal.ensures refl _ _ refl
