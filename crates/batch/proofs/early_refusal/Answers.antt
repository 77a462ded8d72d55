-- `early_refusal` meets its contract: each refusal is the batch's where the tests before it pass.
use native.Mathlib.Omega.{arith}
use Rattle.std.proofs.lemmas.Result.{err_from_is_err_and}
use Rattle.refusal.specs.Forms.{form}
use Rattle.refusal.proofs.Theorems.{form-refuses}
use Rattle.batch.proofs.Laws.Places.{refused-many, refused-out, refused-late, refused_none}
use Rattle.batch.proofs.early_refusal.Goals as goal

pub returns-then-removals-moves-gt-MOST_EVENTS : goal.returns-then-removals-moves-gt-MOST_EVENTS
returns-then-removals-moves-gt-MOST_EVENTS c =
    let a = c.args in
    refused-many a.next a.batch.now a.removals a.moves (omega arith) c.if-removals-moves-gt-MOST_EVENTS.true

pub returns-in_err-first_out : goal.returns-in_err-first_out
returns-in_err-first_out c =
    let a = c.args in
    let e = c.in_err-first_out.field-0.0 in
    let p = err_from_is_err_and c.from_residual.result c.from_residual.ensures.1 in
    rw (p.1, p.2)
    (refused-out a.next a.batch.now a.removals a.moves (omega arith) c.if-removals-moves-gt-MOST_EVENTS.false (form e) c.in_err-first_out.ensures (form-refuses e))

pub returns-then-next-gt-MOST_NEXT_ID : goal.returns-then-next-gt-MOST_NEXT_ID
returns-then-next-gt-MOST_NEXT_ID c =
    let a = c.args in
    refused-late a.next a.batch.now a.removals a.moves (omega arith) c.if-removals-moves-gt-MOST_EVENTS.false _ c.in_ok-first_out.ensures (omega arith) c.if-next-gt-MOST_NEXT_ID.true

pub returns : goal.returns
returns c =
    let a = c.args in
    refused_none a.next a.batch.now a.removals a.moves (omega arith) c.if-removals-moves-gt-MOST_EVENTS.false _ c.in_ok-first_out.ensures (omega arith) c.if-next-gt-MOST_NEXT_ID.false
