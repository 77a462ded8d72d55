-- `metres::origin_ok` meets its contract.
use Rattle.std.proofs.Common.{◌≤◌, sym, ◌∙◌, subst}
use Rattle.metres.proofs.Laws.Near.{near-known, whole-few}
use Rattle.metres.proofs.Laws.Frame.{origin-far, origin-near}
use Rattle.metres.proofs.origin_ok.Goals as goal

pub returns-then-not-is_near : goal.returns-then-not-is_near
returns-then-not-is_near c = origin-far c.args.x (sym c.is_near.ensures ∙ c.if-not-is_near.true)

pub invariant_of-place : goal.invariant_of-place
invariant_of-place c = record { near = near-known c.args.x c.requires (sym c.is_near.ensures ∙ c.if-not-is_near.false) }

pub is_past-requires : goal.is_past-requires
is_past-requires c =
    let k = near-known c.args.x c.requires (sym c.is_near.ensures ∙ c.if-not-is_near.false) in
    subst (λ n. n ≤ 1048576) (sym c.whole.ensures) (whole-few c.args.x k)

pub returns : goal.returns
returns c =
    origin-near c.args.x c.whole.result c.is_past.result (sym c.is_near.ensures ∙ c.if-not-is_near.false) c.whole.ensures c.is_past.ensures
