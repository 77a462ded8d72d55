-- A slice for what is told that is too short; else the refusal is told.
use mathlib.Core.Path.{◌∙◌, ap}
use Rattle.refusal.specs.Forms.{Refused}
use Rattle.consistent.specs.Answer.{state_refusal}
use Rattle.telling.specs.Words.{refusal_told, telling}
use Rattle.telling.proofs.Laws.Tells.{tells-short, tells-long}
use Rattle.capmarrow.proofs.capmarrow_consistent.Goals as goal

pub returns-then-told-lt3 : goal.returns-then-told-lt3
returns-then-told-lt3 c =
    let s = c in
    tells-short 3 (refusal_told (state_refusal s.args.state.now)) s.args.told.now c.if-told-lt3.true

pub returns : goal.returns
returns c =
    let t = c in
    let i = t in
    let s = i in
    tells-long 3 (refusal_told (state_refusal s.args.state.now)) s.args.told.now i.if-told-lt3.false (t.tell_outcome.result, t.tell_outcome.new.told)
    (t.tell_outcome.ensures ∙ ap (λ (r : Refused). telling (refusal_told r) s.args.told.now) t.consistent.ensures)
