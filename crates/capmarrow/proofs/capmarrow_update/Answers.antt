-- A slice for what is told that is too short; else what the call answers is told.
use Rattle.yard.specs.Update.{update_of}
use Rattle.refusal.specs.Forms.{outcome}
use Rattle.telling.specs.Words.{refusal_told}
use Rattle.telling.proofs.Laws.Tells.{filled-short, filled-long}
use Rattle.capmarrow.proofs.capmarrow_update.Goals as goal

pub returns-then-told-lt3 : goal.returns-then-told-lt3
returns-then-told-lt3 c =
    let s = c in
    filled-short 3 refusal_told (update_of s.args.state.now s.args.batch.now s.args.removals s.args.moves) s.args.told.now s.args.state.now c.if-told-lt3.true

pub returns : goal.returns
returns c =
    let t = c in
    let f = t in
    let i = f in
    let s = i in
    filled-long 3 refusal_told (update_of s.args.state.now s.args.batch.now s.args.removals s.args.moves) s.args.told.now s.args.state.now i.if-told-lt3.false
    (outcome f.update-r.result) f.update-r.new.state f.update-r.ensures
    (t.tell_outcome.result, t.tell_outcome.new.told) t.tell_outcome.ensures
