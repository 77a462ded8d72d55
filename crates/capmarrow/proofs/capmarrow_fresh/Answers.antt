-- A slice for what is told that is too short; else what the call answers is told.
use Rattle.fresh.specs.Answer.{fresh_of}
use Rattle.refusal.specs.Forms.{outcome}
use Rattle.telling.specs.Words.{refusal_told}
use Rattle.telling.proofs.Laws.Tells.{filled-short, filled-long}
use Rattle.capmarrow.proofs.capmarrow_fresh.Goals as goal

pub returns-then-told-lt3 : goal.returns-then-told-lt3
returns-then-told-lt3 c =
    let s = c in
    filled-short 3 refusal_told (fresh_of s.args.state.now s.args.first_id s.args.kind) s.args.told.now s.args.state.now c.if-told-lt3.true

pub returns : goal.returns
returns c =
    let t = c in
    let f = t in
    let i = f in
    let s = i in
    filled-long 3 refusal_told (fresh_of s.args.state.now s.args.first_id s.args.kind) s.args.told.now s.args.state.now i.if-told-lt3.false
    (outcome f.fresh-r.result) f.fresh-r.new.state f.fresh-r.ensures
    (t.tell_outcome.result, t.tell_outcome.new.told) t.tell_outcome.ensures
