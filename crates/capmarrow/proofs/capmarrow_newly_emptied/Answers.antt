-- A slice for what is told that is too short; else what the call answers is told.
use Rattle.ask.specs.Answers.{emptied_of}
use Rattle.lists.specs.Told.{listing_told}
use Rattle.telling.specs.Words.{numbered, listing_words}
use Rattle.telling.proofs.Laws.Tells.{filled-short, filled-long}
use Rattle.capmarrow.proofs.capmarrow_newly_emptied.Goals as goal

pub returns-then-told-lt3 : goal.returns-then-told-lt3
returns-then-told-lt3 c =
    let s = c in
    filled-short 3 (numbered listing_words) (emptied_of s.args.state.now s.args.answer.now) s.args.told.now s.args.answer.now c.if-told-lt3.true

pub returns : goal.returns
returns c =
    let t = c in
    let f = c in
    let s = c in
    filled-long 3 (numbered listing_words) (emptied_of s.args.state.now s.args.answer.now) s.args.told.now s.args.answer.now c.if-told-lt3.false
    (listing_told f.newly_emptied-a.result) f.newly_emptied-a.new.answer f.newly_emptied-a.ensures
    (t.tell_listing.result, t.tell_listing.new.told) t.tell_listing.ensures
