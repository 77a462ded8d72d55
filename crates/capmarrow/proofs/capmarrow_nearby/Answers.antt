-- A slice for what is told that is too short; else what the call answers is told.
use mathlib.Core.Path.{◌∙◌, ap}
use Rattle.ask.specs.Answers.{nearby_of}
use Rattle.component.specs.declared.CellId.{CellId}
use Rattle.lists.specs.Told.{listing_told}
use Rattle.telling.specs.Given.{cell_of}
use Rattle.telling.specs.Words.{numbered, listing_words}
use Rattle.telling.proofs.Laws.Tells.{cell-given, filled-short, filled-long}
use Rattle.capmarrow.proofs.capmarrow_nearby.Goals as goal

pub returns-then-told-lt3 : goal.returns-then-told-lt3
returns-then-told-lt3 c =
    let s = c in
    filled-short 3 (numbered listing_words) (nearby_of s.args.state.now (cell_of s.args.grid s.args.x s.args.y s.args.z) s.args.answer.now) s.args.told.now s.args.answer.now c.if-told-lt3.true

pub returns : goal.returns
returns c =
    let t = c in
    let f = c in
    let s = c in
    filled-long 3 (numbered listing_words) (nearby_of s.args.state.now (cell_of s.args.grid s.args.x s.args.y s.args.z) s.args.answer.now) s.args.told.now s.args.answer.now c.if-told-lt3.false
    (listing_told f.nearby-a.result) f.nearby-a.new.answer (f.nearby-a.ensures ∙ ap (λ (d : CellId). nearby_of s.args.state.now d s.args.answer.now) (f.cell.ensures ∙ cell-given s.args.grid s.ranges.x s.ranges.y s.ranges.z))
    (t.tell_listing.result, t.tell_listing.new.told) t.tell_listing.ensures
