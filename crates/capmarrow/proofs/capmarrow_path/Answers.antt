-- A slice for what is told that is too short; else what the call answers is told.
use mathlib.Core.Path.{◌∙◌}
use Rattle.ask.specs.Answers.{path_of}
use Rattle.lists.specs.Told.{listing_told}
use Rattle.telling.specs.Given.{cell_of}
use Rattle.telling.specs.Words.{numbered, listing_words}
use Rattle.telling.proofs.Laws.Tells.{cell-given, filled-short, filled-long}
use Rattle.capmarrow.proofs.capmarrow_path.Goals as goal

pub returns-then-told-lt3 : goal.returns-then-told-lt3
returns-then-told-lt3 c =
    let s = c in
    filled-short 3 (numbered listing_words) (path_of s.args.state.now (cell_of s.args.grid s.args.x s.args.y s.args.z) (cell_of s.args.to_grid s.args.to_x s.args.to_y s.args.to_z) s.args.answer.now) s.args.told.now s.args.answer.now c.if-told-lt3.true

pub returns : goal.returns
returns c =
    let t = c in
    let f = c in
    let d = f in
    let i = d in
    let s = i in
    let p = d.cell-from.ensures ∙ cell-given s.args.grid s.ranges.x s.ranges.y s.ranges.z in
    let q = d.cell-to.ensures ∙ cell-given s.args.to_grid s.ranges.to_x s.ranges.to_y s.ranges.to_z in
    filled-long 3 (numbered listing_words) (path_of s.args.state.now (cell_of s.args.grid s.args.x s.args.y s.args.z) (cell_of s.args.to_grid s.args.to_x s.args.to_y s.args.to_z) s.args.answer.now) s.args.told.now s.args.answer.now i.if-told-lt3.false
    (listing_told f.path-a.result) f.path-a.new.answer (f.path-a.ensures ∙ (λ k. path_of s.args.state.now (p k) (q k) s.args.answer.now))
    (t.tell_listing.result, t.tell_listing.new.told) t.tell_listing.ensures
