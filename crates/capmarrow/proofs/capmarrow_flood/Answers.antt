-- A slice for what is told that is too short; else what the call answers is told.
use mathlib.Core.Path.{◌∙◌}
use mir.Facts.{to_z-of_z}
use Rattle.ask.specs.Answers.{flood_of}
use Rattle.floods.specs.Told.{flooding_told}
use Rattle.telling.specs.Given.{cell_of, depth_given}
use Rattle.telling.specs.Words.{numbered, flooding_words}
use Rattle.telling.proofs.Laws.Tells.{cell-given, filled-short, filled-long}
use Rattle.capmarrow.proofs.capmarrow_flood.Goals as goal

pub returns-then-told-lt3 : goal.returns-then-told-lt3
returns-then-told-lt3 c =
    let s = c in
    filled-short 3 (numbered flooding_words) (flood_of s.args.state.now (cell_of s.args.grid s.args.x s.args.y s.args.z) (depth_given s.args.deep s.args.depth) s.args.budget s.args.answer.now) s.args.told.now s.args.answer.now c.if-told-lt3.true

pub returns : goal.returns
returns c =
    let t = c in
    let f = c in
    let d = f in
    let s = c in
    filled-long 3 (numbered flooding_words) (flood_of s.args.state.now (cell_of s.args.grid s.args.x s.args.y s.args.z) (depth_given s.args.deep s.args.depth) s.args.budget s.args.answer.now) s.args.told.now s.args.answer.now c.if-told-lt3.false
    (flooding_told f.flood-a.result) f.flood-a.new.answer
    (f.flood-a.ensures
    ∙ (λ i. flood_of s.args.state.now (d.cell.ensures i) (d.depth_given.ensures i) s.args.budget s.args.answer.now)
    ∙ (λ i. flood_of s.args.state.now (cell-given s.args.grid s.ranges.x s.ranges.y s.ranges.z i) (depth_given s.args.deep (to_z-of_z s.ranges.depth i)) s.args.budget s.args.answer.now))
    (t.tell_flooding.result, t.tell_flooding.new.told) t.tell_flooding.ensures
