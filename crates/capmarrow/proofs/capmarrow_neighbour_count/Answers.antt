-- A slice for what is told that is too short; else what the call answers is told.
use Prim.Native.Nat.{ℕ}
use mathlib.Core.Path.{◌∙◌, ap}
use mathlib.Core.Option.{Option}
use Rattle.ask.specs.Answers.{count_of}
use Rattle.told.specs.Told.{Told}
use Rattle.telling.specs.Given.{cell_of}
use Rattle.telling.specs.Words.{telling, numbered, number_words}
use Rattle.telling.proofs.Laws.Tells.{cell-given, tells-short, tells-long}
use Rattle.capmarrow.proofs.capmarrow_neighbour_count.Goals as goal

pub returns-then-told-lt3 : goal.returns-then-told-lt3
returns-then-told-lt3 c =
    let s = c in
    tells-short 3 (numbered number_words (count_of s.args.state.now (cell_of s.args.grid s.args.x s.args.y s.args.z))) s.args.told.now c.if-told-lt3.true

pub returns : goal.returns
returns c =
    let t = c in
    let f = t in
    let s = c in
    tells-long 3 (numbered number_words (count_of s.args.state.now (cell_of s.args.grid s.args.x s.args.y s.args.z))) s.args.told.now c.if-told-lt3.false (t.tell_count.result, t.tell_count.new.told)
    (t.tell_count.ensures
    ∙ ap (λ (a : Told (Option ℕ)). telling (numbered number_words a) s.args.told.now) (f.neighbour_count.ensures ∙ ap (count_of s.args.state.now) (f.cell.ensures ∙ cell-given s.args.grid s.ranges.x s.ranges.y s.ranges.z)))
