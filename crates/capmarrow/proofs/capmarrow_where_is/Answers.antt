-- A slice for what is told that is too short; else what the call answers is told.
use mathlib.Core.Path.{◌∙◌, ap}
use mathlib.Core.Option.{Option}
use Rattle.component.specs.declared.CellId.{CellId}
use Rattle.ask.specs.Answers.{where_of}
use Rattle.told.specs.Told.{Told}
use Rattle.telling.specs.Words.{telling, numbered, where_words}
use Rattle.telling.proofs.Laws.Tells.{tells-short, tells-long}
use Rattle.capmarrow.proofs.capmarrow_where_is.Goals as goal

pub returns-then-told-lt5 : goal.returns-then-told-lt5
returns-then-told-lt5 c =
    let s = c in
    tells-short 5 (numbered where_words (where_of s.args.state.now s.args.entity)) s.args.told.now c.if-told-lt5.true

pub returns : goal.returns
returns c =
    let t = c in
    let s = c in
    tells-long 5 (numbered where_words (where_of s.args.state.now s.args.entity)) s.args.told.now c.if-told-lt5.false (t.tell_where.result, t.tell_where.new.told)
    (t.tell_where.ensures ∙ ap (λ (a : Told (Option CellId)). telling (numbered where_words a) s.args.told.now) t.where_is.ensures)
