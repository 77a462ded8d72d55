-- A slice for what is told that is too short; else what the call answers is told.
use mathlib.Core.Path.{◌∙◌, ap}
use mathlib.Core.Option.{Option}
use Rattle.told.specs.Told.{Told}
use Rattle.lookups.specs.declared.Shown.{Shown}
use Rattle.ask.specs.Answers.{group_of}
use Rattle.telling.specs.Words.{telling, numbered, group_words}
use Rattle.telling.proofs.Laws.Tells.{tells-short, tells-long}
use Rattle.capmarrow.proofs.capmarrow_group.Goals as goal

pub returns-then-told-lt10 : goal.returns-then-told-lt10
returns-then-told-lt10 c =
    let s = c in
    tells-short 10 (numbered group_words (group_of s.args.state.now s.args.id)) s.args.told.now c.if-told-lt10.true

pub returns : goal.returns
returns c =
    let t = c in
    let s = c in
    tells-long 10 (numbered group_words (group_of s.args.state.now s.args.id)) s.args.told.now c.if-told-lt10.false (t.tell_group.result, t.tell_group.new.told)
    (t.tell_group.ensures ∙ ap (λ (a : Told (Option Shown)). telling (numbered group_words a) s.args.told.now) t.group.ensures)
