-- A slice for what is told that is too short; else what the call answers is told.
use Prim.Native.Nat.{ℕ}
use mathlib.Core.Path.{◌∙◌, ap}
use Rattle.ask.specs.Answers.{kind_of}
use Rattle.told.specs.Told.{Told}
use Rattle.telling.specs.Words.{telling, numbered, kind_words}
use Rattle.telling.proofs.Laws.Tells.{tells-short, tells-long}
use Rattle.capmarrow.proofs.capmarrow_kind_of.Goals as goal

pub returns-then-told-lt3 : goal.returns-then-told-lt3
returns-then-told-lt3 c =
    let s = c in
    tells-short 3 (numbered kind_words (kind_of s.args.state.now)) s.args.told.now c.if-told-lt3.true

pub returns : goal.returns
returns c =
    let t = c in
    let s = c in
    tells-long 3 (numbered kind_words (kind_of s.args.state.now)) s.args.told.now c.if-told-lt3.false (t.tell_kind.result, t.tell_kind.new.told)
    (t.tell_kind.ensures ∙ ap (λ (a : Told ℕ). telling (numbered kind_words a) s.args.told.now) t.kind_of.ensures)
