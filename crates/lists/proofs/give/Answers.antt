-- The list fits its slice, or the words needed are told.
use Prim.Native.Nat.{ℕ}
use mathlib.Core.Bool.{Bool}
use mathlib.Core.Path.{◌∙◌}
use Rattle.told.specs.Told.{done}
use Rattle.told.specs.Laws.Fitting.{fitted-long, fitted-fits}
use Rattle.lists.proofs.give.Goals as goal

pub returns-then-answer-words : goal.returns-then-answer-words
returns-then-answer-words c = fitted-long {B = Bool × ℕ} (c.args.found, c.args.count) c.args.words.now c.args.answer.now c.if-answer-words.true

pub returns : goal.returns
returns c = (λ i. (done {B = Bool × ℕ} (c.args.found, c.args.count), c.write_row.ensures i)) ∙ fitted-fits {B = Bool × ℕ} (c.args.found, c.args.count) c.args.words.now c.args.answer.now c.if-answer-words.false
