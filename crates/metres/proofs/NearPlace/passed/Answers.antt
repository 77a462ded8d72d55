-- `metres::NearPlace::passed` meets its contract.
use Rattle.std.proofs.Common.{sym, ◌∙◌}
use Rattle.exact.specs.Units.{metre, exact}
use Rattle.exact.specs.Laws.Units.{metre-pos}
use Rattle.exact.specs.Laws.Whole.{said-zero}
use Rattle.metres.proofs.Laws.Cell.{passed-end, passed_on, passed-up}
use Rattle.metres.proofs.NearPlace.passed.Goals as goal
use Rattle.metres.proofs.NearPlace.passed.Goals.{else-self-via-then-self+else-not-is_past, else-self-via-else-self}

pub overflow_sub-result : goal.overflow_sub-result
overflow_sub-result c =
    (passed-end (exact c.args.self.metres) c.whole-n.result metre metre-pos c.whole-n.ensures (said-zero c.args.self.metres c.args.self.near.known c.if-self.true) (sym c.is_past.ensures ∙ c.if-not-is_past.true)).0

pub returns-then-not-is_past : goal.returns-then-not-is_past
returns-then-not-is_past c =
    (passed-end (exact c.args.self.metres) c.whole-n.result metre metre-pos c.whole-n.ensures (said-zero c.args.self.metres c.args.self.near.known c.if-self.true) (sym c.is_past.ensures ∙ c.if-not-is_past.true)).1

pub returns : goal.returns
returns c =
    elim c.else-self.branch [
      | else-self-via-then-self+else-not-is_past w ↦ passed_on (exact c.args.self.metres) c.whole-n.result metre metre-pos c.whole-n.ensures (said-zero c.args.self.metres c.args.self.near.known w.if-self.true) (sym w.is_past.ensures ∙ w.if-not-is_past.false)
      | else-self-via-else-self w ↦ passed-up (exact c.args.self.metres) c.whole-n.result metre metre-pos c.whole-n.ensures (said-zero c.args.self.metres c.args.self.near.known w.if-self.false)
    ]
