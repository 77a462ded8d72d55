-- `telling::reports::tell_event` meets its contract: the words of an event are made, and written at the front.
use Rattle.std.proofs.Common.{ℕ, ◌∙◌, ap, rules, List, [], ◌∷◌, ◌++◌}
use Rattle.std.specs.Prelude.{Option, Some, Result, Ok}
use Rattle.refusal.specs.declared.Refusal.{Refusal}
use Rattle.refusal.specs.Forms.{Refused}
use Rattle.metres.specs.declared.Placing.{Placing}
use Rattle.metres.specs.Answer.{answer_told}
use Rattle.moves.specs.Words.{move_words}
use Rattle.telling.specs.Reports.{event_told}
use Rattle.telling.proofs.Laws.Tells.{telling-by}
use Rattle.telling.proofs.Laws.Reports.{words-between}
use Rattle.telling.proofs.reports.tell_event.Goals as goal

pub returns-in-Ok-Some : goal.returns-in-Ok-Some
returns-in-Ok-Some c =
    let v = c.in-Ok-Some in
    telling-by (λ (a : Result (Option Placing) Refusal). event_told (answer_told a)) c.args.a (Ok (Some v.e)) (search (rules, v.is, v.field-0-is, v.e-is)) c.args.told.now c.tell.new.told _ c.tell.ensures
    (ap (λ (x : Refused × List ℕ). x.1) c.put_move.ensures ∙ words-between v.e _ _ _ _ _
    ∙ (λ i. 1 ∷ (move_words v.e ++ (c.bits.ensures i ∷ c.bits-in-Ok-Some.ensures i ∷ c.bits-in-Ok-Some-2.ensures i ∷ c.said.ensures i ∷ c.error_bits.ensures i ∷ []))))
