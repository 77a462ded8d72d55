-- `capmarrow::reports::capmarrow_event_of` meets its contract: a slice for what is told that is too short; else what the report makes.
use Rattle.std.proofs.Common.{◌∙◌, ap}
use Rattle.metres.specs.declared.Report.{Report}
use Rattle.metres.specs.Answer.{answer, Answer}
use Rattle.telling.specs.Words.{telling}
use Rattle.telling.specs.Reports.{frame_of, event_told}
use Rattle.telling.proofs.Laws.Tells.{tells-short, tells-long}
use Rattle.capmarrow.proofs.reports.capmarrow_event_of.Goals as goal

pub returns-then-told-lt11 : goal.returns-then-told-lt11
returns-then-told-lt11 c = tells-short 11 _ c.args.told.now c.if-told-lt11.true

pub returns : goal.returns
returns c =
    let a = c.args in
    tells-long 11 _ a.told.now c.if-told-lt11.false (c.tell_event.result, c.tell_event.new.told)
    (c.tell_event.ensures
    ∙ ap (λ (x : Answer). telling (event_told x) a.told.now)
    (c.event_of.ensures ∙ ap (λ (r : Report). answer (frame_of a.origin_x a.origin_y a.origin_z a.edge) r a.entity a.grid) c.report_given-report.ensures))
