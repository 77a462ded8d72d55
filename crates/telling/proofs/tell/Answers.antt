-- A row that is written at the first place.
use mathlib.Core.Path.{◌∙◌}
use Rattle.telling.proofs.Laws.Tells.{over-front}
use Rattle.telling.proofs.tell.Goals as goal

pub returns : goal.returns
returns c =
    let s = c in c.write_row.ensures
    ∙ over-front s.args.told.now s.args.words.now
