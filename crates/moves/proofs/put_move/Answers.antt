-- `moves::put_move` meets its contract: the five words are made in an array of their own, and written at once.
use Rattle.std.proofs.Common.{sym, ap, ◌∙◌, ◌∷◌}
use Rattle.component.specs.declared.Cell.{Cell}
use Rattle.neighbourhood.specs.Answers.{answer_words}
use Rattle.moves.specs.Laws.Words.{moved-not, moved-there, words-made}
use Rattle.moves.proofs.put_move.Goals as goal

pub returns-then-not-has_room : goal.returns-then-not-has_room
returns-then-not-has_room c =
    let a = c.args in
    moved-not a.batch.now a.at a.e (sym c.has_room.ensures ∙ c.if-not-has_room.true)

pub returns : goal.returns
returns c =
    let a = c.args in
    moved-there a.batch.now a.at a.e c.write_row.new.s _ (sym c.has_room.ensures ∙ c.if-not-has_room.false) c.write_row.ensures
    (c.write_cell.ensures ∙ words-made a.e.entity c.stored.result ∙ ap (λ (x : Cell). a.e.entity ∷ answer_words x) c.stored.ensures)
