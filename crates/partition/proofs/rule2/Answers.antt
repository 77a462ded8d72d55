-- The rows that stay, with zeros behind them, are the table without the emptied cells.
use Rattle.partition.specs.Laws.Leave.{sift-all}
use Rattle.partition.proofs.rule2.Goals as goal

pub returns : goal.returns
returns c =
    let s = c in
    let a = s.args in
    let f = c.sift-r in (
      f.ensures.0,
      λ kind next g l h k.
          record {
            rows = sift-all a.ids.now _ _ a.n g.ids h.rows l f.result f.ensures.0 f.ensures.1 f.auto.ids (f.ensures.2 g.ids l h.rows k) c.write_zeros.ensures;
            is-next = h.is-next;
          },
    )
