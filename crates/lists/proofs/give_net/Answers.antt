-- The cells of the rows are the net list.
use Prim.Native.Nat.{◌≤◌, ◌*◌}
use native.Mathlib.Omega.{arith}
use mathlib.Core.Bool.{true}
use mathlib.Core.Path.{refl, sym, ◌∙◌}
use lib.ListN.{length, take, replicate}
use Rattle.model.specs.Update.{most_cells}
use Rattle.layout.specs.Rows.{net_in}
use Rattle.layout.specs.Widths.{answer_width}
use Rattle.lists.proofs.Laws.Scans.{net-long}
use Rattle.lists.proofs.Laws.Occupied.{filled-take}
use Rattle.lists.proofs.Laws.Gives.{cells-listed}
use Rattle.lists.specs.Told.{there}
use Rattle.lists.proofs.give_net.Goals as goal

pub returns : goal.returns
returns c =
    let n = c.args.n in
    let rows = c.args.rows.now in
    let long : answer_width * n ≤ length c.net_into.new.words = omega (arith, c.net_into.auto.words, c.requires.1) in
    c.give.ensures
    ∙ cells-listed true n (answer_width * n) c.net_into.new.words (there (net_in n rows)) c.args.answer.now refl
    ((λ i. take (answer_width * sym (net-long rows n) i) (c.net_into.ensures i)) ∙ filled-take (replicate (answer_width * most_cells) 0) (net_in n rows)) long refl
