-- The keys of the rows are the ids.
use Prim.Native.Nat.{◌≤◌}
use native.Mathlib.Omega.{arith}
use mathlib.Core.Bool.{true}
use mathlib.Core.Path.{refl, sym, ◌∙◌}
use lib.ListN.{length, take, replicate}
use Rattle.model.specs.Lists.{keys}
use Rattle.table.specs.Rows.{number, table1}
use Rattle.table.specs.Laws.Words.{keys_length}
use Rattle.model.specs.Update.{most_cells}
use Rattle.layout.specs.Rows.{groups_in}
use Rattle.layout.specs.Widths.{group_width}
use Rattle.lists.proofs.Laws.Scans.{over-take}
use Rattle.lists.proofs.Laws.Gives.{numbers-listed, group-keys}
use Rattle.lists.specs.Told.{there}
use Rattle.lists.proofs.give_ids.Goals as goal

pub returns : goal.returns
returns c =
    let n = c.args.n in
    let rows = c.args.rows.now in
    let long : n ≤ length c.keys_into.new.words = omega (arith, c.keys_into.auto.words, c.requires.1) in
    c.give.ensures
    ∙ numbers-listed true n n c.keys_into.new.words (there (keys (groups_in n rows))) c.args.answer.now refl
    ((λ i. take (sym (keys_length number group_width n rows) i) (c.keys_into.ensures i)) ∙ over-take (replicate most_cells 0) (keys (table1 group_width n rows)) ∙ group-keys n rows) long refl
