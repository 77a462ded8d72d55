-- The record put is the grown one where the group has one, else that of its first cell.
use Rattle.partition.specs.Laws.Held.{groups-table, group-row, group-few, group-grown, group-first, count-asks, count-done}
use mathlib.Core.Path.{sym, ◌∙◌}
use borrow.Author.Rules.{rules}
use Rattle.partition.proofs.count_cell.Goals.{in-Ok, in-Err}
use Rattle.partition.proofs.count_cell.Goals as goal

pub find-requires : goal.find-requires
find-requires c = let s = c in groups-table s.args.groups.now s.args.k s.requires.0 s.requires.1

pub overflow_mul-i : goal.overflow_mul-i
overflow_mul-i c = let s = c in let r = group-row s.args.groups.now s.args.k s.requires.0 s.requires.1 s.args.g c.in-Ok.i (sym c.in-Ok.is ∙ c.find.ensures) in search rules

pub grown_row-row-requires : goal.grown_row-row-requires
grown_row-row-requires c =
    let s = c in
    let e = sym c.in-Ok.is ∙ c.find.ensures in
    let r = group-row s.args.groups.now s.args.k s.requires.0 s.requires.1 s.args.g c.in-Ok.i e in
    let f = group-few s.args.groups.now s.args.k s.requires.0 s.requires.1 s.args.g c.in-Ok.i e s.requires.2 in
    (r.1, f.0, f.1, s.requires.4)

pub put-requires : goal.put-requires
put-requires c =
    let a = c.args in
    let l = c.requires.0 in
    let h = c.requires.1 in
    count-asks a.groups.now a.k l h a.g a.c a.m c.match-find.row
    (elim c.match-find.branch [
      | in-Ok w ↦ w.row-is ∙ w.grown_row-row.ensures ∙ group-grown a.groups.now a.k l h a.g w.in-Ok.i (sym w.in-Ok.is ∙ c.find.ensures) a.c a.m
      | in-Err w ↦ w.row-is ∙ group-first a.groups.now a.k l h a.g w.in-Err.field-0 a.c a.m (sym w.in-Err.is ∙ c.find.ensures)
    ]) c.requires.3

pub returns : goal.returns
returns c =
    let a = c.args in
    λ l h. count-done a.groups.now a.k l h a.g a.c a.m c.match-find.row
    (elim c.match-find.branch [
      | in-Ok w ↦ w.row-is ∙ w.grown_row-row.ensures ∙ group-grown a.groups.now a.k l h a.g w.in-Ok.i (sym w.in-Ok.is ∙ c.find.ensures) a.c a.m
      | in-Err w ↦ w.row-is ∙ group-first a.groups.now a.k l h a.g w.in-Err.field-0 a.c a.m (sym w.in-Err.is ∙ c.find.ensures)
    ]) c.requires.3 _ _ c.put.ensures
