-- After k neighbours the ids found are those at the first k of the kind.
use Rattle.layout.specs.Widths.{id_width, cell_id}
use Rattle.partition.specs.Laws.Found.{near-touches, found_none, found-more, found-same, found_left, tried-all}
use Rattle.partition.specs.Laws.Ids.{row-found, row-missing}
use Rattle.partition.specs.Laws.Held.{ids-table}
use Rattle.partition.specs.Held.{HeldRows, tried, ids_at}
use Rattle.model.specs.Groups.{Ids}
use Rattle.model.specs.Cells.{Cell, below}
use Rattle.model.specs.Lists.{keys}
use Rattle.table.specs.Rows.{cell, table_of, place_of}
use lib.ListN.{length, get_or}
use mathlib.Core.List.{List}
use mathlib.Core.Path.{◌≡◌, sym, ap, ◌∙◌}
use native.Mathlib.Omega.{arith}
use Prim.Native.Nat.{ℕ, ◌+◌, ◌*◌, ◌<◌, ◌≤◌}
use Rattle.std.proofs.Common.{Ok}
use borrow.Author.Rules.{rules}
use Rattle.partition.proofs.found_at.Goals.{then-has_offset+in-Ok, then-has_offset+in_default, else-has_offset}
use Rattle.partition.proofs.found_at.Goals as goal

-- A row that is found is within the words.
inside : (ids : List ℕ) (n : ℕ) (t : Ids) → HeldRows ids n t → (d : Cell) (i : ℕ) → Ok i ≡ place_of below (keys (table_of cell id_width n ids)) d → (i < n) × (id_width * n ≤ length ids)
inside ids n t h d i e = ((row-found ids n t h d i e).0, h.fits)

pub loop-k-init : goal.loop-k-init
loop-k-init c = let e = c.new-found.ensures in (omega (arith, ap length e), λ t h. e ∙ found_none c.args.kind t c.args.c)

pub find_near-p-requires : goal.find_near-p-requires
find_near-p-requires c = let s = c in ids-table s.args.ids.now s.args.n s.requires.0 s.requires.1

pub overflow_mul-i : goal.overflow_mul-i
overflow_mul-i c = let s = c in let w = inside s.args.ids.now s.args.n s.requires.0 s.requires.1 _ _ (sym c.in-Ok.is ∙ c.find_near-p.ensures) in search rules

pub overflow_add-i : goal.overflow_add-i
overflow_add-i c = let s = c in let w = inside s.args.ids.now s.args.n s.requires.0 s.requires.1 _ _ (sym c.in-Ok.is ∙ c.find_near-p.ensures) in search rules

pub offset_bounds-ids-i : goal.offset_bounds-ids-i
offset_bounds-ids-i c = let s = c in let w = inside s.args.ids.now s.args.n s.requires.0 s.requires.1 _ _ (sym c.in-Ok.is ∙ c.find_near-p.ensures) in search rules

pub bounds-ids-i : goal.bounds-ids-i
bounds-ids-i c = let s = c in let w = inside s.args.ids.now s.args.n s.requires.0 s.requires.1 _ _ (sym c.in-Ok.is ∙ c.find_near-p.ensures) in search rules

pub loop-k-preserved : goal.loop-k-preserved
loop-k-preserved c =
    let s = c in
    let a = c.args in
    let l = c.loop-k in
    let v = l.invariant in
    let near = near-touches a.kind a.c s.requires.2 l.k (omega arith) ∙ sym c.has_offset.ensures in
    elim c.if-has_offset.branch [
      | then-has_offset+in-Ok w ↦
          let g = get_or a.ids.now (id_width * w.in-Ok.i + cell_id) 0 in
          let e = λ (t : Ids) (h : HeldRows a.ids.now a.n t). (row-found a.ids.now a.n t h w.neighbour_of.result w.in-Ok.i (sym w.in-Ok.is ∙ w.find_near-p.ensures)).1 in
          let p = w.push.ensures in (
            rw w.found-is (omega (arith, p.len)),
            λ t h. rw w.found-is (p.items ∙ found-more a.kind t a.c l.k l.found.items (v.1 t h) (near ∙ w.if-has_offset.true) g w.neighbour_of.result w.neighbour_of.ensures (e t h)),
          )
      | then-has_offset+in_default w ↦ (
        rw w.found-is (omega arith),
        λ t h. rw w.found-is (found-same a.kind t a.c l.k l.found.items (v.1 t h) (near ∙ w.if-has_offset.true) w.neighbour_of.result w.neighbour_of.ensures
            (row-missing a.ids.now a.n t h w.neighbour_of.result w.in_default.field-0 (sym w.in_default.is ∙ w.find_near-p.ensures))),
      )
      | else-has_offset w ↦ (
        rw w.found-is (omega arith),
        λ t h. rw w.found-is (found_left a.kind t a.c l.k l.found.items (v.1 t h) (near ∙ w.if-has_offset.false)),
      )
    ]

pub returns : goal.returns
returns c =
    let s = c in
    let e : c.loop-k.k ≡ 26 = omega arith in
    λ t h. c.loop-k.invariant.1 t h ∙ ap (λ (k : ℕ). ids_at t (tried s.args.kind s.args.c k)) e ∙ tried-all s.args.kind s.args.c s.requires.2 t h.asc
