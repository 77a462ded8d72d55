-- The loop writes the cell of the next set bit behind those that are written.
-- The answer has space for the cells of the first bits.
-- A set bit gives one cell more.
use Prim.Native.Nat.{ℕ, ◌+◌, ◌*◌, ◌≤◌, ◌<◌}
use native.Mathlib.Omega.{arith}
use mathlib.Core.Path.{◌≡◌, sym, ap, ◌∙◌}
use mathlib.Core.Bool.{true}
use mathlib.Core.List.{List, [], ◌∷◌, ◌++◌}
use lib.ListN.{length, length-append}
use borrow.Author.Rules.{rules}
use Rattle.model.specs.Lists.{keys}
use Rattle.model.specs.Cells.{Cell, touch_at}
use Rattle.model.specs.Masks.{bit, touching}
use Rattle.layout.specs.Widths.{answer_width}
use Rattle.neighbourhood.specs.Rows.{row_cell, row_mask, row_near}
use Rattle.neighbourhood.proofs.Laws.Listing.{near_up_to, near_none, near_first, near-all, near-few, near-yes, near-no}
use Rattle.neighbourhood.proofs.Laws.Reads.{row-list, row-bit}
use Rattle.neighbourhood.specs.Answers.{filled, NearbyAsked}
use Rattle.neighbourhood.proofs.Laws.Filling.{written-first, written-end, written_same, written_back}
use Rattle.neighbourhood.proofs.nearby_into.Goals.{then-has, else-has}
use Rattle.neighbourhood.proofs.nearby_into.Goals as goal

space : (words : List ℕ) (n row : ℕ) (answer : List ℕ) → NearbyAsked words n row answer → (k : ℕ) → answer_width * length (near_up_to words row k) ≤ length answer
space words n row answer q k = omega (arith, q.space, ap length (row-list words n q.table q.cells row q.there), near-few words row k)

longer : (words : List ℕ) (row k e : ℕ) → k < 26 → bit (row_mask words row) k ≡ true → e ≡ length (near_up_to words row k) → e + 1 ≡ length (near_up_to words row (k + 1))
longer words row k e h b l =
    omega (arith, ap length (near-yes words row k h b), length-append (near_up_to words row k) (row_near words row k ∷ []))

room : (words : List ℕ) (n row : ℕ) (answer : List ℕ) → NearbyAsked words n row answer → (k e : ℕ) → k < 26 → bit (row_mask words row) k ≡ true → e ≡ length (near_up_to words row k)
    → answer_width * e + answer_width ≤ length answer
room words n row answer q k e h b l = omega (arith, longer words row k e h b l, space words n row answer q (k + 1))

pub loop-k-init : goal.loop-k-init
unfolding row_cell
loop-k-init c =
    let a = c.args in
    let z = near_none a.cells.now a.row in
    let e = c.cell_at.ensures in (
      sym (ap length z),
      written-first a.answer.now c.cell_at.result _ c.write_cell.ensures (z ∙ ap (λ (a : Cell). a ∷ []) (sym e)),
    )

pub near_cell-d-requires : goal.near_cell-d-requires
unfolding row_mask
near_cell-d-requires c =
    let a = c.args in
    let q = c.requires in
    let h = c.loop-k-test.true in
    (q.cells.fits, q.there, h, (q.kind, sym (row-bit a.cells.now a.n q.table q.cells a.row q.there c.loop-k.k h) ∙ sym c.has.ensures ∙ c.if-has.true))

pub overflow_mul-e : goal.overflow_mul-e
unfolding row_mask
overflow_mul-e c =
    let a = c.args in
    let h = room a.cells.now a.n a.row a.answer.now c.requires c.loop-k.k c.loop-k.e c.loop-k-test.true (sym c.has.ensures ∙ c.if-has.true) c.loop-k.invariant.0 in
    search rules

pub write_cell-requires-then-has : goal.write_cell-requires-then-has
unfolding row_mask
write_cell-requires-then-has c =
    let a = c.args in
    omega (arith, c.loop-k.auto.answer, c.write_cell.auto.answer, room a.cells.now a.n a.row a.answer.now c.requires c.loop-k.k c.loop-k.e c.loop-k-test.true (sym c.has.ensures ∙ c.if-has.true) c.loop-k.invariant.0)

pub overflow_add-e : goal.overflow_add-e
unfolding row_mask
overflow_add-e c =
    let a = c.args in
    let h = room a.cells.now a.n a.row a.answer.now c.requires c.loop-k.k c.loop-k.e c.loop-k-test.true (sym c.has.ensures ∙ c.if-has.true) c.loop-k.invariant.0 in
    search rules

pub loop-k-preserved : goal.loop-k-preserved
unfolding row_mask
loop-k-preserved c =
    let a = c.args in
    let l = c.loop-k in
    let h = c.loop-k-test.true in
    let done = near_up_to a.cells.now a.row l.k in
    elim c.if-has.branch [
      | then-has w ↦ rw (w.e-is, w.answer-is) (
        longer a.cells.now a.row l.k l.e h (sym c.has.ensures ∙ w.if-has.true) l.invariant.0,
        written-end l.invariant.1 _ (near_up_to a.cells.now a.row (l.k + 1)) l.e w.near_cell-d.result l.invariant.0 w.write_cell-then-has.ensures
            (near-yes a.cells.now a.row l.k h (sym c.has.ensures ∙ w.if-has.true) ∙ ap (λ (x : Cell). done ++ (x ∷ [])) (sym w.near_cell-d.ensures)),
      )
      | else-has w ↦ rw (w.e-is, w.answer-is) (
          let e = near-no a.cells.now a.row l.k h (sym c.has.ensures ∙ w.if-has.false) in
          (l.invariant.0 ∙ sym (ap length e), written_same l.invariant.1 (near_up_to a.cells.now a.row (l.k + 1)) e)
          )
    ]

pub returns : goal.returns
returns c =
    let a = c.args in
    let l = c.loop-k in
    λ kind t k.
    let f = near_first a.cells.now a.row l.k in
    let e : near_up_to a.cells.now a.row l.k ≡ row_cell a.cells.now a.row ∷ touching (touch_at kind) (keys t) (row_cell a.cells.now a.row) =
    near-all a.cells.now a.row l.k c.loop-k-test.false
    ∙ ap (λ (m : List Cell). row_cell a.cells.now a.row ∷ m) (row-list a.cells.now a.n t k a.row c.requires.there) in
    record {
      number = l.invariant.0 ∙ ap length e;
      written = written_back l.invariant.1 a.answer.now c.cell_at.result (row_cell a.cells.now a.row) f.0 c.write_cell.ensures f.1 ∙ ap (filled a.answer.now) e;
    }
