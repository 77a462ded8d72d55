-- What point 2 is computed by.
use Rattle.std.specs.Prelude.{ℕ, ◌*◌, ◌≤◌, ◌≡◌, Bool, ◌&&◌, leb, length, drop}
use Rattle.std.proofs.Common.{arith, ◌∙◌, subst}
use Rattle.std.proofs.Math.Path.{refl, sym, ap}
use Rattle.std.proofs.Math.Bool.{true, false}
use mathlib.Core.List.{List}
use borrow.Author.Tests.{leb-true, le-leb}
use Rattle.component.specs.Laws.Tests.{both}
use Rattle.model.specs.Facts.{Asc}
use Rattle.model.specs.Lists.{equal, keys, values, is_ascending}
use Rattle.model.specs.Cells.{Cell, same, below}
use Rattle.model.specs.Update.{most_cells}
use Rattle.model.proofs.Laws.Tests.{T_true, true_of}
use Rattle.model.proofs.Laws.Orders.{cells as cell-order}
use Rattle.model.proofs.Laws.Members.{equal-in, equal-out}
use Rattle.model.proofs.Laws.Sorted.{ascending-asc}
use Rattle.table.specs.Rows.{cell, are_zero, table4, is_table4, is_table_of}
use Rattle.table.specs.Laws.Words.{keys_length}
use Rattle.layout.specs.Widths.{cell_width, id_width}
use Rattle.layout.specs.Rows.{entities_in, cells_in, ids_in}
use Rattle.layout.specs.Points.{tidy}
use Rattle.layout.proofs.Laws.Tables.{table-by}
use Rattle.points_check.specs.Points.{standing_in, cells_right}
use Rattle.points_check.specs.Laws.Readings.{cells-keys, ids-keys}
use Rattle.points_check.specs.Laws.Wanted.{true-false}

-- A test that cannot hold fails.
pub refuted : (b : Bool) → (b ≡ true → ⊥) → b ≡ false
refuted true f = absurd (f refl)
refuted false f = refl

-- The words behind the rows of a table are zero.
pub table-zeros : (v n : ℕ) (s : List ℕ) → is_table4 v n s ≡ true → are_zero (drop (v * n) s) ≡ true
unfolding is_table_of
table-zeros v n s e =
    let a = both (leb 4 v) _ e in
    let b = both (leb (v * n) (length s)) _ a.1 in
    (both (is_ascending below (keys (table4 v n s))) (are_zero (drop (v * n) s)) b.1).1

-- What point 2 says of the tables of cells and of ids.
pub record Tabled (ents : List ℕ) (n : ℕ) (cells : List ℕ) (m : ℕ) (ids : List ℕ) (k : ℕ) : Type 0 where
  pub few-cells : m ≤ most_cells
  pub few-ids : k ≤ most_cells
  pub cells-table : is_table4 cell_width m cells ≡ true
  pub ids-table : is_table4 id_width k ids ≡ true
  pub cells_are : keys (table4 cell_width m cells) ≡ standing_in n ents
  pub ids-are : keys (table4 id_width k ids) ≡ standing_in n ents

module _ (ents : List ℕ) (n : ℕ) (cells : List ℕ) (m : ℕ) (ids : List ℕ) (k : ℕ) (cells-long : cell_width * most_cells ≤ length cells) (ids-long : id_width * most_cells ≤ length ids) where
  abbrev right : Bool
  right = cells_right ents n cells m ids k

  pub tabled : right ≡ true → Tabled ents n cells m ids k
  unfolding cells_right
  tabled e =
      let a = both (tidy cell_width most_cells m cells) _ e in
      let b = both (tidy id_width most_cells k ids) _ a.1 in
      let st : List Cell = standing_in n ents in
      let c = both (equal same (keys (ids_in k ids)) st) (equal same (keys (cells_in m cells)) st) b.1 in
      let p = both (leb m most_cells) _ a.0 in
      let q = both (leb k most_cells) _ b.0 in
      let few : m ≤ most_cells = leb-true m most_cells p.0 in
      let few-k : k ≤ most_cells = leb-true k most_cells q.0 in
      let asc : Asc below st = ascending-asc cell-order (values (entities_in n ents)) in
      let cells_are : keys (table4 cell_width m cells) ≡ st = sym (cells-keys m cells) ∙ equal-out same cell-order.same-eq _ _ (T_true c.1) in
      let ids-are : keys (table4 id_width k ids) ≡ st = sym (ids-keys k ids) ∙ equal-out same cell-order.same-eq _ _ (T_true c.0) in
      record {
        few-cells = few;
        few-ids = few-k;
        cells-table = table-by cell cell_width most_cells m cells (omega arith) a.0 (λ f. omega arith) (subst (λ x. Asc below x) (sym cells_are) asc);
        ids-table = table-by cell id_width most_cells k ids (omega arith) b.0 (λ f. omega arith) (subst (λ x. Asc below x) (sym ids-are) asc);
        cells_are = cells_are;
        ids-are = ids-are;
      }

  -- As many cells have an id as are occupied.
  pub as_many : right ≡ true → m ≡ k
  as_many e =
      let t = tabled e in
      sym (keys_length cell cell_width m cells) ∙ ap length (t.cells_are ∙ sym t.ids-are) ∙ keys_length cell id_width k ids

  -- The ways out.
  pub cells-uncounted : (m ≡ k → ⊥) → false ≡ right
  cells-uncounted f = sym (refuted right (λ e. f (as_many e)))

  pub cells-no-table : is_table4 cell_width m cells ≡ false → false ≡ right
  cells-no-table f = sym (refuted right (λ e. true-false (tabled e).cells-table f))

  module _ (q : m ≡ k) where
    pub ids-no-table : is_table4 id_width m ids ≡ false → false ≡ right
    ids-no-table f = sym (refuted right (λ e. true-false (ap (λ i. is_table4 id_width i ids) q ∙ (tabled e).ids-table) f))

    pub cells-differ : equal same (keys (table4 id_width m ids)) (keys (table4 cell_width m cells)) ≡ false → false ≡ right
    cells-differ f =
        sym (refuted right (λ e.
        let t = tabled e in
        true-false (true_of (equal same (keys (table4 id_width m ids)) (keys (table4 cell_width m cells)))
        (equal-in same cell-order.same_self (ap (λ i. keys (table4 id_width i ids)) q ∙ t.ids-are ∙ sym t.cells_are))) f))

    pub cells-stood-in : m ≤ most_cells → is_table4 cell_width m cells ≡ true → is_table4 id_width m ids ≡ true → equal same (keys (table4 id_width m ids)) (keys (table4 cell_width m cells)) ≡ true
        → equal same (keys (table4 cell_width m cells)) (standing_in n ents) ≡ right
    unfolding cells_right
    cells-stood-in few tc ti e =
        let a : tidy cell_width most_cells m cells ≡ true = (λ i. le-leb m most_cells few i && table-zeros cell_width m cells tc i) in
        let b : tidy id_width most_cells k ids ≡ true =
        ap (λ i. tidy id_width most_cells i ids) (sym q) ∙ (λ i. le-leb m most_cells few i && table-zeros id_width m ids ti i) in
        let same_keys : keys (table4 id_width m ids) ≡ keys (table4 cell_width m cells) = equal-out same cell-order.same-eq _ _ (T_true e) in
        let ids-are : keys (ids_in k ids) ≡ keys (table4 cell_width m cells) = ids-keys k ids ∙ ap (λ i. keys (table4 id_width i ids)) (sym q) ∙ same_keys in
        twice (equal same (keys (table4 cell_width m cells)) (standing_in n ents))
        ∙ (λ i. sym a i && (sym b i && (equal same (sym ids-are i) (standing_in n ents) && equal same (sym (cells-keys m cells) i) (standing_in n ents))))
      where
        twice : (b : Bool) → b ≡ (b && b)
        twice true = refl
        twice false = refl
