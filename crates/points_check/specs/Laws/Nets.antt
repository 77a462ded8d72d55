-- What point 8 is computed by.
use Rattle.std.specs.Prelude.{ℕ, ◌*◌, ◌≡◌, Bool, true, false, ◌&&◌, List, leb, length, drop}
use Rattle.std.proofs.Common.{arith, sym, ap, ◌∙◌}
use Rattle.std.proofs.Math.Bool.{not}
use Rattle.component.specs.Laws.Tests.{leb-same}
use Rattle.model.specs.Lists.{all, has, keys, is_ascending}
use Rattle.model.specs.Cells.{same, below}
use Rattle.model.specs.Update.{most_cells}
use Rattle.table.specs.Rows.{cell, are_zero, table4, is_table4, is_table_of}
use Rattle.table.specs.Laws.Words.{keys_length}
use Rattle.layout.specs.Widths.{cell_width, net_width}
use Rattle.layout.specs.Rows.{net_in}
use Rattle.layout.specs.Points.{tidy}
use Rattle.points_check.specs.Points.{nets_right}
use Rattle.points_check.specs.Laws.Readings.{cells-keys}
use Rattle.points_check.specs.Laws.Conjunctions.{nets-order}

-- Two tables of net lists, and what else is asked of them.
nets-are : (k l : ℕ) (o e : List ℕ) (i : Bool) → length o ≡ net_width * most_cells → length e ≡ net_width * most_cells
    → (is_table4 net_width k o && (is_table4 net_width l e && i))
    ≡ (tidy net_width most_cells k o && (tidy net_width most_cells l e && (is_ascending below (net_in k o) && (is_ascending below (net_in l e) && (leb (length (net_in k o)) most_cells && (leb (length (net_in l e)) most_cells && i))))))
unfolding is_table_of net_in
nets-are k l o e i ho he =
    let x : leb (net_width * k) (length o) ≡ leb k most_cells = leb-same (net_width * k) (length o) k most_cells (λ h. omega arith) (λ h. omega arith) in
    let y : leb (net_width * l) (length e) ≡ leb l most_cells = leb-same (net_width * l) (length e) l most_cells (λ h. omega arith) (λ h. omega arith) in
    (λ t. (x t && (is_ascending below (keys (table4 net_width k o)) && are_zero (drop (net_width * k) o))) && ((y t && (is_ascending below (keys (table4 net_width l e)) && are_zero (drop (net_width * l) e))) && i))
    ∙ nets-order (leb k most_cells) (leb l most_cells) (is_ascending below (keys (table4 net_width k o))) (are_zero (drop (net_width * k) o)) (is_ascending below (keys (table4 net_width l e))) (are_zero (drop (net_width * l) e)) i
    ∙ (λ t. tidy net_width most_cells k o && (tidy net_width most_cells l e && (is_ascending below (keys (table4 net_width k o)) && (is_ascending below (keys (table4 net_width l e)) && (leb (sym (keys_length cell net_width k o) t) most_cells && (leb (sym (keys_length cell net_width l e) t) most_cells && i))))))

module _ (cells : List ℕ) (m : ℕ) (occ : List ℕ) (k : ℕ) (emp : List ℕ) (l : ℕ) (occ-long : length occ ≡ net_width * most_cells) (emp-long : length emp ≡ net_width * most_cells) where
  abbrev first-held : Bool
  first-held = all (has same (keys (table4 cell_width m cells))) (net_in k occ)

  abbrev second-free : Bool
  second-free = all (λ c. not (has same (keys (table4 cell_width m cells)) c)) (net_in l emp)

  nets-is : (is_table4 net_width k occ && (is_table4 net_width l emp && (first-held && second-free))) ≡ nets_right cells m occ k emp l
  unfolding nets_right
  nets-is =
      nets-are k l occ emp (first-held && second-free) occ-long emp-long
      ∙ (λ i. tidy net_width most_cells k occ && (tidy net_width most_cells l emp
      && (is_ascending below (net_in k occ) && (is_ascending below (net_in l emp)
      && (leb (length (net_in k occ)) most_cells && (leb (length (net_in l emp)) most_cells
      && (all (has same (sym (cells-keys m cells) i)) (net_in k occ) && all (λ c. not (has same (sym (cells-keys m cells) i) c)) (net_in l emp))))))))

  -- The ways out.
  pub occupied-no-table : is_table4 net_width k occ ≡ false → false ≡ nets_right cells m occ k emp l
  occupied-no-table e = sym (sym nets-is ∙ ap (λ b. b && (is_table4 net_width l emp && (first-held && second-free))) e)

  pub emptied-no-table : is_table4 net_width k occ ≡ true → is_table4 net_width l emp ≡ false → false ≡ nets_right cells m occ k emp l
  emptied-no-table e f = sym (sym nets-is ∙ (λ i. e i && (f i && (first-held && second-free))))

  pub nets-by-tests : is_table4 net_width k occ ≡ true → is_table4 net_width l emp ≡ true → (a b : Bool) → a ≡ first-held → b ≡ second-free → (a && b) ≡ nets_right cells m occ k emp l
  nets-by-tests e f a b p q = (λ i. sym e i && (sym f i && (p i && q i))) ∙ nets-is
