-- What becomes of masks, row by row, and of a table.
use Rattle.std.specs.Prelude.{ℕ, zero, suc, ◌-◌, ◌≡◌, Bool, true, cond, ◌&&◌, List, ◌++◌, take, drop}
use Rattle.component.specs.Order.{same}
use Rattle.component.specs.declared.Cell.{Cell}
use Rattle.model.specs.Lists.{has, each}
use Rattle.model.specs.Cells.{offsets_of}
use Rattle.model.specs.Places.{offset_at}
use Rattle.model.specs.Masks.{with_bit, without_bit}
use Rattle.table.specs.Rows.{Kind, table_of, is_table_of}
use Rattle.layout.specs.Widths.{cell_mask}

-- The words are those of a table of n rows of width w, and it is t.
pub record TableIs {K : Type 0} (kind : Kind K) (w n : ℕ) (s : List ℕ) (t : List (K × List ℕ)) : Type 0 where
  pub table : is_table_of kind w n s ≡ true
  pub is : table_of kind w n s ≡ t

-- A mask that gains the bit w, or loses it.
unfoldable pub revised_mask : Bool → ℕ → ℕ → ℕ
revised_mask joins w m = cond joins (with_bit m w) (without_bit m w)

-- The words behind a row's cell, which are its mask.
unfoldable pub revised : Bool → ℕ → List ℕ → List ℕ
revised joins w ws = each (revised_mask joins w) ws

-- The same of a row, whose mask stands behind the four words of its cell.
unfoldable pub revised_row : Bool → ℕ → List ℕ → List ℕ
revised_row joins w row = take cell_mask row ++ revised joins w (drop cell_mask row)

-- The mask of e, which changes if e is d.
unfoldable pub told_one : Bool → Cell → ℕ → Cell → List ℕ → List ℕ
told_one joins d w e ws = cond (same d e) (revised joins w ws) ws

-- Whether the k-th offset is of the kind.
abbrev pub of_kind : ℕ → ℕ → Bool
of_kind kind k = offsets_of kind (offset_at k)

-- The mask of e once each of the cells near 1 to near k is told, those left out whose offset is not wanted: near n, which the offset n - 1 leads to, hears the bit 26 - n.
unfoldable pub told : (ℕ → Bool) → Bool → (ℕ → Cell) → ℕ → Cell → List ℕ → List ℕ
told wanted joins near zero e ws = ws
told wanted joins near (suc k) e ws = cond (wanted k) (told_one joins (near (suc k)) (26 - suc k) e (told wanted joins near k e ws)) (told wanted joins near k e ws)

-- The mask that tells which of the cells near 1 to near k are wanted and among some keys: bit n - 1 for near n.
unfoldable pub noted : (ℕ → Bool) → List Cell → (ℕ → Cell) → ℕ → ℕ
noted wanted among near zero = 0
noted wanted among near (suc k) = cond (wanted k && has same among (near (suc k))) (with_bit (noted wanted among near k) k) (noted wanted among near k)
