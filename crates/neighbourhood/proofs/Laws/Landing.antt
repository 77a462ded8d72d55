-- The step to an occupied cell stays within words of 64 bits.
use Rattle.std.specs.Prelude.{ℕ, ◌+◌, ◌*◌, ◌<◌, ◌≡◌, true, ◌&&◌, get_or}
use Rattle.std.proofs.Common.{arith, sym, ◌∙◌, ap}
use mathlib.Core.List.{List, Memᴰ as Mem}
use Rattle.model.specs.Lists.{keys}
use Rattle.model.specs.Cells.{Cell, Offset, touch_at, leads}
use Rattle.model.specs.Masks.{leads_to}
use Rattle.model.proofs.Laws.Tests.{and-snd, T_true}
use Rattle.model.proofs.Laws.Members.{any_out}
use Rattle.model.proofs.Laws.Slots.{leads-parts}
use Rattle.table.specs.Rows.{cell, cell_at, table4}
use Rattle.table.specs.Laws.Words.{keys_length, cell-at}
use Rattle.layout.specs.Widths.{cell_width}
use Rattle.neighbourhood.specs.Rows.{Lands}
use Rattle.neighbourhood.proofs.Laws.Lines.{mem-get_d}

module _ (s : List ℕ) (n : ℕ) (words : (j : ℕ) → get_or s j 0 < 18446744073709551616) where
  -- The cell of a row has words of 64 bits.
  row_words : (d : Cell) → Mem d (keys (table4 cell_width n s)) → (d.x < 18446744073709551616) × (d.y < 18446744073709551616) × (d.z < 18446744073709551616)
  row_words d m =
      let r = mem-get_d (keys (table4 cell_width n s)) d m in
      let e : d ≡ cell_at s (cell_width * r.0) = sym r.2 ∙ cell-at cell_width n s (omega arith) r.0 d (omega (arith, r.1, keys_length cell cell_width n s)) in (
        omega (arith, ap (λ (a : Cell). a.x) e, words (cell_width * r.0 + 3)),
        omega (arith, ap (λ (a : Cell). a.y) e, words (cell_width * r.0 + 2)),
        omega (arith, ap (λ (a : Cell). a.z) e, words (cell_width * r.0 + 1)),
      )

  -- A step that leads to one of the cells.
  pub lands : (kind : ℕ) (c : Cell) (o : Offset) → leads_to (touch_at kind) (keys (table4 cell_width n s)) c o ≡ true → Lands c o
  lands kind c o e =
      let r = any_out (λ d. touch_at kind c d && leads c d o) (keys (table4 cell_width n s)) (T_true e) in
      let p = leads-parts c r.0 o (and-snd (touch_at kind c r.0) _ r.2) in
      let w = row_words r.0 r.1 in
      record {
        x = (omega (arith, p.0), omega (arith, p.0, w.0));
        y = (omega (arith, p.1), omega (arith, p.1, w.1));
        z = (omega (arith, p.2), omega (arith, p.2, w.2));
      }
