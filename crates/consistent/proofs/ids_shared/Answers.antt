-- Point 4, over the words of the occupied cells and of the cells with an id.
use native.Mathlib.Omega.{arith}
use mathlib.Core.Path.{sym, ap, ◌∙◌, subst₂}
use mathlib.Core.List.{List}
use Prim.Native.Nat.{ℕ}
use lib.ListN.{length}
use Rattle.model.specs.Lists.{keys}
use Rattle.model.specs.Cells.{touch_at}
use Rattle.model.specs.Shared.{shared_in}
use Rattle.table.specs.Rows.{table4}
use Rattle.layout.specs.Widths.{cell_width, id_width}
use Rattle.layout.specs.Rows.{cells_in, ids_in}
use Rattle.layout.specs.State.{cell_words, cell_count, kind_of}
use Rattle.neighbourhood.specs.Standing.{Cells, HasTable}
use Rattle.consistent.specs.Laws.Points.{asks-parts, cells-at-kind, point4-is}
use Rattle.consistent.proofs.ids_shared.Goals as goal

pub parts_right-requires : goal.parts_right-requires
parts_right-requires c =
    let s = c in
    let a = asks-parts s.args.state.now.words.now s.args.state.now.long s.requires.0 s.requires.1 in
    let f = c.cells-m.ensures.words in
    let m = c.cells-m.ensures.count in
    let g = c.ids.ensures.words in (
      subst₂ (λ (n : ℕ) (l : List ℕ). HasTable l n) (sym m) (sym f) a.0,
      (λ i. keys (table4 id_width (m i) (g i))) ∙ a.1 ∙ (λ i. keys (table4 cell_width (sym m i) (sym f i))),
      omega (arith, a.2, m, ap length g),
      omega (arith, a.3, m),
    )

pub returns : goal.returns
returns c =
    let s = c in
    let w = s.args.state.now.words.now in
    let m = c.cells-m.ensures.count in
    let f = c.cells-m.ensures.words in
    c.parts_right.ensures (kind_of w) (cells_in (cell_count w) (cell_words w)) (subst₂ (λ (n : ℕ) (l : List ℕ). Cells (kind_of w) l n (cells_in (cell_count w) (cell_words w))) (sym m) (sym f) (cells-at-kind w s.args.state.now.long s.requires.0 s.requires.1))
    ∙ (λ i. shared_in (touch_at (kind_of w)) (ids_in (m i) (c.ids.ensures.words i)))
    ∙ point4-is w s.args.state.now.long s.requires.0
