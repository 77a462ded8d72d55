-- The cell is that of a row, so its words are words of 64 bits.
use native.Mathlib.Omega.{arith}
use mathlib.Core.Path.{sym, ap, ◌∙◌, subst}
use Rattle.model.specs.Cells.{Cell, shift}
use Rattle.model.specs.Places.{offset_at}
use Rattle.neighbourhood.specs.Rows.{Lands, row_cell, row_near}
use Rattle.neighbourhood.proofs.Laws.Landing.{lands}
use Rattle.neighbourhood.proofs.near_cell.Goals as goal

pub near_of-requires : goal.near_of-requires
unfolding row_cell
near_of-requires c =
    let s = c in (
      s.requires.2,
      subst (λ (a : Cell). Lands a (offset_at s.args.k)) (sym c.cell_at.ensures)
          (lands s.args.cells.now s.args.n (λ j. omega (arith, c.type_inv.cells j)) s.requires.3.0 (row_cell s.args.cells.now s.args.i) (offset_at s.args.k) s.requires.3.1),
    )

pub returns : goal.returns
unfolding row_cell row_near
returns c = c.near_of.ensures ∙ ap (λ (a : Cell). shift a (offset_at c.args.k)) c.cell_at.ensures
